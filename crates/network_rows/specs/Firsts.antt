-- The first place of each kind of fault, while a document is read.
use Rattle.std.specs.Prelude.{List, [], ◌∷◌, Option, Some, None, option_map, unwrap_or}
use Rattle.network_rows.specs.declared.fault.Place.{Place}
use Rattle.network_rows.specs.declared.fault.KeyFault.{KeyFault}
use Rattle.network_rows.specs.declared.fault.KeyFault.TheVariants as sort
use Rattle.network_rows.specs.declared.fault.DescFault.{DescFault}
use Rattle.network_rows.specs.declared.fault.DescFault.TheVariants.{Missing, WrongKind, OutOfLimit}
use Rattle.network_rows.specs.declared.first_places.FirstPlaces.{FirstPlaces}

abbrev pub nowhere : FirstPlaces
nowhere = record { missing = None; wrong_kind = None; out_of_limit = None }

-- with one more fault, which is the first of its sort unless there was one before
abbrev pub stored : FirstPlaces → KeyFault → Place → FirstPlaces
stored firsts sort.Missing place = record firsts { missing = Some (unwrap_or firsts.missing place) }
stored firsts sort.WrongKind place = record firsts { wrong_kind = Some (unwrap_or firsts.wrong_kind place) }
stored firsts sort.OutOfLimit place = record firsts { out_of_limit = Some (unwrap_or firsts.out_of_limit place) }

-- with these faults, one after another
abbrev pub all_stored : FirstPlaces → List (KeyFault × Place) → FirstPlaces
all_stored firsts [] = firsts
all_stored firsts (f ∷ fs) = all_stored (stored firsts f.0 f.1) fs

-- the fault that is told, from the first place of each sort
abbrev pub told_fault : Option Place → Option Place → Option Place → Option DescFault
told_fault (Some place) wrong_kind out_of_limit = Some (Missing place)
told_fault None (Some place) out_of_limit = Some (WrongKind place)
told_fault None None out_of_limit = option_map OutOfLimit out_of_limit
