-- The faults 2 to 4 of a document, in their order: by number; then by section, row and key, a whole row first of all.
use Rattle.std.specs.Prelude.{◌≡◌, ℕ, ◌+◌, Bool, true, false, not, if◌then◌else◌, List, [], ◌∷◌, ◌++◌, map, Option, Some, None, ⊤, flat_map}
use Rattle.std.specs.Option.{option_map_or}
use Rattle.toml.specs.Data.{Data, Members, as_array, as_table, get_member}
use Rattle.toml.specs.Parse.{parse_document}
use Rattle.network_rows.specs.declared.key.Key.TheVariants as key
use Rattle.network_rows.specs.declared.key.Section.{Section}
use Rattle.network_rows.specs.declared.key.Section.TheVariants.{Top}
use Rattle.network_rows.specs.declared.key.Word.TheVariants as word
use Rattle.network_rows.specs.declared.rule.Presence.{Presence}
use Rattle.network_rows.specs.declared.rule.Presence.TheVariants.{Required, ForSwitches, Optional, OptionalWord, MayBeAbsent}
use Rattle.network_rows.specs.declared.rule.Rule.{Rule}
use Rattle.network_rows.specs.declared.fault.Place.{Place}
use Rattle.network_rows.specs.declared.fault.KeyFault.{KeyFault}
use Rattle.network_rows.specs.declared.fault.KeyFault.TheVariants as sort
use Rattle.network_rows.specs.declared.fault.DescFault.{DescFault}
use Rattle.network_rows.specs.declared.fault.DescFault.TheVariants.{Syntax, Missing, WrongKind, OutOfLimit, OutOfMemory}
use Rattle.network_rows.specs.Keys.{section_text}
use Rattle.network_rows.specs.Values.{value_at, has_word, list_of}
use Rattle.network_rows.specs.ValueTypes.{has_type, keeps_limit}
use Rattle.network_rows.specs.Table.{lists, keys_of}

-- ---- one key of one row

-- the row may have such a key
abbrev pub applies : Presence → Members → Bool
applies Required row = true
applies ForSwitches row = has_word key.Kind word.Switch row
applies (Optional default) row = true
applies (OptionalWord default) row = true
applies MayBeAbsent row = true

-- a row that may have it has to have it
abbrev pub is_needed : Presence → Bool
is_needed Required = true
is_needed ForSwitches = true
is_needed (Optional default) = false
is_needed (OptionalWord default) = false
is_needed MayBeAbsent = false

-- what is wrong with the value at a key: it is absent, of another type, or outside the limit
abbrev pub fault_of_value : Rule → Members → Option Data → Option KeyFault
fault_of_value rule row None = if is_needed rule.presence then (Some sort.Missing) else None
fault_of_value rule row (Some d) =
    if not (has_type rule.value_type d) then (Some sort.WrongKind) else (if not (keeps_limit rule.value_type row d) then (Some sort.OutOfLimit) else None)

-- what is wrong with a key of a row
abbrev pub fault_in : Rule → Members → Option KeyFault
fault_in rule row = if applies rule.presence row then (fault_of_value rule row (value_at rule.key row)) else None

-- ---- all of a document, in its order

abbrev pub found : Option KeyFault → Place → List (KeyFault × Place)
found None place = []
found (Some fault) place = (fault, place) ∷ []

-- the faults of the keys of a table
abbrev pub faults_at : Section → Option ℕ → Members → Rule → List (KeyFault × Place)
faults_at section number row rule = found (fault_in rule row) (record { section = section; row = number; key = Some rule.key })

abbrev pub faults_in_table : Section → Option ℕ → Members → List (KeyFault × Place)
faults_in_table section number row = flat_map (faults_at section number row) (keys_of section)

-- something is not what it should be as a whole: a row is no table, or a section, with the number 0, is no list
abbrev pub fault_of_whole : Section → ℕ → List (KeyFault × Place)
fault_of_whole section number = (sort.WrongKind, record { section = section; row = Some number; key = None }) ∷ []

abbrev pub faults_in_row : Section → ℕ → Option Members → List (KeyFault × Place)
faults_in_row section number None = fault_of_whole section number
faults_in_row section number (Some row) = faults_in_table section (Some number) row

-- the rows of a section, the first of which has this number
abbrev pub faults_in_rows : Section → ℕ → List Data → List (KeyFault × Place)
faults_in_rows section number [] = []
faults_in_rows section number (d ∷ ds) = faults_in_row section number (as_table d) ++ faults_in_rows section (number + 1) ds

-- what a document has for a section: nothing, which is no row, or some value
abbrev pub faults_in_list : Section → Option Data → List (KeyFault × Place)
faults_in_list section None = []
faults_in_list section (Some d) = option_map_or (λ items. faults_in_rows section 1 (list_of items)) (as_array d) (fault_of_whole section 0)

abbrev pub faults_in_section : Members → Section → List (KeyFault × Place)
faults_in_section document section = faults_in_list section (get_member (section_text section) document)

abbrev pub faults_in_document : Members → List (KeyFault × Place)
faults_in_document document = faults_in_table Top None document ++ flat_map (faults_in_section document) lists

-- ---- by number

abbrev pub is_sort : KeyFault → KeyFault → Bool
is_sort sort.Missing sort.Missing = true
is_sort sort.WrongKind sort.WrongKind = true
is_sort sort.OutOfLimit sort.OutOfLimit = true
is_sort _ _ = false

-- the places of one sort of fault
abbrev pub places_of : KeyFault → List (KeyFault × Place) → List Place
places_of fault [] = []
places_of fault (f ∷ fs) = if is_sort fault f.0 then (f.1 ∷ places_of fault fs) else (places_of fault fs)

abbrev pub by_number : List (KeyFault × Place) → List DescFault
by_number faults =
    map Missing (places_of sort.Missing faults) ++ (map WrongKind (places_of sort.WrongKind faults) ++ map OutOfLimit (places_of sort.OutOfLimit faults))

-- the faults 2 to 4 of a document, in their order
abbrev pub faults_of_document : Members → List DescFault
faults_of_document document = by_number (faults_in_document document)

-- the faults 1 to 4 of a text, in their order
abbrev pub faults_of_text : List ℕ → List DescFault
faults_of_text text = option_map_or faults_of_document (parse_document text) (Syntax ∷ [])

-- the first of a list
abbrev pub first : {X : Type 0} → List X → Option X
first [] = None
first (x ∷ xs) = Some x

-- the fault is the first of the list, unless it is that memory was refused
abbrev pub IsFirstFault : List DescFault → DescFault → Type 0
IsFirstFault faults OutOfMemory = ⊤
IsFirstFault faults fault = first faults ≡ Some fault
