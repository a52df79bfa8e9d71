-- What a document without a fault of a key says of each of its rows.
use Rattle.std.proofs.Common.{◌≡◌, ℕ, ◌+◌, true, List, [], ◌∷◌, Option, Some, None, refl, flat_map}
use Rattle.std.specs.List.{AllByRecursion}
use Rattle.std.specs.Option.{option_map_or}
use Rattle.toml.specs.Data.{Data, Items, Members, as_array, as_table, get_member}
use Rattle.network_rows.specs.declared.key.Section.{Section}
use Rattle.network_rows.specs.declared.key.Section.TheVariants.{Top, Node, Link, Outage, Vl, Stream}
use Rattle.network_rows.specs.declared.fault.Place.{Place}
use Rattle.network_rows.specs.declared.fault.KeyFault.{KeyFault}
use Rattle.network_rows.specs.declared.fault.KeyFault.TheVariants as sort
use Rattle.network_rows.specs.declared.rule.Rule.{Rule}
use Rattle.network_rows.specs.Keys.{section_text}
use Rattle.network_rows.specs.Values.{list_of}
use Rattle.network_rows.specs.Table.{lists, keys_of}
use Rattle.network_rows.specs.Faults.{fault_in, found, faults_at, faults_in_table, fault_of_whole, faults_in_row, faults_in_rows, faults_in_list, faults_in_section, faults_in_document, is_sort, places_of, faults_of_document}
use Rattle.network_rows.specs.Sound.{IsSoundTable, IsSoundRow, IsSoundList}
use Rattle.network_rows.proofs.Empty.{not_empty, front_empty, back_empty, map_empty, flat_map_empty}

-- ---- one row

nothing_found : (o : Option KeyFault) (place : Place) → found o place ≡ [] → o ≡ None
nothing_found None place e = refl
nothing_found (Some fault) place e = absurd (not_empty _ _ e)

nothing_at : (section : Section) (number : Option ℕ) (row : Members) (rule : Rule) → faults_at section number row rule ≡ [] → fault_in rule row ≡ None
nothing_at section number row rule e = nothing_found (fault_in rule row) (record { section = section; row = number; key = Some rule.key }) e

sound_keys : (section : Section) (number : Option ℕ) (row : Members) (rules : List Rule) → flat_map (faults_at section number row) rules ≡ []
    → AllByRecursion (λ rule. fault_in rule row ≡ None) rules
sound_keys section number row [] e = tt
sound_keys section number row (rule ∷ rules) e =
    let here = front_empty (faults_at section number row rule) (flat_map (faults_at section number row) rules) e in
    let behind = back_empty (faults_at section number row rule) (flat_map (faults_at section number row) rules) e in
    (nothing_at section number row rule here, sound_keys section number row rules behind)

sound_table : (section : Section) (number : Option ℕ) (row : Members) → faults_in_table section number row ≡ [] → IsSoundTable section row
sound_table section number row e = sound_keys section number row (keys_of section) e

-- ---- all rows

sound_row : (section : Section) (number : ℕ) (d : Data) (o : Option Members) → as_table d ≡ o → faults_in_row section number o ≡ [] → IsSoundRow section d
sound_row section number d None is none = absurd (not_empty _ _ none)
sound_row section number d (Some table) is none = (table, is, sound_table section (Some number) table none)

sound_rows : (section : Section) (number : ℕ) (ds : List Data) → faults_in_rows section number ds ≡ [] → AllByRecursion (IsSoundRow section) ds
sound_rows section number [] none = tt
sound_rows section number (d ∷ ds) none =
    (sound_row section number d (as_table d) refl (front_empty _ _ none), sound_rows section (number + 1) ds (back_empty (faults_in_row section number (as_table d)) _ none))

sound_items : (section : Section) (d : Data) (o : Option Items) → as_array d ≡ o
    → option_map_or (λ items. faults_in_rows section 1 (list_of items)) o (fault_of_whole section 0) ≡ [] → IsSoundList section (Some d)
sound_items section d None is none = absurd (not_empty _ _ none)
sound_items section d (Some items) is none = (items, is, sound_rows section 1 (list_of items) none)

sound_list : (section : Section) (o : Option Data) → faults_in_list section o ≡ [] → IsSoundList section o
sound_list section None none = tt
sound_list section (Some d) none = sound_items section d (as_array d) refl none

-- ---- a document

is_itself : (fault : KeyFault) → is_sort fault fault ≡ true
is_itself sort.Missing = refl
is_itself sort.WrongKind = refl
is_itself sort.OutOfLimit = refl

no_places : (fs : List (KeyFault × Place)) → ((fault : KeyFault) → places_of fault fs ≡ []) → fs ≡ []
no_places [] none = refl
no_places (f ∷ fs) none = absurd (not_empty f.1 (places_of f.0 fs) (rw (is_itself f.0) at (none f.0)))

none_of_sort : (document : Members) → faults_of_document document ≡ [] → (fault : KeyFault) → places_of fault (faults_in_document document) ≡ []
none_of_sort document e sort.Missing = map_empty _ _ (front_empty _ _ e)
none_of_sort document e sort.WrongKind = map_empty _ _ (front_empty _ _ (back_empty _ _ e))
none_of_sort document e sort.OutOfLimit = map_empty _ _ (back_empty _ _ (back_empty _ _ e))

in_lists : (document : Members) → faults_of_document document ≡ [] → AllByRecursion (λ section. faults_in_section document section ≡ []) lists
in_lists document e =
    flat_map_empty (faults_in_section document) lists (back_empty (faults_in_table Top None document) _ (no_places (faults_in_document document) (none_of_sort document e)))

pub sound_top : (document : Members) → faults_of_document document ≡ [] → IsSoundTable Top document
sound_top document e =
    sound_table Top None document (front_empty (faults_in_table Top None document) _ (no_places (faults_in_document document) (none_of_sort document e)))

-- what the document has for each of its sections
abbrev at : Section → Members → Option Data
at section document = get_member (section_text section) document

pub sound_nodes : (document : Members) → faults_of_document document ≡ [] → IsSoundList Node (at Node document)
sound_nodes document e = sound_list Node _ (in_lists document e).0

pub sound_links : (document : Members) → faults_of_document document ≡ [] → IsSoundList Link (at Link document)
sound_links document e = sound_list Link _ (in_lists document e).1.0

pub sound_outages : (document : Members) → faults_of_document document ≡ [] → IsSoundList Outage (at Outage document)
sound_outages document e = sound_list Outage _ (in_lists document e).1.1.0

pub sound_vls : (document : Members) → faults_of_document document ≡ [] → IsSoundList Vl (at Vl document)
sound_vls document e = sound_list Vl _ (in_lists document e).1.1.1.0

pub sound_streams : (document : Members) → faults_of_document document ≡ [] → IsSoundList Stream (at Stream document)
sound_streams document e = sound_list Stream _ (in_lists document e).1.1.1.1.0
