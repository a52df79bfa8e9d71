-- Tables and lists without a fault: rows are made of these alone.
use Rattle.std.specs.Prelude.{◌≡◌, true, Option, Some, None, ⊤}
use Rattle.std.specs.List.{AllByRecursion}
use Rattle.toml.specs.Data.{Data, Items, Members, as_array, as_table}
use Rattle.network_rows.specs.declared.key.Section.{Section}
use Rattle.network_rows.specs.declared.rule.ValueType.{ValueType}
use Rattle.network_rows.specs.declared.rule.ValueType.TheVariants.{Integer, IntegerAbove, OneOf, OneOfThree, EitherWord, NodeName, Reference, Paths}
use Rattle.network_rows.specs.declared.rule.Presence.{Presence}
use Rattle.network_rows.specs.declared.rule.Presence.TheVariants.{Required, ForSwitches, Optional, OptionalWord, MayBeAbsent}
use Rattle.network_rows.specs.declared.rule.Rule.{Rule}
use Rattle.network_rows.specs.Values.{value_at, list_of}
use Rattle.network_rows.specs.ValueTypes.{allows}
use Rattle.network_rows.specs.Table.{keys_of, stream_keys}
use Rattle.network_rows.specs.Faults.{fault_of_value, fault_in}

-- nothing is wrong with what a table has at the key of a line that applies to it
abbrev pub IsSoundAt : Rule → Members → Type 0
IsSoundAt rule table = fault_of_value rule table (value_at rule.key table) ≡ None

abbrev pub IsSoundTable : Section → Members → Type 0
IsSoundTable section table = AllByRecursion (λ rule. fault_in rule table ≡ None) (keys_of section)

-- nothing is wrong with the keys of a stream
abbrev pub IsSoundStream : Members → Type 0
IsSoundStream table = AllByRecursion (λ rule. fault_in rule table ≡ None) stream_keys

abbrev pub IsSoundRow : Section → Data → Type 0
IsSoundRow section d = (table : Members) × (as_table d ≡ Some table) × IsSoundTable section table

-- what a document has for a section: nothing, or a list of such rows
abbrev pub IsSoundList : Section → Option Data → Type 0
IsSoundList section None = ⊤
IsSoundList section (Some d) = (items : Items) × (as_array d ≡ Some items) × AllByRecursion (IsSoundRow section) (list_of items)

-- ---- lines of numbers

-- the type is one of integers
abbrev pub IsOfNumbers : ValueType → Type 0
IsOfNumbers (Integer least greatest) = ⊤
IsOfNumbers (IntegerAbove key least greatest) = ⊤
IsOfNumbers (OneOf numbers) = ⊤
IsOfNumbers (OneOfThree first second third) = ⊤
IsOfNumbers (EitherWord first second) = ⊥
IsOfNumbers (NodeName least greatest) = ⊥
IsOfNumbers Reference = ⊥
IsOfNumbers (Paths least greatest) = ⊥

-- the default, if there is one, is a number that the type allows, and no word
abbrev pub IsDefaultWithin : Presence → ValueType → Type 0
IsDefaultWithin Required value_type = ⊤
IsDefaultWithin ForSwitches value_type = ⊤
IsDefaultWithin (Optional n) value_type = allows value_type n ≡ true
IsDefaultWithin (OptionalWord word) value_type = ⊥
IsDefaultWithin MayBeAbsent value_type = ⊥

-- the line is one of numbers
abbrev pub HasNumbers : Rule → Type 0
HasNumbers rule = IsOfNumbers rule.value_type × IsDefaultWithin rule.presence rule.value_type
