-- What a type of values requires of a value: first that it is of the type, then that it is within the limit.
use Rattle.std.specs.Prelude.{ℕ, Bool, true, ◌&&◌, ◌||◌, ◌==◌, nat_le, nat_lt, List, codes, length, Option, Some, None, is_some, option_and_then, bytes_eq}
use Rattle.std.specs.List.{list_any, list_all}
use Rattle.std.specs.Char.{is_ascii_alphanumeric}
use Rattle.toml.specs.Data.{Data, Members, as_str, as_integer}
use Rattle.network_rows.specs.declared.rule.ValueType.{ValueType}
use Rattle.network_rows.specs.declared.rule.ValueType.TheVariants.{Integer, IntegerAbove, OneOf, OneOfThree, EitherWord, NodeName, Reference, Paths}
use Rattle.network_rows.specs.Keys.{word_text}
use Rattle.network_rows.specs.Values.{value_at, passes, as_number, as_paths}

-- the value is of the type, whatever its limit
abbrev pub has_type : ValueType → Data → Bool
has_type (Integer least greatest) d = is_some (as_integer d)
has_type (IntegerAbove key least greatest) d = is_some (as_integer d)
has_type (OneOf numbers) d = is_some (as_integer d)
has_type (OneOfThree first second third) d = is_some (as_integer d)
has_type (EitherWord first second) d = is_some (as_str d)
has_type (NodeName least greatest) d = is_some (as_str d)
has_type Reference d = is_some (as_str d)
has_type (Paths least greatest) d = is_some (as_paths d)

-- from the least to the greatest, both among them
abbrev pub is_within : ℕ → ℕ → ℕ → Bool
is_within least greatest n = nat_le least n && nat_le n greatest

-- the number is one that the type allows
abbrev pub allows : ValueType → ℕ → Bool
allows (Integer least greatest) n = is_within least greatest n
allows (IntegerAbove key least greatest) n = is_within least greatest n
allows (OneOf numbers) n = list_any (λ m. m == n) numbers
allows (OneOfThree first second third) n = (n == first) || (n == second) || (n == third)
allows _ n = true

-- an ASCII letter, a digit, `_` or `-`
abbrev pub is_name_byte : ℕ → Bool
is_name_byte b = is_ascii_alphanumeric b || list_any (λ c. c == b) (codes "_-")

-- so many bytes, each of which a name may have
abbrev pub is_name : ℕ → ℕ → List ℕ → Bool
is_name least greatest text = is_within least greatest (length text) && list_all is_name_byte text

-- the text, or the path, is one that the type allows
abbrev pub allows_text : ValueType → List ℕ → Bool
allows_text (EitherWord first second) text = bytes_eq (word_text first) text || bytes_eq (word_text second) text
allows_text (NodeName least greatest) text = is_name least greatest text
allows_text _ text = true

abbrev pub allows_path : ValueType → List (List ℕ) → Bool
allows_path (Paths least greatest) path = is_within least greatest (length path)
allows_path _ path = true

-- the number is greater than the one at another key of its row, if there is one
abbrev pub is_above : Option ℕ → ℕ → Bool
is_above None n = true
is_above (Some m) n = nat_lt m n

-- a value of this type, in this row, is within the limit
abbrev pub keeps_limit : ValueType → Members → Data → Bool
keeps_limit (Integer least greatest) row d = passes (allows (Integer least greatest)) (as_number d)
keeps_limit (IntegerAbove key least greatest) row d =
    passes (λ n. allows (IntegerAbove key least greatest) n && is_above (option_and_then as_number (value_at key row)) n) (as_number d)
keeps_limit (OneOf numbers) row d = passes (allows (OneOf numbers)) (as_number d)
keeps_limit (OneOfThree first second third) row d = passes (allows (OneOfThree first second third)) (as_number d)
keeps_limit (EitherWord first second) row d = passes (allows_text (EitherWord first second)) (as_str d)
keeps_limit (NodeName least greatest) row d = passes (allows_text (NodeName least greatest)) (as_str d)
keeps_limit Reference row d = true
keeps_limit (Paths least greatest) row d = passes (list_all (allows_path (Paths least greatest))) (as_paths d)
