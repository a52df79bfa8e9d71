-- The values at the keys of a table, and the plain values that data can be.
use Rattle.std.specs.Prelude.{ℕ, pos, Bool, false, List, [], ◌∷◌, Option, Some, None, option_and_then, option_map, bytes_eq}
use Rattle.std.specs.Option.{option_map_or}
use Rattle.toml.specs.Data.{Data, integer, Items, no_items, item, Members, as_str, as_array, get_member}
use Rattle.network_rows.specs.declared.key.Key.{Key}
use Rattle.network_rows.specs.declared.key.Word.{Word}
use Rattle.network_rows.specs.Keys.{key_text, word_text}

-- the value at a key of a table
abbrev pub value_at : Key → Members → Option Data
value_at key row = get_member (key_text key) row

-- there is a value, and it passes the test
abbrev pub passes : {X : Type 0} → (X → Bool) → Option X → Bool
passes test o = option_map_or test o false

-- an integer that is not negative
abbrev pub as_number : Data → Option ℕ
as_number (integer (pos n)) = Some n
as_number _ = None

-- what each of the items is, if each is such a thing
abbrev pub all_as : {X : Type 0} → (Data → Option X) → Items → Option (List X)
all_as read no_items = Some []
all_as read (item d ds) = option_and_then (λ x. option_map (λ xs. x ∷ xs) (all_as read ds)) (read d)

-- a list of such things
abbrev pub as_list : {X : Type 0} → (Data → Option X) → Data → Option (List X)
as_list read d = option_and_then (all_as read) (as_array d)

-- a list of paths, which are lists of texts
abbrev pub as_paths : Data → Option (List (List (List ℕ)))
as_paths = as_list (as_list as_str)

-- the items in their order
abbrev pub list_of : Items → List Data
list_of no_items = []
list_of (item d ds) = d ∷ list_of ds

-- the text at the key is this word
abbrev pub has_word : Key → Word → Members → Bool
has_word key word row = passes (bytes_eq (word_text word)) (option_and_then as_str (value_at key row))
