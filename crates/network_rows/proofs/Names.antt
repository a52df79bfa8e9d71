-- The keys of a table.
use Rattle.std.proofs.Common.{◌≡◌, ℕ, Bool, ◌||◌, List, [], ◌∷◌, string_bytes, refl, ap}
use Rattle.std.specs.List.{list_any}
use Rattle.std.specs.Map.{keys_of}
use Rattle.toml.specs.View.{members_view}
use Rattle.toml.proofs.Views.{Entry}
use Rattle.network_rows.specs.Rows.{names_in}

-- some key passes a test
pub list_any-names_in : (test : List ℕ → Bool) (es : List Entry) → list_any test (names_in (members_view es)) ≡ list_any (λ key. test (string_bytes key)) (keys_of es)
list_any-names_in test [] = refl
list_any-names_in test (e ∷ es) = ap (λ b. test (string_bytes e.0) || b) (list_any-names_in test es)
