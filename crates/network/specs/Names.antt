-- Names of nodes, and their numbers.
use Rattle.std.specs.Prelude.{ℕ, Bool, List, map, length, Option, unwrap_or, bytes_eq}
use Rattle.std.specs.List.{list_any}
use Rattle.network.specs.Rows.{place_by}
use Rattle.row_types.specs.declared.rows.NodeRow.{NodeRow}

abbrev pub names_of : List NodeRow → List (List ℕ)
names_of nodes = map (λ node. node.name) nodes

-- whether a node has the name
abbrev pub is_among : List (List ℕ) → List ℕ → Bool
is_among names name = list_any (bytes_eq name) names

-- the place of the first node that has the name, from 0
abbrev pub place_among : List (List ℕ) → List ℕ → Option ℕ
place_among names name = place_by (bytes_eq name) names

-- the number that a name stands for; a name that no node has stands for no node
abbrev pub number_of : List (List ℕ) → List ℕ → ℕ
number_of names name = unwrap_or (place_among names name) (length names)
