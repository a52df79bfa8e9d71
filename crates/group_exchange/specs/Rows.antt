-- Rows of a group.
use Rattle.std.specs.Prelude.{◌≡◌, ℕ, false, List, [], ◌∷◌, All, filter, ⊤}
use Rattle.vlink.specs.declared.message.Message.{Message}
use Rattle.vlink.specs.Letters.{Row}
use Rattle.virtual_time.specs.Law.{Order}
use Rattle.group_boxes.specs.Boxing.{is_of}

-- no row's message comes before that of a row in front of it
abbrev pub AreInOrder : Order Message → List Row → Type 0
AreInOrder o [] = ⊤
AreInOrder o (row ∷ rows) = All (λ z. o.less z.message row.message ≡ false) rows × AreInOrder o rows

-- of these rows those of the processes of a group, in their order
abbrev pub rows_of_group : List ℕ → ℕ → List Row → List Row
rows_of_group owners g rows = filter (λ row. is_of owners g row.place) rows
