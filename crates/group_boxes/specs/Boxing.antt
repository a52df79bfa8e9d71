-- Letters in transit between groups of processes.
use Rattle.std.specs.Prelude.{◌<◌, ◌≤◌, ◌-◌, ◌^◌, ℕ, ◌==◌, Bool, false, List, [], filter, length, min, slice_get, get_or, All, Option, Some, None}
use Rattle.vlink.specs.declared.message.Message.{Message}
use Rattle.vlink.specs.Letters.{Letter}
use Rattle.vlink.specs.Order.{message_order}
use Rattle.virtual_time.specs.Law.{Order, received_by}

-- letters on their way, a box for each group, the oldest first; for each process the number of its group; and for how many letters more each box has
-- room
pub record Boxes : Type 0 where
  pub boxes : List (List Letter)
  pub owners : List ℕ
  pub rooms : List ℕ

-- of these numbers of groups, one for each process, process p has this one
abbrev pub is_number : ℕ → Option ℕ → Bool
is_number g None = false
is_number g (Some h) = h == g

abbrev pub is_of : List ℕ → ℕ → ℕ → Bool
is_of owners g p = is_number g (slice_get owners p)

-- the letters on their way to a group
abbrev pub box_of : List (List Letter) → ℕ → List Letter
box_of boxes g = get_or boxes g []

-- of these letters those to processes of a group, in their order
abbrev pub for_group : Order Message → List ℕ → ℕ → List Letter → List Letter
for_group o owners g ls = filter (λ l. is_of owners g (o.receiver l.message)) ls

-- each box has so few letters that a step of the journal can name the place of each
abbrev pub AreShort : List (List Letter) → Type 0
AreShort boxes = All (λ box. length box < 2 ^ 32) boxes

-- for how many letters more a box has room that has so many, and memory for so many in all
abbrev pub room_in : ℕ → ℕ → ℕ
room_in capacity len = min capacity (2 ^ 32 - 1) - len

-- each box has room for so many letters more
abbrev pub HasRoom : ℕ → List ℕ → Type 0
HasRoom more rooms = All (λ room. more ≤ room) rooms

-- the letters on their way to the group of this number, if there is one
abbrev pub box_at : List (List Letter) → Option ℕ → List Letter
box_at boxes None = []
box_at boxes (Some g) = box_of boxes g

-- how many letters are on their way to process p
abbrev pub waiting_for : Boxes → ℕ → ℕ
waiting_for b p = length (received_by message_order p (box_at b.boxes (slice_get b.owners p)))
