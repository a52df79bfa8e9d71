-- The mail: for each process, by its number, a store of the letters that were posted to it and not taken, the oldest first.
use Rattle.std.specs.declared.collections.VecDeque.{VecDeque}
use Rattle.std.proofs.Common.{Global, ℕ, ◌≤◌, ◌-◌, List, [], length, Option, Some, None, slice_get, deque_len, deque_capacity}
use Rattle.virtual_time.specs.Law.{received_by}
use Rattle.antimessages.specs.Letters.{Store}
use Rattle.vlink.specs.Order.{message_order}
use Rattle.vlink.specs.Letters.{Letter}

-- the letters that one process has to take
abbrev pub store_of : VecDeque Letter Global → Store
store_of waiting = record { letters = waiting.items; room = deque_capacity waiting - deque_len waiting }

-- the letters of a store, none where there is no store; and its room
abbrev pub letters_in : Option Store → List Letter
letters_in None = []
letters_in (Some store) = store.letters

abbrev pub room_in : Option Store → ℕ
room_in None = 0
room_in (Some store) = store.room

-- the letters for process p: none where there is no such process
abbrev pub letters_for : ℕ → List Store → List Letter
letters_for p mail = letters_in (slice_get mail p)

-- the room for more letters for process p
abbrev pub room_for : ℕ → List Store → ℕ
room_for p mail = room_in (slice_get mail p)

-- the mail of each process has room for those of these letters that it receives
abbrev pub HasRoom : List Store → List Letter → Type 0
HasRoom mail letters = (p : ℕ) → length (received_by message_order p letters) ≤ room_for p mail
