use Rattle.std.proofs.Common.{◌≡◌, ℕ, ◌<◌, ◌≤◌, length, map, take}
use Rattle.virtual_time.specs.Law.{received_by}
use Rattle.vlink.specs.Order.{message_order}
use Rattle.antimessages.specs.Mailing.{letters_for, room_for, store_of}
use Rattle.antimessages.proofs.posting.reserve_by_letters.Given as goal

abbrev pub invariant-loop-letter : goal.invariant-loop-letter
invariant-loop-letter l = record {
  processes : length l.boxes.items ≡ length l.initial.boxes.items;
  same : (p : ℕ) → letters_for p (map store_of l.boxes.items) ≡ letters_for p (map store_of l.initial.boxes.items);
  no_less : (p : ℕ) → room_for p (map store_of l.initial.boxes.items) ≤ room_for p (map store_of l.boxes.items);
  room : (p : ℕ) → 0 < length (received_by message_order p (take l.letter-index l.letters)) →
      length (received_by message_order p l.letters) ≤ room_for p (map store_of l.boxes.items);
}
