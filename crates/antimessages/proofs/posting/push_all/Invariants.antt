use Rattle.std.proofs.Common.{◌≡◌, ℕ, ◌++◌, length, map, take}
use Rattle.virtual_time.specs.Law.{received_by}
use Rattle.vlink.specs.Order.{message_order}
use Rattle.antimessages.specs.Mailing.{letters_for, store_of}
use Rattle.antimessages.proofs.posting.push_all.Given as goal

abbrev pub invariant-loop-letter : goal.invariant-loop-letter
invariant-loop-letter l = record {
  processes : length l.boxes.items ≡ length l.initial.boxes.items;
  put : (p : ℕ) → letters_for p (map store_of l.boxes.items)
      ≡ letters_for p (map store_of l.initial.boxes.items) ++ received_by message_order p (take l.letter-index l.letters);
}
