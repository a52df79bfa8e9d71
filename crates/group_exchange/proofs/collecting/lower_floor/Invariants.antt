use Rattle.std.proofs.Common.{◌≡◌, ◌≢◌, ℕ, length, take, slice_get, option_map}
use Rattle.virtual_time.specs.Law.{lowest, times_of}
use Rattle.vlink.specs.Order.{message_order}
use Rattle.group_exchange.proofs.collecting.lower_floor.Given as goal

abbrev pub invariant-loop-letter : goal.invariant-loop-letter
invariant-loop-letter l = record {
  floor : slice_get l.floors.floors l.group ≡ option_map (λ floor. lowest floor (times_of message_order (take l.letter-index l.letters))) (slice_get l.initial.floors.floors l.group);
  others : (q : ℕ) → q ≢ l.group → slice_get l.floors.floors q ≡ slice_get l.initial.floors.floors q;
  groups : length l.floors.floors ≡ length l.initial.floors.floors;
  until : l.floors.until ≡ l.initial.floors.until;
}
