use Rattle.std.proofs.Common.{◌≡◌, ◌≢◌, ℕ, length, take, slice_get, option_map}
use Rattle.virtual_time.specs.Law.{lowest, times_of}
use Rattle.vlink.specs.Order.{message_order}
use Rattle.antimessages.specs.Mailing.{letters_for}
use Rattle.process_exchange.proofs.collecting.lower_floor.Given as goal

abbrev pub invariant-loop-place : goal.invariant-loop-place
invariant-loop-place l = record {
  floor : slice_get l.floors.floors l.process ≡ option_map (λ floor. lowest floor (times_of message_order (take l.place (letters_for l.process l.mail)))) (slice_get l.initial.floors.floors l.process);
  others : (q : ℕ) → q ≢ l.process → slice_get l.floors.floors q ≡ slice_get l.initial.floors.floors q;
  processes : length l.floors.floors ≡ length l.initial.floors.floors;
  until : l.floors.until ≡ l.initial.floors.until;
}
