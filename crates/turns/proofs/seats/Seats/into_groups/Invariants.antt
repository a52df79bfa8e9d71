use Rattle.std.proofs.Common.{◌≡◌, length}
use Rattle.turns.proofs.seats.Seats.into_groups.Given as goal

abbrev pub invariant-loop-seat : goal.invariant-loop-seat
invariant-loop-seat g l = record {
  can : (goal.iterator-loop-seat g).can_next l.seat-iterator;
  ends : (goal.iterator-loop-seat g).is_finite l.seat-iterator;
  count : length l.groups.items ≡ length l.yielded;
}
