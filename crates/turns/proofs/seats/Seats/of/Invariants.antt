use Rattle.std.proofs.Common.{◌≡◌, length}
use Rattle.turns.proofs.seats.Seats.of.Given as goal

abbrev pub invariant-loop-group : goal.invariant-loop-group
invariant-loop-group g l = record {
  can : (goal.iterator-loop-group g).can_next l.group-iterator;
  ends : (goal.iterator-loop-group g).is_finite l.group-iterator;
  count : length l.seats.items ≡ length l.yielded;
}
