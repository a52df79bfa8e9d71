use Rattle.std.proofs.Common.{◌≡◌, ◌+◌, Some, length, slice_get}
use Rattle.turns.proofs.workers.outcomes_of.Given as goal

abbrev pub invariant-loop-handle : goal.invariant-loop-handle
invariant-loop-handle g l = record {
  can : (goal.iterator-loop-handle g).can_next l.handle-iterator;
  ends : (goal.iterator-loop-handle g).is_finite l.handle-iterator;
  count : length l.outcomes.items ≡ length l.yielded + 1;
  first : slice_get l.outcomes.items 0 ≡ Some l.fn.start;
}
