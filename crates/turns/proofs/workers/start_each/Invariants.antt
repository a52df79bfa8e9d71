use Rattle.std.proofs.Common.{◌≡◌, ◌+◌, length}
use Rattle.turns.proofs.workers.start_each.Given as goal

abbrev pub invariant-loop-agenda : goal.invariant-loop-agenda
invariant-loop-agenda g l = record {
  can : (goal.iterator-loop-agenda g).can_next l.agenda-iterator;
  ends : (goal.iterator-loop-agenda g).is_finite l.agenda-iterator;
  count : length l.handles.items ≡ length l.initial.handles.items + length l.yielded;
}
