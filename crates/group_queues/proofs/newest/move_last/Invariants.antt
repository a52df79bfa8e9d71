use Rattle.std.proofs.Common.{◌≡◌, ◌+◌, ◌++◌, drop}
use Rattle.group_queues.proofs.newest.move_last.Given as goal

abbrev pub invariant-loop-place : goal.invariant-loop-place
invariant-loop-place g l = record {
  moved : l.taken.items ++ drop l.place l.items.items ≡ l.initial.taken.items ++ drop l.first l.items.items;
  room : l.taken.room + l.place ≡ l.initial.taken.room + l.first;
}
