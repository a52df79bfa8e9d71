use Rattle.std.proofs.Common.{◌≡◌, ◌+◌, ◌≤◌, ◌++◌, take, vec_len, vec_capacity}
use Rattle.group_queues.proofs.committing.move_first.Given as goal

abbrev pub invariant-loop-place : goal.invariant-loop-place
invariant-loop-place g l = record {
  moved : l.taken.items ≡ l.initial.taken.items ++ take l.place l.items.items;
  room : vec_len l.taken + l.count ≤ vec_capacity l.taken + l.place;
}
