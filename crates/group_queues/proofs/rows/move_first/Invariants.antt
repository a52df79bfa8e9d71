use Rattle.std.proofs.Common.{◌≡◌, ◌+◌, ◌≤◌, ◌++◌, map, take, vec_len, vec_capacity}
use Rattle.group_queues.proofs.rows.move_first.Given as goal

abbrev pub invariant-loop-place : goal.invariant-loop-place
invariant-loop-place l = record {
  moved : map (λ s. s.value) l.left.items ≡ map (λ s. s.value) l.initial.left.items ++ take l.place l.there.items;
  room : vec_len l.left + l.count ≤ vec_capacity l.left + l.place;
}
