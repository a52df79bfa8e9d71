use Rattle.std.proofs.Common.{◌≡◌, ◌+◌, ◌-◌, ◌≤◌, ◌++◌, drop, reverse, vec_len, vec_capacity}
use Rattle.group_queues.proofs.newest.take_back.Given as goal

abbrev pub invariant-loop-taken : goal.invariant-loop-taken
invariant-loop-taken g l = record {
  taken : l.back.items ≡ l.initial.back.items ++ reverse (drop (l.all - l.taken) l.sends.items);
  room : vec_len l.back + l.count ≤ vec_capacity l.back + l.taken;
  capacity : vec_capacity l.back ≡ vec_capacity l.initial.back;
}
