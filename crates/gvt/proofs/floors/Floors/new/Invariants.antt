use Rattle.std.proofs.Common.{◌≡◌, ◌+◌, ◌≤◌, replicate, vec_len, vec_capacity}
use Rattle.gvt.proofs.floors.Floors.new.Given as goal

abbrev pub invariant-loop-process : goal.invariant-loop-process
invariant-loop-process l = record {
  made : vec_len l.floors ≡ l.process;
  room : l.processes ≤ vec_capacity l.floors;
  floors : l.floors.items ≡ replicate l.process (l.fn.until + 1);
}
