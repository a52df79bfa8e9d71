use Rattle.std.proofs.Common.{◌≡◌, ◌++◌, length, map, take, drop}
use Rattle.trace_segments.proofs.waiting.pop_firsts.Given as goal

abbrev pub invariant-loop-place : goal.invariant-loop-place
invariant-loop-place l = record {
  as_many : length l.waiting.items ≡ length l.initial.waiting.items;
  popped : l.waiting.items ≡ map (drop 1) (take l.place l.initial.waiting.items) ++ drop l.place l.initial.waiting.items;
}
