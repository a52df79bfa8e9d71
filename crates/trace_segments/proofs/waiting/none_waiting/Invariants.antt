use Rattle.std.proofs.Common.{◌≡◌, [], ◌∷◌}
use Rattle.std.specs.List.{repeat}
use Rattle.trace_segments.proofs.waiting.none_waiting.Given as goal

abbrev pub invariant-loop-process : goal.invariant-loop-process
invariant-loop-process l = l.waiting.items ≡ repeat l._process ([] ∷ [])
