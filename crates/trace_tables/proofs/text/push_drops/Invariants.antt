use Rattle.std.proofs.Common.{◌≡◌, ℕ, List, ◌++◌}
use Rattle.trace_tables.specs.Text.{drop_text}
use Rattle.trace_segments.specs.Words.{Adds}
use Rattle.trace_tables.proofs.text.push_drops.Given as goal

abbrev pub invariant-loop-loss : goal.invariant-loop-loss
invariant-loop-loss l = (done : List ℕ) × (Adds l.initial.out l.out done × (done ++ drop_text l.network l.loss-iterator ≡ drop_text l.network l.drops.entries))
