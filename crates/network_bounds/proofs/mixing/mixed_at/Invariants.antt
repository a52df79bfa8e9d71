use Rattle.std.proofs.Common.{◌≡◌}
use Rattle.network_bounds.specs.Mixing.{mixed_below}
use Rattle.network_bounds.proofs.mixing.mixed_at.Given as goal

abbrev pub invariant-loop-input : goal.invariant-loop-input
invariant-loop-input l = l.all ≡ mixed_below l.port l.choice l.is_high l.input
