use Rattle.std.proofs.Common.{drop}
use Rattle.network_bounds.proofs.ShareLemmas.{AreTogether}
use Rattle.network_bounds.proofs.share.flows_at.Given as goal

abbrev pub invariant-loop-passing : goal.invariant-loop-passing
invariant-loop-passing l = AreTogether l.port l.by_gap l.input l.is_high l.share (drop l.passing-index l.port.passings)
