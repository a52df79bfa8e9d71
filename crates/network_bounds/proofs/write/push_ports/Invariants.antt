use Rattle.network_bounds.proofs.TextLemmas.{ArePut}
use Rattle.network_bounds.proofs.write.push_ports.Given as goal

abbrev pub invariant-loop-line : goal.invariant-loop-line
invariant-loop-line l = ArePut l.network l.bounds l.initial.out l.out l.line
