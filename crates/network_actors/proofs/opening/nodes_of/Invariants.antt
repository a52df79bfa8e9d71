use Rattle.nodes.specs.Words.{opening}
use Rattle.reverse.specs.Setting.{AreInStates}
use Rattle.network_actors.proofs.opening.nodes_of.Given as goal

abbrev pub invariant-loop-process : goal.invariant-loop-process
invariant-loop-process l = AreInStates l.process (opening l.network) l.nodes.items
