use Rattle.std.proofs.Common.{take}
use Rattle.network_bounds.specs.Text.{destinations_text}
use Rattle.trace_segments.specs.Words.{Adds}
use Rattle.network_bounds.proofs.write.push_destinations.Given as goal

abbrev pub invariant-loop-node : goal.invariant-loop-node
invariant-loop-node l = Adds l.initial.out l.out (destinations_text l.network l.bounds l.link (take l.node-index l.nodes))
