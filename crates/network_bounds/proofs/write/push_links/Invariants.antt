use Rattle.std.proofs.Common.{take, flat_map}
use Rattle.network_bounds.specs.Text.{link_text}
use Rattle.trace_segments.specs.Words.{Adds}
use Rattle.network_bounds.proofs.write.push_links.Given as goal

abbrev pub invariant-loop-vl : goal.invariant-loop-vl
invariant-loop-vl l = Adds l.initial.out l.out (flat_map (link_text l.network l.bounds) (take l.vl l.network.vls))
