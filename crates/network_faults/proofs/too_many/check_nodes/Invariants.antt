use Rattle.std.proofs.Common.{◌≡◌, [], take, map}
use Rattle.network.specs.Words.{each, node_plan, too_many_at_node}
use Rattle.network_faults.proofs.too_many.check_nodes.Given as goal

abbrev pub invariant-loop-i : goal.invariant-loop-i
invariant-loop-i l = each (too_many_at_node (map node_plan l.nodes) l.links) (take l.i (map node_plan l.nodes)) ≡ []
