use Rattle.std.proofs.Common.{◌≡◌, [], take, map}
use Rattle.network.specs.Words.{each, node_plan, double_at_node}
use Rattle.network_faults.proofs.double.check_nodes.Given as goal

abbrev pub invariant-loop-i : goal.invariant-loop-i
invariant-loop-i l = each double_at_node (take l.i (map node_plan l.names.nodes.now)) ≡ []
