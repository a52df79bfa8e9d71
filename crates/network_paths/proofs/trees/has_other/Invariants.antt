use Rattle.std.proofs.Common.{◌≡◌, drop, map, not}
use Rattle.std.specs.List.{list_any}
use Rattle.network.specs.Words.{node_plan, is_switch_of}
use Rattle.network_paths.proofs.trees.has_other.Given as goal

abbrev pub invariant-loop-node : goal.invariant-loop-node
invariant-loop-node l =
    list_any (λ node. not (is_switch_of (map node_plan l.nodes) l.net node)) (drop l.node-index l.inner) ≡ list_any (λ node. not (is_switch_of (map node_plan l.nodes) l.net node)) l.inner
