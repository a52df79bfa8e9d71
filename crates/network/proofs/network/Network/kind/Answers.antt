use Rattle.std.proofs.Common.{◌≡◌, ◌<◌, length, map, Some, ap, sym, ◌∙◌, subst, arith, slice_get, option_map}
use Rattle.std.proofs.lemmas.List.{length-map}
use Rattle.network.specs.Words.{node_plan, IsAccepted}
use Rattle.network.proofs.BuildLemmas.{map-both, read-made}
use Rattle.network.proofs.LimitLemmas.{kind-read}
use Rattle.network.proofs.network.Network.kind.Goals as goal

pub returns : goal.returns
returns c =
    let nodes = c.self.inside.nodes in
    let plan = c.args.self.now in
    let row = c.index.result.now in
    let nodes_are : map node_plan nodes.items ≡ plan.nodes = ap (λ p. p.nodes) c.self.view_is in
    let same : map (λ r. r.kind) nodes.items ≡ map (λ node. node.kind) plan.nodes = sym (map-both (λ node. node.kind) node_plan nodes.items) ∙ ap (map (λ node. node.kind)) nodes_are in
    let lt : c.args.node < nodes.len = omega (arith, ap length nodes_are, length-map nodes.items node_plan, nodes.ok.0) in
    let read : option_map (λ node. node.kind) (slice_get plan.nodes c.args.node) ≡ Some row.kind =
    read-made (λ node. node.kind) (λ r. r.kind) plan.nodes nodes.items nodes.len c.args.node row same nodes.ok.0 lt c.index.ensures in
    record { value = read; limits = kind-read plan c.args.node row.kind (subst IsAccepted c.self.view_is c.self.invariant.0) read }
