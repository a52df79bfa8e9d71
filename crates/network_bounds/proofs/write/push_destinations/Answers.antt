use Rattle.std.proofs.Common.{get_or, ap, sym, take_all}
use Rattle.network_bounds.specs.Text.{destination_text, destinations_text}
use Rattle.trace_segments.proofs.WritingLemmas.{adds-more, adds-same, flat_map-more}
use Rattle.network_bounds.proofs.TextLemmas.{any-end}
use Rattle.network_bounds.proofs.write.push_destinations.Goals as goal

pub loop-node-preserved : goal.loop-node-preserved
loop-node-preserved c =
    let nodes = c.args.nodes.now in
    let i = c.loop-node.node-index in
    let write = destination_text c.args.network.now c.args.bounds.now c.args.link.now in
    adds-same c.args.out.now c.push_destination.new.out _ _
    (sym (flat_map-more write nodes i (get_or nodes i 0) c.loop-node-test.true (any-end nodes i 0 (get_or nodes i 0) c.loop-node-test.true)))
    (adds-more c.args.out.now c.loop-node.out c.push_destination.new.out _ _ c.loop-node.invariant c.in_ok-push_destination.ensures)

pub returns : goal.returns
returns c =
    adds-same c.args.out.now c.loop-node.out _ _
    (ap (destinations_text c.args.network.now c.args.bounds.now c.args.link.now) (take_all c.loop-node.node-index c.args.nodes.now c.loop-node-test.false))
    c.loop-node.invariant
