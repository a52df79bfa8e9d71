use Rattle.std.proofs.Common.{ap, sym, flat_map, take_all, arith}
use Rattle.network_bounds.specs.Text.{link_text}
use Rattle.network_bounds.proofs.TextLemmas.{links-more}
use Rattle.trace_segments.proofs.WritingLemmas.{adds-more, adds-same}
use Rattle.network_bounds.proofs.write.push_links.Goals as goal

pub loop-vl-preserved : goal.loop-vl-preserved
loop-vl-preserved c =
    adds-same c.args.out.now c.push_destinations.new.out _ _
    (sym (links-more c.args.network.now c.args.bounds.now c.loop-vl.vl c.virtual_link-link.result c.destinations.result.now c.virtual_link-link.ensures.value c.destinations.ensures))
    (adds-more c.args.out.now c.loop-vl.out c.push_destinations.new.out _ _ c.loop-vl.invariant c.in_ok-push_destinations.ensures)

pub returns : goal.returns
returns c =
    adds-same c.args.out.now c.loop-vl.out _ _
    (ap (flat_map (link_text c.args.network.now c.args.bounds.now)) (take_all c.loop-vl.vl c.args.network.now.vls (omega (arith, c.loop-vl-test.false, c.vl_count-vl-end.ensures.value))))
    c.loop-vl.invariant
