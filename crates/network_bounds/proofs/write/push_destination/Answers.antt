use Rattle.std.proofs.Common.{Ok, Err, sym, ◌∙◌, arith}
use Rattle.std.proofs.lemmas.Result.{on_ok_weaker}
use Rattle.network_bounds.proofs.TextLemmas.{said-at}
use Rattle.trace_segments.proofs.WritingLemmas.{adds-same}
use Rattle.network_bounds.proofs.write.push_destination.Goals as goal

pub returns-in-Ok : goal.returns-in-Ok
returns-in-Ok c =
    let there = said-at c.args.network.now c.args.bounds.now c.args.link.now c.args.node (Ok c.in-Ok.span) (omega (arith, c.if-node-node_count.false, c.node_count.ensures)) (sym c.span_of.ensures ∙ c.in-Ok.is) in
    on_ok_weaker c.push_bound.result (adds-same c.args.out.now c.push_bound.new.out _ _ there) c.push_bound.ensures

pub returns-in-Err : goal.returns-in-Err
returns-in-Err c =
    let there = said-at c.args.network.now c.args.bounds.now c.args.link.now c.args.node (Err c.in-Err.reason) (omega (arith, c.if-node-node_count.false, c.node_count.ensures)) (sym c.span_of.ensures ∙ c.in-Err.is) in
    on_ok_weaker c.push_no_bound.result (adds-same c.args.out.now c.push_no_bound.new.out _ _ there) c.push_no_bound.ensures
