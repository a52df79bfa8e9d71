use Rattle.std.proofs.Common.{ap, sym, take, flat_map, take_all}
use Rattle.trace_segments.specs.Words.{trace_line}
use Rattle.trace_segments.proofs.WritingLemmas.{adds-more, adds-same, flat_map-more}
use Rattle.trace_segments.proofs.trace.push_rows.Goals as goal

pub loop-row-preserved : goal.loop-row-preserved
loop-row-preserved c =
    let rows = c.args.rows.now in
    let i = c.loop-row.row-index in
    let write = trace_line c.args.network.now in
    let row = c.row-item.result in
    adds-same c.args.out.now c.push_row.new.out _ _ (sym (flat_map-more write rows i row c.loop-row-test.true c.row-item.is))
    (adds-more c.args.out.now c.loop-row.out c.push_row.new.out (flat_map write (take i rows)) (write row) c.loop-row.invariant c.in_ok-push_row.ensures)

pub returns : goal.returns
returns c =
    adds-same c.args.out.now c.loop-row.out _ _ (ap (flat_map (trace_line c.args.network.now)) (take_all c.loop-row.row-index c.args.rows.now c.loop-row-test.false)) c.loop-row.invariant
