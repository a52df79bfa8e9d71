use Rattle.std.proofs.Common.{flat_map}
use Rattle.std.proofs.lemmas.Result.{on_ok_weaker}
use Rattle.trace_segments.specs.Words.{trace_head, trace_line}
use Rattle.trace_segments.proofs.WritingLemmas.{adds-more}
use Rattle.trace_segments.proofs.trace.push_trace.Goals as goal

pub returns : goal.returns
returns c =
    on_ok_weaker c.push_rows.result
    (adds-more c.args.out.now c.push_head.new.out c.push_rows.new.out trace_head (flat_map (trace_line c.args.network.now) c.args.rows.now) c.in_ok-push_head.ensures)
    c.push_rows.ensures
