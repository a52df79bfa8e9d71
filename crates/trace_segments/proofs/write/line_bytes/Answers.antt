use Rattle.std.proofs.Common.{flat_map}
use Rattle.trace_segments.specs.Words.{trace_line}
use Rattle.trace_segments.proofs.WritingLemmas.{text-put}
use Rattle.trace_segments.proofs.write.line_bytes.Goals as goal

pub returns : goal.returns
returns c =
    text-put c.empty-out.result c.push_rows-put.new.out (flat_map (trace_line c.args.network.now) c.args.rows.now) c.push_rows-put.result c.text_of.result
    c.empty-out.ensures c.push_rows-put.ensures c.text_of.ensures.put c.text_of.ensures.text
