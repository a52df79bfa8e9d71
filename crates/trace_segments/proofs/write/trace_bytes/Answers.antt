use Rattle.trace_segments.specs.Words.{trace_text}
use Rattle.trace_segments.proofs.WritingLemmas.{text-put}
use Rattle.trace_segments.proofs.write.trace_bytes.Goals as goal

pub returns : goal.returns
returns c =
    text-put c.empty-out.result c.push_trace-put.new.out (trace_text c.args.network.now c.args.rows.now) c.push_trace-put.result c.text_of.result
    c.empty-out.ensures c.push_trace-put.ensures c.text_of.ensures.put c.text_of.ensures.text
