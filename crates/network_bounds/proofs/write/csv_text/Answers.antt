use Rattle.network_bounds.specs.Text.{bounds_text}
use Rattle.trace_segments.proofs.WritingLemmas.{text-put}
use Rattle.network_bounds.proofs.write.csv_text.Goals as goal

pub returns : goal.returns
returns c =
    text-put c.empty-out.result c.push_all-put.new.out (bounds_text c.args.network.now c.args.bounds.now) c.push_all-put.result c.text_of.result
    c.empty-out.ensures c.push_all-put.ensures c.text_of.ensures.put c.text_of.ensures.text
