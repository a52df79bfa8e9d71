use Rattle.trace_tables.specs.Text.{tables_text}
use Rattle.trace_segments.proofs.WritingLemmas.{text-put}
use Rattle.trace_tables.proofs.write.csv_text.Goals as goal

pub returns : goal.returns
returns c =
    text-put c.empty-out.result c.push_tables-put.new.out (tables_text c.args.network.now c.args.tables.now) c.push_tables-put.result c.text_of.result
    c.empty-out.ensures c.push_tables-put.ensures c.text_of.ensures.put c.text_of.ensures.text
