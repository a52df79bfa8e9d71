use Rattle.std.proofs.Common.{◌++◌, ap}
use Rattle.std.proofs.lemmas.Result.{on_ok_weaker}
use Rattle.trace_tables.specs.Text.{tables_head, latency_text, drop_text}
use Rattle.trace_segments.proofs.WritingLemmas.{adds-more, adds-same}
use Rattle.trace_tables.proofs.write.push_tables.Goals as goal

pub returns : goal.returns
returns c =
    let plan = c.args.network.now in
    let tables = c.args.tables.now in
    let latencies = adds-same c.push_head.new.out c.push_latencies.new.out _ _ (ap (latency_text plan) c.latencies.ensures) c.in_ok-push_latencies.ensures in
    on_ok_weaker c.push_drops.result
    (λ drops.
    adds-more c.args.out.now c.push_head.new.out c.push_drops.new.out tables_head (latency_text plan tables.latencies ++ drop_text plan tables.drops) c.in_ok-push_head.ensures
    (adds-more c.push_head.new.out c.push_latencies.new.out c.push_drops.new.out (latency_text plan tables.latencies) (drop_text plan tables.drops) latencies
    (adds-same c.push_latencies.new.out c.push_drops.new.out _ _ (ap (drop_text plan) c.drops.ensures) drops)))
    c.push_drops.ensures
