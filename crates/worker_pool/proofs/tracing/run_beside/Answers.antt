use Rattle.std.proofs.Common.{length}
use Rattle.worker_pool.specs.Paces.{pace_in, pace_of}
use Rattle.worker_pool.proofs.Pacing.{handed-on}
use Rattle.worker_pool.proofs.Told.{passed-on}
use Rattle.worker_pool.proofs.tracing.run_beside.Goals as goal

pub returns-clause-pace : goal.returns-clause-pace
returns-clause-pace g c =
    let pace = pace_in c.args.start.grouping.groups c.args.start.pace in
    handed-on (λ s. s.pace) (λ t. t.outcome.pace) pace c.summary_told-summary.result c.traced_of.result c.traced_of.ensures.pace
    (handed-on (λ r. pace_of r.speed (length r.groups.items)) (λ s. s.pace) pace c.run_to_trace-ended.result.0 c.summary_told-summary.result c.summary_told-summary.ensures.pace
    c.run_to_trace-ended.ensures.pace)

pub returns-clause-told : goal.returns-clause-told
returns-clause-told g c =
    passed-on _ c.summary_told-summary.result c.traced_of.result c.traced_of.ensures.told
    (passed-on _ c.run_to_trace-ended.result.0 c.summary_told-summary.result c.summary_told-summary.ensures.told c.run_to_trace-ended.ensures.told)
