use Rattle.std.proofs.Common.{◌≡◌, ◌∙◌, ap, min, subst}
use Rattle.actor_run.proofs.Errors.{ok-weaker}
use Rattle.worker_pool.specs.Outcomes.{HandsOnFaults}
use Rattle.worker_pool.specs.Paces.{pace_in}
use Rattle.worker_pool.specs.declared.pace.Pace.{Pace}
use Rattle.worker_pool.proofs.Told.{memory-first, went-on}
use Rattle.worker_pool.proofs.summary.summary_named.Goals as goal

pub returns-clause-pace : goal.returns-clause-pace
returns-clause-pace g c =
    let start = c.args.start in
    let began = c.of-start.ensures in
    ok-weaker _ (λ s. s.pace ≡ pace_in start.grouping.groups start.pace)
    (λ s is. is ∙ (c.in_ok-ended.ensures.pace ∙ (ap (λ n. pace_in n c.of-start.result.pace) began.groups ∙ ap (pace_in start.grouping.groups) began.pace)))
    c.summary_of.result c.summary_of.ensures.pace

pub returns-clause-told : goal.returns-clause-told
returns-clause-told g c =
    let start = c.args.start in
    let began = c.of-start.ensures in
    subst (λ n. HandsOnFaults n c.summary_of.result)
    (ap (λ n. min n c.of-start.result.pace.workers) began.groups ∙ ap (λ (p : Pace). min start.grouping.groups p.workers) began.pace)
    (went-on _ c.in_ok-ended.ended c.run_to_end.result c.summary_of.result c.in_ok-ended.was c.run_to_end.ensures.told)

pub returns-in_err-each-clause-told : goal.returns-in_err-each-clause-told
returns-in_err-each-clause-told g c = memory-first _ c.from_residual.result c.from_residual.ensures.1
