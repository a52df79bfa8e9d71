use Rattle.std.proofs.Common.{◌≡◌, ◌∙◌, ap, min, subst}
use Rattle.network.specs.Words.{process_count}
use Rattle.group_choice.specs.Groups.{group_count}
use Rattle.actor_run.proofs.Errors.{ok-weaker}
use Rattle.worker_pool.specs.Paces.{actual_pace, pace_in}
use Rattle.worker_pool.specs.Outcomes.{HandsOnFaults}
use Rattle.worker_pool.specs.declared.pace.Pace.{Pace}
use Rattle.worker_pool.proofs.Told.{before-memory}
use Rattle.worker_pool.proofs.summary.run_summary.Goals as goal

pub returns-clause-pace : goal.returns-clause-pace
returns-clause-pace g c =
    let processes = process_count c.args.network.now in
    ok-weaker _ (λ s. s.pace ≡ actual_pace processes c.args.pace)
    (λ s is. is ∙ (ap (λ n. pace_in n c.that_goes.result) c.in-Ok.ensures.count ∙ ap (pace_in (group_count processes c.args.pace.groups)) c.that_goes.ensures))
    c.summary_named.result c.summary_named.ensures.pace

pub returns-clause-told : goal.returns-clause-told
returns-clause-told g c =
    let groups = group_count (process_count c.args.network.now) c.args.pace.groups in
    subst (λ n. HandsOnFaults n c.summary_named.result)
    (ap (λ n. min n c.that_goes.result.workers) c.in-Ok.ensures.count ∙ ap (λ (p : Pace). min groups p.workers) c.that_goes.ensures) c.summary_named.ensures.told

pub returns-in_default-clause-told : goal.returns-in_default-clause-told
returns-in_default-clause-told g c = before-memory _
