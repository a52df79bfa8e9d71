use Rattle.std.proofs.Common.{◌≡◌, ◌∙◌, length, subst}
use Rattle.actor_run.proofs.Errors.{ok-weaker}
use Rattle.worker_pool.specs.Outcomes.{HandsOnFaults}
use Rattle.worker_pool.specs.Paces.{pace_in, pace_of}
use Rattle.worker_pool.proofs.Pacing.{as-asked}
use Rattle.worker_pool.proofs.Told.{memory-is, went-on}
use Rattle.worker_pool.proofs.running.run_to_end.Goals as goal

-- all groups came back
pub to_end-requires : goal.to_end-requires
to_end-requires g c = c.in_ok-unlocked.ensures.groups ∙ c.in-Ok.ensures.groups

pub returns-clause-pace : goal.returns-clause-pace
returns-clause-pace g c =
    let common = c.in-Ok.common in
    let opened = c.in-Ok.ensures in
    ok-weaker _ (λ r. pace_of r.speed (length r.groups.items) ≡ pace_in c.args.start.grouping.groups c.args.start.pace)
    (λ r is. is ∙ as-asked c.in_ok-unlocked.unlocked.speed (length g.J.NetworkRun.names) c.args.start.grouping.groups common.workers common.turn common.window_ns
    c.args.start.pace c.in_ok-unlocked.ensures.speed c.args.start.each opened.workers opened.turn opened.window)
    c.to_end.result c.to_end.ensures.pace

pub returns-clause-told : goal.returns-clause-told
returns-clause-told g c =
    subst (λ n. HandsOnFaults n c.to_end.result) c.in-Ok.ensures.workers
    (went-on _ c.in_ok-unlocked.unlocked c.groups_worked.result c.to_end.result c.in_ok-unlocked.was c.groups_worked.ensures.told)

pub returns-in_default-clause-told : goal.returns-in_default-clause-told
returns-in_default-clause-told g c = memory-is _ c.other.result c.other.ensures
