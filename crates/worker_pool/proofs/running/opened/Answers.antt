use Rattle.std.proofs.Common.{◌≡◌, ◌<◌, ◌≤◌, ◌∙◌, IfOk, sym, min, length, subst, arith}
use Rattle.std.proofs.Math.Nat.{min-le_left, min-le_right}
use Rattle.network.specs.Words.{process_count}
use Rattle.actor_run.proofs.Errors.{ok-weaker}
use Rattle.worker_pool.specs.Outcomes.{CanWantWorkers}
use Rattle.worker_pool.proofs.running.opened.Goals as goal

-- there are as many groups as the run begins with
pub returns-clause-workers : goal.returns-clause-workers
returns-clause-workers g c =
    subst (λ n. IfOk c.of.result (λ common. common.workers ≡ min n c.args.start.pace.workers)) c.in_ok-exchange.ensures.count c.of.ensures.workers

pub returns-clause-groups : goal.returns-clause-groups
returns-clause-groups g c =
    ok-weaker _ (λ common. common.groups ≡ length g.J.NetworkRun.names)
    (λ common is. is ∙ (c.in_ok-exchange.ensures.count ∙ sym c.args.start.each))
    c.of.result c.of.ensures.groups

-- workers are no more than groups, and a group has a process
pub returns-clause-wanted : goal.returns-clause-wanted
returns-clause-wanted g c =
    let start = c.args.start in
    let groups = length c.in_ok-exchange.groups.items in
    let asked = start.pace.workers in
    ok-weaker _ (λ common. 0 < common.workers → CanWantWorkers asked (process_count g.J.NetworkRun.plan))
    (λ common is some.
    let few : min groups asked ≤ groups = min-le_left groups asked in
    let most : min groups asked ≤ asked = min-le_right groups asked in
    let count : groups ≡ start.grouping.groups = c.in_ok-exchange.ensures.count in
    (omega arith, subst (λ plan. 0 < process_count plan) start.planned (start.grouped.some (omega arith))))
    c.of.result c.of.ensures.workers
