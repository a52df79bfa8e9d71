use Rattle.std.proofs.Common.{◌≤◌, ap, ◌∙◌, refl, sym, subst, map, take}
use Rattle.virtual_time.specs.Law.{IsAscending}
use Rattle.vlink.specs.Order.{message_order}
use Rattle.process_queues.specs.Committing.{committable}
use Rattle.process_queues.specs.Queues.{with_done}
use Rattle.process_queues.proofs.Rolls.{done-ascending}
use Rattle.process_queues.proofs.Commits.{committable-stands, committable-within}
use Rattle.process_queues.proofs.process.Process.committable.Goals as goal

pub returns-clause-within : goal.returns-clause-within
returns-clause-within g c =
    subst (λ n. n ≤ c.args.most) (sym c.committable_of.ensures)
    (committable-within message_order c.args.moment (with_done c.self.inside.tally c.done_events.result.now.items) c.args.most (map (λ e. e.message) c.done_events.result.now.items))

pub returns-clause-stands : goal.returns-clause-stands
returns-clause-stands g c opening part h =
    let k = rw (← c.self.view_is) at h in
    c.committable_of.ensures ∙
    (ap (λ es. committable message_order c.args.moment (with_done c.self.inside.tally es) (take c.args.most (map (λ e. e.message) es))) c.done_events.ensures ∙
    committable-stands refl k c.args.moment c.args.most)

pub committable_of-requires : goal.committable_of-requires
committable_of-requires g c = subst (λ es. IsAscending message_order (map (λ e. e.message) es)) (sym c.done_events.ensures) (done-ascending c.self.invariant.2.past)
