use Rattle.std.proofs.Common.{rules, ◌≡◌, refl}
use Rattle.vlink.specs.Order.{message_order}
use Rattle.antimessages.specs.Counting.{signed_count}
use Rattle.process_queues.proofs.Counting.{of-messages}
use Rattle.process_queues.proofs.Rolls.{done-ascending}
use Rattle.process_queues.proofs.Stragglers.{count-stands}
use Rattle.process_queues.proofs.process.Process.count.Goals as goal

pub has_done-requires : goal.has_done-requires
has_done-requires g c = done-ascending c.self.invariant.2.past

pub returns : goal.returns
returns g c = λ opening part h.
    let R = of-messages g.R.Reversible.plain c.actor_rules_law.ensures.order c.actor_rules_law.ensures.undoes in
    let k = rw (← c.self.view_is) at h in
    let count : c.count_with.result ≡ signed_count message_order c.args.message.now part.tally =
    count-stands R k c.self.inside.tally refl c.args.message.now c.has_done.result c.count_with.result
    c.has_done.ensures.done c.has_done.ensures.not_done c.count_with.ensures.done c.count_with.ensures.not_done in
    search rules
