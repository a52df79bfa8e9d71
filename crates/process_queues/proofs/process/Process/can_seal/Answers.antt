use Rattle.std.proofs.Common.{refl, sym, ap, ◌∙◌, option_copied}
use Rattle.process_queues.proofs.Counting.{of-messages}
use Rattle.process_queues.proofs.Seals.{none-sealed, seals}
use Rattle.process_queues.proofs.process.Process.can_seal.Goals as goal

pub returns-in-Some : goal.returns-in-Some
returns-in-Some g c opening part h =
    let R = of-messages g.R.Reversible.plain c.actor_rules_law.ensures.order c.actor_rules_law.ensures.undoes in
    let k = rw (← c.self.view_is) at h in
    seals R k c.self.inside.tally refl c.in-Some.event.now (sym c.oldest.ensures ∙ ap option_copied c.in-Some.is) c.counts_once.result c.counts_once.ensures

pub returns-in-None : goal.returns-in-None
returns-in-None g c opening part h =
    let k = rw (← c.self.view_is) at h in
    sym (none-sealed k (sym c.oldest.ensures ∙ ap option_copied c.in-None.is))
