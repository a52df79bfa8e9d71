use Rattle.std.proofs.Common.{sym, ap, ◌∙◌}
use Rattle.reverse.specs.Rules.{rules_of}
use Rattle.process_queues.specs.Queues.{next_in}
use Rattle.process_queues.proofs.Counting.{of-messages}
use Rattle.process_queues.proofs.Next.{next-stands}
use Rattle.process_queues.proofs.process.Process.next.Goals as goal

pub returns-clause-next : goal.returns-clause-next
returns-clause-next g c = let i = c.self.invariant in i.3 ∙ ap (λ q. next_in q.queues) c.self.view_is

pub returns-clause-stands : goal.returns-clause-stands
returns-clause-stands g c = λ opening part h.
    let r = rules_of g.R.Reversible.plain in
    let R = of-messages g.R.Reversible.plain c.actor_rules_law.ensures.order c.actor_rules_law.ensures.undoes in
    returns-clause-next g c ∙ sym (next-stands r R g.R.Reversible.is_value opening part _ h)
