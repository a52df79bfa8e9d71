use Rattle.std.proofs.Common.{◌≡◌, ◌≢◌, drop, slice_get, Some, refl, sym, ap, ◌∙◌, subst}
use Rattle.virtual_time.specs.Law.{rowed}
use Rattle.reverse.specs.Rules.{rules_of}
use Rattle.vlink.specs.Order.{message_order}
use Rattle.antimessages.specs.Counting.{change_by}
use Rattle.antimessages.specs.declared.tally.Change.TheVariants.{Same}
use Rattle.process_queues.proofs.Arrivals.{tallied-belongs, back-stands, back-answer}
use Rattle.process_queues.proofs.Counting.{of-messages}
use Rattle.process_queues.proofs.Stragglers.{found-beside, not-owed}
use Rattle.process_queues.proofs.Rolls.{done-ascending}
use Rattle.process_queues.proofs.Standing.{keeps}
use Rattle.process_queues.proofs.Passing.{err-if-ok}
use Rattle.process_queues.proofs.process.Process.arrive_late.Goals as goal

pub undo_since-requires-clause-some : goal.undo_since-requires-clause-some
undo_since-requires-clause-some g c =
    let i = c.self.invariant in
    (i.0, drop c.self.inside.left (rowed (rules_of g.R.Reversible.plain) i.0 (i.1).committed), i.1, i.2.past)

pub undo_since-requires-clause-ascending : goal.undo_since-requires-clause-ascending
undo_since-requires-clause-ascending g c = done-ascending c.self.invariant.2.past

pub undo_since-requires-clause-not_owed : goal.undo_since-requires-clause-not_owed
undo_since-requires-clause-not_owed g c m j =
    let R = of-messages g.R.Reversible.plain c.actor_rules_law.ensures.order c.actor_rules_law.ensures.undoes in
    not-owed R c.self.invariant.2 m c.self.inside.tally refl j

pub invariant_of-self : goal.invariant_of-self
invariant_of-self g c =
    rw (c.in_err-undone.ensures.unchanged, c.in_err-undone.ensures.tally_unchanged, c.in_err-undone.ensures.outbox_unchanged) c.self.invariant

pub returns-clause-arrived : goal.returns-clause-arrived
returns-clause-arrived g c =
    let R = of-messages g.R.Reversible.plain c.actor_rules_law.ensures.order c.actor_rules_law.ensures.undoes in
    let l = c.args.letter in
    let first = subst (λ q. slice_get q.queues.tray 0 ≡ Some l) (sym c.self.view_is) c.requires.first in
    let toggled = subst (λ q. change_by message_order l q.queues.tally ≢ Same) (sym c.self.view_is) c.requires.toggled in
    record {
      arrived = λ opening part h.
          let k = rw (← c.self.view_is) at h in
          let b = tallied-belongs R k l first in
          back-stands R k l first toggled _ (c.in_ok-undone.ensures.rolled opening _ _ b)
          c.self.inside.tally c.undo_since.new.tally _ _ refl c.in_ok-undone.ensures.counts
          (c.in_ok-undone.ensures.posted opening _ _ b k.outbox) (rw c.pop_front.ensures refl);
      answer = λ opening part h.
          let k = rw (← c.self.view_is) at h in
          let b = tallied-belongs R k l first in
          back-answer R k l first toggled _ (c.in_ok-undone.ensures.rolled opening _ _ b) _ c.in_ok-undone.ensures.count;
      tray = c.pop_front.ensures ∙ ap (λ q. drop 1 q.queues.tray) c.self.view_is;
      left = ap (λ q. q.queues.left) c.self.view_is;
    }

pub invariant_of-self-2 : goal.invariant_of-self-2
invariant_of-self-2 g c =
    let R = of-messages g.R.Reversible.plain c.actor_rules_law.ensures.order c.actor_rules_law.ensures.undoes in
    keeps c.self.view_is c.self.invariant (returns-clause-arrived g c).arrived
    (λ opening part h s. found-beside R s c.undo_since.new.tally refl c.next_after-self-inside.ensures c.newest.ensures)

pub returns-in_err-undone-clause-arrived : goal.returns-in_err-undone-clause-arrived
returns-in_err-undone-clause-arrived g c = err-if-ok _ _ c.from_residual.result c.from_residual.ensures.1
