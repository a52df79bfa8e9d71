use Rattle.std.proofs.Common.{◌≡◌, inr, true, map, drop, slice_get, Some, refl, sym, ap, ◌∙◌, subst}
use Rattle.vlink.specs.Order.{message_order}
use Rattle.antimessages.specs.Counting.{is_after, present_after, newest_of}
use Rattle.antimessages.proofs.Agreeing.{added-same_counts}
use Rattle.process_queues.proofs.Arrivals.{still-stands, still-answer}
use Rattle.process_queues.proofs.Counting.{of-messages}
use Rattle.process_queues.proofs.Stragglers.{next-beside, found-beside}
use Rattle.process_queues.proofs.Standing.{keeps}
use Rattle.process_queues.proofs.Passing.{err-if-ok}
use Rattle.process_queues.proofs.process.Process.arrive_ahead.Goals as goal

pub invariant_of-self : goal.invariant_of-self
invariant_of-self g c = rw (c.in_err-change.ensures.unchanged, c.in_err-change.ensures.tray_unchanged) c.self.invariant

pub returns-clause-arrived : goal.returns-clause-arrived
returns-clause-arrived g c =
    let R = of-messages g.R.Reversible.plain c.actor_rules_law.ensures.order c.actor_rules_law.ensures.undoes in
    let l = c.args.letter in
    let first = subst (λ q. slice_get q.queues.tray 0 ≡ Some l) (sym c.self.view_is) c.requires.first in
    let ahead = subst (λ q. is_after message_order (newest_of (map (λ e. e.message) q.queues.past.done)) l.message ≡ true) (sym c.self.view_is) c.requires.ahead in
    record {
      arrived = λ opening part h.
          let k = rw (← c.self.view_is) at h in
          still-stands R k l first (inr ahead) c.self.inside.tally c.tally_front.new.tally _ refl
          (added-same_counts message_order R.messages l c.tally_front.new.tally c.self.inside.tally c.in_ok-change.ensures.count c.in_ok-change.ensures.others)
          (rw c.in_ok-change.ensures.tray refl);
      answer = λ opening part h. still-answer R (rw (← c.self.view_is) at h) l first (inr ahead);
      tray = c.in_ok-change.ensures.tray ∙ ap (λ q. drop 1 q.queues.tray) c.self.view_is;
      left = ap (λ q. q.queues.left) c.self.view_is;
    }

pub invariant_of-self-2 : goal.invariant_of-self-2
invariant_of-self-2 g c =
    let R = of-messages g.R.Reversible.plain c.actor_rules_law.ensures.order c.actor_rules_law.ensures.undoes in
    let l = c.args.letter in
    let ahead = subst (λ q. is_after message_order (newest_of (map (λ e. e.message) q.queues.past.done)) l.message ≡ true) (sym c.self.view_is) c.requires.ahead in
    let t = c.self.inside.tally in
    let newest = c.newest.ensures in
    keeps c.self.view_is c.self.invariant (returns-clause-arrived g c).arrived (λ opening part h s. found-beside R s c.tally_front.new.tally refl
    (c.next_with-self-inside.ensures t
    (added-same_counts message_order R.messages l c.tally_front.new.tally t c.in_ok-change.ensures.count c.in_ok-change.ensures.others) c.in_ok-change.ensures.change
    (λ n. ap (λ o. is_after message_order o l.message) newest ∙ ahead)
    (c.self.invariant.3 ∙ (next-beside R h t refl ∙ ap (λ o. present_after message_order o t) (sym newest)))) newest)

pub returns-in_err-change-clause-arrived : goal.returns-in_err-change-clause-arrived
returns-in_err-change-clause-arrived g c = err-if-ok _ _ c.from_residual.result c.from_residual.ensures.1
