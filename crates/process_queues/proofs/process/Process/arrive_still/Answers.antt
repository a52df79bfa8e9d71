use Rattle.std.proofs.Common.{◌≡◌, inl, ◌∷◌, map, drop, slice_get, Some, refl, sym, ap, ◌∙◌, subst}
use Rattle.vlink.specs.Order.{message_order}
use Rattle.antimessages.specs.Counting.{change_by, newest_of}
use Rattle.antimessages.specs.declared.tally.Change.TheVariants.{Same}
use Rattle.antimessages.proofs.Agreeing.{added-same_counts}
use Rattle.antimessages.proofs.Following.{next-same}
use Rattle.process_queues.specs.Queues.{with_done}
use Rattle.process_queues.proofs.Arrivals.{still-stands, still-answer}
use Rattle.process_queues.proofs.Beside.{with_done-same}
use Rattle.process_queues.proofs.Counting.{of-messages}
use Rattle.process_queues.proofs.Standing.{keeps}
use Rattle.process_queues.proofs.Passing.{err-if-ok}
use Rattle.process_queues.proofs.process.Process.arrive_still.Goals as goal

pub invariant_of-self : goal.invariant_of-self
invariant_of-self g c = rw (c.in_err-tally_front.ensures.unchanged, c.in_err-tally_front.ensures.tray_unchanged) c.self.invariant

pub returns-clause-arrived : goal.returns-clause-arrived
returns-clause-arrived g c =
    let R = of-messages g.R.Reversible.plain c.actor_rules_law.ensures.order c.actor_rules_law.ensures.undoes in
    let l = c.args.letter in
    let first = subst (λ q. slice_get q.queues.tray 0 ≡ Some l) (sym c.self.view_is) c.requires.first in
    let same = subst (λ q. change_by message_order l q.queues.tally ≡ Same) (sym c.self.view_is) c.requires.same in
    record {
      arrived = λ opening part h.
          let k = rw (← c.self.view_is) at h in
          still-stands R k l first (inl same) c.self.inside.tally c.tally_front.new.tally _ refl
          (added-same_counts message_order R.messages l c.tally_front.new.tally c.self.inside.tally c.in_ok-tally_front.ensures.count c.in_ok-tally_front.ensures.others)
          (rw c.in_ok-tally_front.ensures.tray refl);
      answer = λ opening part h. still-answer R (rw (← c.self.view_is) at h) l first (inl same);
      tray = c.in_ok-tally_front.ensures.tray ∙ ap (λ q. drop 1 q.queues.tray) c.self.view_is;
      left = ap (λ q. q.queues.left) c.self.view_is;
    }

pub invariant_of-self-2 : goal.invariant_of-self-2
invariant_of-self-2 g c =
    let O = c.actor_rules_law.ensures.order in
    let l = c.args.letter in
    let same = subst (λ q. change_by message_order l q.queues.tally ≡ Same) (sym c.self.view_is) c.requires.same in
    let done = c.self.inside.past.done in
    let new = c.tally_front.new.tally in
    let counts = with_done-same O new (l ∷ c.self.inside.tally) done
    (added-same_counts message_order O l new c.self.inside.tally c.in_ok-tally_front.ensures.count c.in_ok-tally_front.ensures.others) in
    keeps c.self.view_is c.self.invariant (returns-clause-arrived g c).arrived (λ opening part h s. c.self.invariant.3 ∙
    next-same message_order O (newest_of (map (λ e. e.message) done)) l (with_done c.self.inside.tally done) (with_done new done) counts same)

pub returns-in_err-tally_front-clause-arrived : goal.returns-in_err-tally_front-clause-arrived
returns-in_err-tally_front-clause-arrived g c = err-if-ok _ _ c.from_residual.result c.from_residual.ensures.1
