use Rattle.std.proofs.Common.{◌≡◌, ℕ, ◌+◌, ◌≤◌, Bool, true, false, All, Result, Ok, Err, IfOk, refl, sym, ap, ◌∙◌, subst, arith}
use Rattle.vlink.specs.declared.message.Message.{Message}
use Rattle.vlink.specs.Order.{message_order}
use Rattle.virtual_time.specs.Law.{IsAscending, one_if}
use Rattle.reverse.specs.Rules.{rules_of}
use Rattle.group_hand.specs.Answered.{RunsNext, WaitsBefore}
use Rattle.group_queues.specs.Block.{runs_in}
use Rattle.group_queues.specs.DoneEvents.{messages_of}
use Rattle.group_hand.specs.Hands.{FirstWaits}
use Rattle.journal.proofs.Refused.{not-ok, not-short}
use Rattle.group_exchange.proofs.Below.{is-short}
use Rattle.group_exchange.proofs.Going.{goes-later, goes-same, ok-same}
use Rattle.group_exchange.proofs.Ran.{goes-next}
use Rattle.group_exchange.proofs.RowsKept.{rows-does}
use Rattle.group_exchange.proofs.Timely.{runs-run}
use Rattle.group_exchange.proofs.Told.{does}
use Rattle.group_exchange.proofs.group.Group.run_next.Given.{Over}
use Rattle.group_exchange.proofs.group.Group.run_next.Goals.{Joined-run_next, in-Ok, in-Err-Exhausted, in-Err-OutOfMemory}
use Rattle.group_exchange.proofs.group.Group.run_next.Goals as goal

pub invariant_of-self : goal.invariant_of-self
invariant_of-self g c =
    let h = c.self.invariant.0 in
    let L = c.actor_law.ensures g.J.GroupRun.setting h.laid in
    let d = c.run_next.ensures.did in
    let t = does h L c.run_next.new.self d in (
      t.holds,
      c.self.invariant.1,
      d.keeps ∙ c.self.invariant.2,
      c.self.invariant.3,
      c.self.invariant.4,
      rows-does h c.self.invariant.5 L c.run_next.new.self d d.rows,
    )

-- what holds for both answers
by-answer : {E : Type 0} (r : Result Bool E) (old new : ℕ) → (r ≡ Ok true → new ≡ old + 1) → (r ≡ Ok false → new ≡ old) → IfOk r (λ ran. new ≡ old + one_if ran)
by-answer (Ok true) old new t f = t refl
by-answer (Ok false) old new t f = let a = f refl in omega arith
by-answer (Err e) old new t f = tt

-- what the answer tells
told : (g : Over) (c : Joined-run_next g) (b : Bool) → c.match-run_next.result ≡ Ok b →
    RunsNext (rules_of g.R.Reversible.plain) g.R.Reversible.is_value (λ s. g.R.Reversible.plain.counter s) c.args.limit c.self.inside.hand c.run_next.new.self (Ok b)
told g c b =
    elim c.match-run_next.branch [
      | in-Ok w ↦ λ e. subst (λ z. RunsNext (rules_of g.R.Reversible.plain) g.R.Reversible.is_value (λ s. g.R.Reversible.plain.counter s) c.args.limit c.self.inside.hand c.run_next.new.self (Ok z))
          (ok-same w.in-Ok.has_run b c.match-run_next.result w.result-is e) w.in-Ok.ensures.told
      | in-Err-Exhausted w ↦ λ e. not-ok _ _ _ e w.result-is
      | in-Err-OutOfMemory w ↦ λ e. not-ok _ _ _ e w.result-is
    ]

pub returns-clause-idle : goal.returns-clause-idle
returns-clause-idle g c = λ e.
    let t = told g (goal.at.returns-clause-idle g c).Joined-run_next false e in
    subst (λ h. All (λ (m : Message). c.args.limit ≤ m.time) h.flow.queue) (sym t.0) t.1

pub returns-clause-tray : goal.returns-clause-tray
returns-clause-tray g c = λ e.
    ap (λ z. z.flow.tray) (told g (goal.at.returns-clause-tray g c).Joined-run_next false e).0 ∙ (ap (λ z. z.held.flow.tray) c.self.view_is ∙ ap (λ z. z.held.flow.tray) c.count_done.ensures.stood)

pub returns-clause-short : goal.returns-clause-short
returns-clause-short g c =
    let h = c.self.invariant.0 in
    let L = c.actor_law.ensures g.J.GroupRun.setting h.laid in
    let new = c.run_next.new.self in
    elim c.match-run_next.branch [
      | in-Ok w ↦ λ e. not-ok _ _ _ w.result-is e
      | in-Err-Exhausted w ↦ λ e.
          let t = subst (λ z. RunsNext (rules_of g.R.Reversible.plain) g.R.Reversible.is_value (λ s. g.R.Reversible.plain.counter s) c.args.limit c.self.inside.hand new (Err z))
          w.in-Err-Exhausted.field-0-is w.in-Err-Exhausted.ensures.told in
          (is-short h L.order new t.0.0 t.0.1 c.self.inside.gone, subst (λ h. WaitsBefore c.args.limit h) (sym t.0.0) (t.1 refl))
      | in-Err-OutOfMemory w ↦ λ e. not-short _ w.result-is e
    ]

pub returns-in_err-count_done-clause-goes : goal.returns-in_err-count_done-clause-goes
returns-in_err-count_done-clause-goes g c = goes-same _ _ _ _ _ c.count_done.ensures.stood

pub returns-clause-goes : goal.returns-clause-goes
returns-clause-goes g c =
    let h = c.self.invariant.0 in
    let none = ap (λ z. z.held.flow.tray) c.self.view_is ∙ (ap (λ z. z.held.flow.tray) c.count_done.ensures.stood ∙ c.requires.arrived) in
    goes-later _ _ _ _ _ _ _ c.count_done.ensures.stood c.self.view_is
    (goes-next h (c.actor_law.ensures g.J.GroupRun.setting h.laid) c.run_next.new.self c.self.inside.gone c.run_next.ensures.did none
    (subst (λ k. IsAscending message_order (messages_of k.held.done) → FirstWaits message_order k.held) (sym c.self.view_is) c.in_ok-count_done.ensures.waits)
    c.args.limit c.run_next.result c.run_next.ensures.told)

pub returns-clause-counted : goal.returns-clause-counted
returns-clause-counted g c =
    let at = (goal.at.returns-clause-counted g c).Joined-run_next in
    let before = ap (λ z. runs_in z.held.flow.words) c.self.view_is ∙ ap (λ z. runs_in z.held.flow.words) c.count_done.ensures.stood in
    let waits = subst (λ k. IsAscending message_order (messages_of k.held.done) → FirstWaits message_order k.held) (sym c.self.view_is) c.in_ok-count_done.ensures.waits in
    by-answer c.match-run_next.result _ _
    (λ e. let r = told g at true e g.J.GroupRun.setting _ c.self.invariant.0.stands in let a = runs-run r.0.receiver _ _ (r.4 waits).words in omega arith)
    (λ e. let a = ap (λ z. runs_in z.flow.words) (told g at false e).0 in omega arith)
