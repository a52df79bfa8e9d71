use Rattle.std.proofs.Common.{◌≡◌, ◌+◌, ◌≤◌, ◌⊎◌, inl, inr, All, Ok, Err, refl, sym, ap, ◌∙◌, subst}
use Rattle.vlink.specs.declared.message.Message.{Message}
use Rattle.group_hand.specs.Hands.{IsAsBefore}
use Rattle.group_hand.specs.Answered.{RunsInOrder, WaitsBefore}
use Rattle.group_queues.specs.Block.{runs_in}
use Rattle.group_hand.specs.declared.in_order.InOrder.{InOrder}
use Rattle.group_hand.specs.declared.in_order.InOrder.TheVariants.{Ran, Idle, Late}
use Rattle.journal.proofs.Refused.{not-ok, not-short}
use Rattle.group_exchange.proofs.Below.{is-short}
use Rattle.group_exchange.proofs.Going.{ok-same}
use Rattle.group_exchange.proofs.Ran.{goes-told}
use Rattle.group_exchange.proofs.RowsKept.{rows-does}
use Rattle.group_exchange.proofs.Timely.{runs-run}
use Rattle.group_exchange.proofs.Told.{does}
use Rattle.group_exchange.proofs.group.Group.run_in_order.Given.{Over}
use Rattle.group_exchange.proofs.group.Group.run_in_order.Goals.{Joined-run_in_order, in-Ok, in-Err-Exhausted, in-Err-OutOfMemory}
use Rattle.group_exchange.proofs.group.Group.run_in_order.Goals as goal

pub invariant_of-self : goal.invariant_of-self
invariant_of-self g c =
    let h = c.self.invariant.0 in
    let L = c.actor_law.ensures g.J.GroupRun.setting h.laid in
    let d = c.run_in_order.ensures.did in
    let t = does h L c.run_in_order.new.self d in (
      t.holds,
      c.self.invariant.1,
      d.keeps ∙ c.self.invariant.2,
      c.self.invariant.3,
      c.self.invariant.4,
      rows-does h c.self.invariant.5 L c.run_in_order.new.self d d.rows,
    )

-- what the answer tells
told : (g : Over) (c : Joined-run_in_order g) (o : InOrder) → c.match-run_in_order.result ≡ Ok o → RunsInOrder (λ s. g.R.Reversible.plain.counter s) c.args.limit c.self.inside.hand c.run_in_order.new.self (Ok o)
told g c o =
    elim c.match-run_in_order.branch [
      | in-Ok w ↦ λ e. subst (λ z. RunsInOrder (λ s. g.R.Reversible.plain.counter s) c.args.limit c.self.inside.hand c.run_in_order.new.self (Ok z)) (ok-same w.in-Ok.outcome o c.match-run_in_order.result w.result-is e) w.in-Ok.ensures.told
      | in-Err-Exhausted w ↦ λ e. not-ok _ _ _ e w.result-is
      | in-Err-OutOfMemory w ↦ λ e. not-ok _ _ _ e w.result-is
    ]

-- where none was handled, nothing changed
still : (g : Over) (c : Joined-run_in_order g) → (c.match-run_in_order.result ≡ Ok Idle) ⊎ (c.match-run_in_order.result ≡ Ok Late) → IsAsBefore c.self.inside.hand c.run_in_order.new.self
still g c e = elim e [ inl k ↦ (told g c Idle k).0 | inr k ↦ (told g c Late k).0 ]

pub returns-clause-idle : goal.returns-clause-idle
returns-clause-idle g c = λ e.
    let t = told g (goal.at.returns-clause-idle g c).Joined-run_in_order Idle e in
    subst (λ h. All (λ (m : Message). c.args.limit ≤ m.time) h.flow.queue) (sym t.0) t.1

pub returns-clause-tray : goal.returns-clause-tray
returns-clause-tray g c = λ e. ap (λ z. z.flow.tray) (still g (goal.at.returns-clause-tray g c).Joined-run_in_order e) ∙ ap (λ z. z.held.flow.tray) c.self.view_is

pub returns-clause-words : goal.returns-clause-words
returns-clause-words g c = λ e. ap (λ z. z.flow.words) (still g (goal.at.returns-clause-words g c).Joined-run_in_order e) ∙ ap (λ z. z.held.flow.words) c.self.view_is

pub returns-clause-short : goal.returns-clause-short
returns-clause-short g c =
    let h = c.self.invariant.0 in
    let L = c.actor_law.ensures g.J.GroupRun.setting h.laid in
    let new = c.run_in_order.new.self in
    elim c.match-run_in_order.branch [
      | in-Ok w ↦ λ e. not-ok _ _ _ w.result-is e
      | in-Err-Exhausted w ↦ λ e.
          let t = subst (λ z. RunsInOrder (λ s. g.R.Reversible.plain.counter s) c.args.limit c.self.inside.hand new (Err z)) w.in-Err-Exhausted.field-0-is w.in-Err-Exhausted.ensures.told in
          (is-short h L.order new t.0.0 t.0.1 c.self.inside.gone, subst (λ h. WaitsBefore c.args.limit h) (sym t.0.0) (t.1 refl))
      | in-Err-OutOfMemory w ↦ λ e. not-short _ w.result-is e
    ]

-- whatever it was, the words that joined the block are of the group
pub returns-clause-goes : goal.returns-clause-goes
returns-clause-goes g c =
    let h = c.self.invariant.0 in
    let none = ap (λ z. z.held.flow.tray) c.self.view_is ∙ c.requires.arrived in
    rw (sym c.self.view_is)
    (goes-told h (c.actor_law.ensures g.J.GroupRun.setting h.laid) c.run_in_order.new.self c.self.inside.gone c.run_in_order.ensures.did none c.args.limit c.run_in_order.result c.run_in_order.ensures.told)

pub returns-clause-counted : goal.returns-clause-counted
returns-clause-counted g c = λ e.
    let t = told g (goal.at.returns-clause-counted g c).Joined-run_in_order Ran e in
    runs-run t.0.receiver _ _ t.2.words ∙ ap (λ z. runs_in z.held.flow.words + 1) c.self.view_is
