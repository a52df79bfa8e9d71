use Rattle.std.proofs.Common.{◌≡◌, ℕ, suc, ◌≤◌, ◌⊎◌, true, sym, ap, ◌∙◌, subst}
use Rattle.vlink.specs.Order.{message_order}
use Rattle.reverse.specs.Rules.{rules_of}
use Rattle.group_queues.specs.Flow.{floor_in}
use Rattle.group_hand.specs.Hands.{is_ours}
use Rattle.group_hand.proofs.Floors.{floor-bound, floor-reached}
use Rattle.group_hand.proofs.hand.Hand.floor.Given.{Over}
use Rattle.group_hand.proofs.hand.Hand.floor.Goals.{After-floor}
use Rattle.group_hand.proofs.hand.Hand.floor.Goals as goal

seen : (g : Over) (c : After-floor g) (until : ℕ) → c.args.end ≡ suc until → c.floor.result ≡ floor_in message_order (suc until) c.args.self.now.flow
seen g c until e =
    c.floor.ensures.least ∙ (ap (λ h. floor_in message_order c.args.end h.flow) c.self.view_is ∙ ap (λ n. floor_in message_order n c.args.self.now.flow) e)

pub returns-clause-bound : goal.returns-clause-bound
returns-clause-bound g c = λ x v e s p t.
    subst (λ n. n ≤ v.floors p) (sym (seen g (goal.at.returns-clause-bound g c).After-floor x.until e))
    (floor-bound (rules_of g.R.Reversible.plain) c.actor_rules_law.ensures.order g.R.Reversible.is_value x v c.args.self.now s p t)

pub returns-clause-reached : goal.returns-clause-reached
returns-clause-reached g c = λ x v e s none.
    subst (λ n. (c.floor.result ≡ n) ⊎ ((p : ℕ) × (is_ours c.args.self.now.members p ≡ true) × (v.floors p ≡ c.floor.result))) (sym e)
    (subst (λ n. (n ≡ suc x.until) ⊎ ((p : ℕ) × (is_ours c.args.self.now.members p ≡ true) × (v.floors p ≡ n))) (sym (seen g (goal.at.returns-clause-reached g c).After-floor x.until e))
    (floor-reached (rules_of g.R.Reversible.plain) c.actor_rules_law.ensures.order g.R.Reversible.is_value x v c.args.self.now s none))
