use Rattle.std.proofs.Common.{ℕ, [], refl, subst, sym}
use Rattle.reverse.specs.Rules.{rules_of}
use Rattle.group_hand.specs.Undoing.{CameTo}
use Rattle.group_hand.proofs.hand.Hand.new.Goals as goal

pub invariant_of-result : goal.invariant_of-result
invariant_of-result g c = (
  subst (λ ds. (p : ℕ) → CameTo (rules_of g.R.Reversible.plain) g.R.Reversible.is_value c.args.members.items ds p) (sym c.new.ensures)
      (λ p s e. record { base = s; messages = []; events = refl; values = tt; state = refl }),
  c.new-in-Ok.ensures.aside,
  c.new-in-Ok.ensures.back,
)
