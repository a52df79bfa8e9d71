use Rattle.std.proofs.Common.{subst, sym, ap, refl}
use Rattle.vlink.specs.Order.{message_order}
use Rattle.virtual_time.specs.Law.{times_in}
use Rattle.reverse.specs.Rules.{rules_of}
use Rattle.group_hand.specs.Hands.{StandsForGroup}
use Rattle.group_hand.specs.Passing.{held}
use Rattle.group_hand.proofs.Handed.{cleared}
use Rattle.group_hand.proofs.hand.Hand.clear_abroad.Goals as goal

pub returns-clause-stands : goal.returns-clause-stands
returns-clause-stands g c = λ x v s.
    let r = rules_of g.R.Reversible.plain in
    let V = g.R.Reversible.is_value in
    let e = c.clear_abroad.ensures in
    let old = held c.self.inside.members.items c.self.inside.done.events c.self.inside.rows c.self.inside.letters in
    let new = held c.self.inside.members.items c.self.inside.done.events c.self.inside.rows c.clear_abroad.new.self in
    let t = subst (StandsForGroup r V x v) (sym c.self.view_is) s in
    cleared r c.actor_rules_law.ensures.order V c.actor_rules_law.ensures.undoes x v old new refl refl refl (λ y. ap (λ z. times_in message_order y z.queue) e)
    (ap (λ z. z.extra) e) (ap (λ z. z.tray) e) (ap (λ z. z.abroad) e) t
