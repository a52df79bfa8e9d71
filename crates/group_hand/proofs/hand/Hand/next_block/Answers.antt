use Rattle.std.proofs.Common.{◌≡◌, [], ◌++◌, false, All, subst, sym, ap, refl}
use Rattle.vlink.specs.Order.{message_order}
use Rattle.virtual_time.specs.Law.{received_by, times_in}
use Rattle.reverse.specs.Rules.{rules_of}
use Rattle.group_hand.specs.Hands.{StandsForGroup, is_ours}
use Rattle.group_hand.specs.Passing.{held}
use Rattle.group_hand.proofs.Going.{stands-kept}
use Rattle.group_hand.proofs.hand.Hand.next_block.Goals as goal

pub returns-clause-stands : goal.returns-clause-stands
returns-clause-stands g c = λ x v s.
    let r = rules_of g.R.Reversible.plain in
    let V = g.R.Reversible.is_value in
    let e = c.next_block.ensures.anew in
    let old = held c.self.inside.members.items c.self.inside.done.events c.self.inside.rows c.self.inside.letters in
    let new = held c.self.inside.members.items c.self.inside.done.events c.self.inside.rows c.next_block.new.self in
    let t = subst (StandsForGroup r V x v) (sym c.self.view_is) s in
    stands-kept r c.actor_rules_law.ensures.order V c.actor_rules_law.ensures.undoes x v old new [] [] refl refl refl (λ y. ap (λ z. times_in message_order y z.queue) e)
    (ap (λ z. z.extra) e) (ap (λ z. z.tray) e) (λ q. ap (λ z. received_by message_order q (z.abroad ++ [])) (sym e))
    (subst (λ z. All (λ l. is_ours c.self.inside.members.items (message_order.receiver l.message) ≡ false) z.abroad) (sym e) t.elsewhere) t
