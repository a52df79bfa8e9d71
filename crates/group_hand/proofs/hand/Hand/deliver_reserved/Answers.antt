use Rattle.std.proofs.Common.{◌≡◌, ◌++◌, [], true, false, All, subst, sym, ap, ◌∙◌, refl}
use Rattle.vlink.specs.Order.{message_order}
use Rattle.virtual_time.specs.Law.{received_by}
use Rattle.reverse.specs.Rules.{rules_of}
use Rattle.group_hand.specs.Hands.{StandsForGroup, is_ours}
use Rattle.group_hand.specs.Passing.{held}
use Rattle.group_hand.proofs.Taking.{stands-taken}
use Rattle.group_hand.proofs.hand.Hand.deliver_reserved.Goals as goal

pub returns-clause-delivered : goal.returns-clause-delivered
returns-clause-delivered g c = λ x v soon stands.
    let r = rules_of g.R.Reversible.plain in
    let V = g.R.Reversible.is_value in
    let e = c.deliver_reserved.ensures.delivered in
    let old = held c.self.inside.members.items c.self.inside.done.events c.self.inside.rows c.self.inside.letters in
    let new = held c.self.inside.members.items c.self.inside.done.events c.self.inside.rows c.deliver_reserved.new.self in
    let s = subst (StandsForGroup r V x v) (sym c.self.view_is) stands in
    stands-taken r V x v old new c.args.letter refl refl refl (ap (λ z. z.queue) e) (ap (λ z. z.extra) e) (ap (λ z. z.tray) e)
    (subst (λ h. is_ours h.members c.args.letter.message.receiver ≡ true) (sym c.self.view_is) c.requires.ours) soon [] [] v.mail
    (λ q. s.mail q ∙ ap (λ z. received_by message_order q (z.abroad ++ [])) (sym e))
    (subst (λ z. All (λ m. is_ours c.self.inside.members.items m.message.receiver ≡ false) z.abroad) (sym e) s.elsewhere) s
