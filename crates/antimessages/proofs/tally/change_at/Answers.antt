use Rattle.std.proofs.Common.{refl, subst}
use Rattle.vlink.specs.Order.{message_order}
use Rattle.vlink.specs.Letters.{Letter}
use Rattle.antimessages.proofs.Changes.{Tells, change-first, change-next, change-only, change-not_only}
use Rattle.antimessages.proofs.tally.change_at.Goals as goal

pub returns-in-None : goal.returns-in-None
returns-in-None c = λ m tally t.
    let l : Letter = record { message = m; sign = c.args.sign } in
    change-first message_order c.occurrence_order_law.ensures.messages l tally c.in-Plus.is (subst (Tells message_order c.occurrence_order_law.ensures.messages l tally) c.in-None.is t)

pub returns-in-Some : goal.returns-in-Some
returns-in-Some c = λ m tally t.
    let l : Letter = record { message = m; sign = c.args.sign } in
    change-next message_order c.occurrence_order_law.ensures.messages l tally c.in-Some.field-0 c.in-Plus.is
    (subst (Tells message_order c.occurrence_order_law.ensures.messages l tally) c.in-Some.is t)

pub returns-then-is_one : goal.returns-then-is_one
returns-then-is_one c = λ m tally t.
    change-only message_order c.occurrence_order_law.ensures.messages (record { message = m; sign = c.args.sign }) tally c.args.last c.in-Minus.is (c.if-is_one.ensures.0 refl) t

pub returns-else-is_one : goal.returns-else-is_one
returns-else-is_one c = λ m tally t.
    change-not_only message_order c.occurrence_order_law.ensures.messages (record { message = m; sign = c.args.sign }) tally c.args.last c.in-Minus.is
    (λ e. let bad = c.if-is_one.ensures.1 e in cc) t
