use Rattle.std.proofs.Common.{Some, sym, ap, ◌∙◌}
use Rattle.group_hand.specs.Hands.{is_held}
use Rattle.group_hand.proofs.AtPlace.{ours-read}
use Rattle.group_hand.proofs.members.is_ours.Goals as goal

pub returns-in-Some-Some : goal.returns-in-Some-Some
returns-in-Some-Some g c =
    let l = c.in-Some-Some.ensures.lookup in
    ap (λ z. is_held (Some z)) (sym c.in-Some-Some.field-0-is) ∙ ours-read c.args.members.now c.from.result c.args.process c.in-Some-Some.field-0.now c.from.ensures l.0 l.1

pub returns-in-Some-None : goal.returns-in-Some-None
returns-in-Some-None g c =
    let l = c.in-Some-None.ensures.lookup in
    ap (λ z. is_held (Some z)) (sym c.in-Some-None.field-0-is) ∙ ours-read c.args.members.now c.from.result c.args.process c.in-Some-None.field-0.now c.from.ensures l.0 l.1
