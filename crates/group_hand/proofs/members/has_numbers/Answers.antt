use Rattle.std.proofs.Common.{◌+◌, ◌<◌, Some, sym, ap, ◌∙◌, subst}
use Rattle.vlink.specs.Numbering.{greatest_number}
use Rattle.reverse.specs.declared.sends.TheConstants.{MOST_SENT}
use Rattle.group_hand.proofs.AtPlace.{at-read, none-past, none-read, not-within, read-member}
use Rattle.group_hand.proofs.members.has_numbers.Goals as goal

pub returns-in-Some-Some-clause-yes : goal.returns-in-Some-Some-clause-yes
returns-in-Some-Some-clause-yes g c = λ t.
    let l = c.in-Some-Some.ensures.lookup in (
      c.in-Some-Some.actor,
      at-read c.args.members.now c.from.result c.args.process c.in-Some-Some.field-0.now c.from.ensures l.0 l.1 ∙ ap (λ z. Some z) c.in-Some-Some.field-0-is,
      c.has_numbers.ensures.0 t,
    )

pub returns-in-Some-Some-clause-no : goal.returns-in-Some-Some-clause-no
returns-in-Some-Some-clause-no g c = λ f s at.
    let l = c.in-Some-Some.ensures.lookup in
    subst (λ z. greatest_number < g.R.Reversible.plain.counter z + MOST_SENT)
    (sym (read-member c.args.members.now c.from.result c.args.process c.in-Some-Some.field-0.now c.in-Some-Some.actor s c.from.ensures l.1 c.in-Some-Some.field-0-is at))
    (not-within c.has_numbers.result (g.R.Reversible.plain.counter c.in-Some-Some.actor + MOST_SENT) greatest_number c.has_numbers.ensures f)

pub returns-in-Some-None-clause-no : goal.returns-in-Some-None-clause-no
returns-in-Some-None-clause-no g c = λ _ s at.
    let l = c.in-Some-None.ensures.lookup in
    absurd (none-read c.args.members.now c.from.result c.args.process c.in-Some-None.field-0.now s c.from.ensures l.1 c.in-Some-None.field-0-is at)

pub returns-in-None-clause-no : goal.returns-in-None-clause-no
returns-in-None-clause-no g c = λ _ s at. absurd (none-past c.args.members.now c.from.result c.args.process s c.from.ensures c.in-None.ensures.lookup.0 at)
