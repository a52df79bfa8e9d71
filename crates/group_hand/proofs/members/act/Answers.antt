use Rattle.std.proofs.Common.{◌≡◌, ◌<◌, Some, length, length-set, set, slice_get, sym, ap, ◌∙◌, subst}
use Rattle.group_hand.proofs.AtPlace.{none-read, read-member}
use Rattle.group_hand.proofs.members.act.Given.{Over}
use Rattle.group_hand.proofs.members.act.Goals.{After-handle}
use Rattle.group_hand.proofs.members.act.Goals as goal

-- the member that handled the message
who : (g : Over) (c : After-handle g) (s : g.row.R.Denot) → slice_get c.args.members.now c.args.message.now.receiver ≡ Some (Some s) → c.in-Some.actor ≡ s
who g c s at =
    sym (read-member c.args.members.now c.from.result c.args.message.now.receiver c.index-members-from.result c.in-Some.actor s c.from.ensures c.index-members-from.is (c.index-members-from.is ∙ c.in-Some.is) at)

pub returns-clause-len : goal.returns-clause-len
returns-clause-len g c = length-set c.args.members.now c.from.result (Some c.handle.new.self)

pub returns-clause-members : goal.returns-clause-members
returns-clause-members g c = λ s at.
    ap (λ n. set c.args.members.now n (Some c.handle.new.self)) c.from.ensures ∙
    ap (λ z. set c.args.members.now c.args.message.now.receiver (Some z)) (c.handle.ensures.state ∙ ap (λ z. g.R.Reversible.plain.after z c.args.message.now) (who g c s at))

pub returns-clause-messages : goal.returns-clause-messages
returns-clause-messages g c = λ s at. c.handle.ensures.messages ∙ ap (λ z. (g.R.Reversible.plain.out z c.args.message.now).messages.items) (who g c s at)

pub returns-clause-notes : goal.returns-clause-notes
returns-clause-notes g c = λ s at. c.handle.ensures.notes ∙ ap (λ z. (g.R.Reversible.plain.out z c.args.message.now).notes.items) (who g c s at)

pub returns-clause-saved : goal.returns-clause-saved
returns-clause-saved g c = λ s at. c.handle.ensures.saved ∙ ap (λ z. g.R.Reversible.plain.saves z c.args.message.now) (who g c s at)

pub returns-clause-valid : goal.returns-clause-valid
returns-clause-valid g c = λ s at. subst (λ z. g.R.Reversible.is_value z c.args.message.now) (who g c s at) c.handle.ensures.valid

pub handle-requires : goal.handle-requires
handle-requires g c =
    let a = c.requires.able in
    subst (λ z. g.R.Reversible.can_apply z)
    (read-member c.args.members.now c.from.result c.args.message.now.receiver c.index-members-from.result c.in-Some.actor a.0 c.from.ensures c.index-members-from.is (c.index-members-from.is ∙ c.in-Some.is) a.1)
    (g.met.R.Actor.numbers_suffice a.0 a.2)

pub unreachable-requires : goal.unreachable-requires
unreachable-requires g c =
    let a = c.requires.able in
    absurd (none-read c.args.members.now c.from.result c.args.message.now.receiver c.index-members-from.result a.0 c.from.ensures c.index-members-from.is (c.index-members-from.is ∙ c.in-None.is) a.1)

pub bounds-members-from : goal.bounds-members-from
bounds-members-from g c = subst (λ n. n < length c.args.members.now) (sym c.from.ensures) c.requires.within
