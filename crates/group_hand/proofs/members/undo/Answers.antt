use Rattle.std.proofs.Common.{◌≡◌, List, Option, Some, length, length-set, set, slice_get, get_or, refl, sym, ap, ◌∙◌, arith}
use Rattle.std.proofs.lemmas.List.{set-get_or}
use Rattle.std.proofs.lemmas.Option.{slice_get_read, slice_get_within, get_or_from_slice_get, none-some}
use Rattle.group_hand.specs.Hands.{is_ours}
use Rattle.group_hand.proofs.AtPlace.{read-member}
use Rattle.group_hand.proofs.FirstEvent.{set-here, set-there, set-ours}
use Rattle.group_hand.proofs.members.undo.Given.{Over}
use Rattle.group_hand.proofs.members.undo.Goals.{After-undo, In-None}
use Rattle.group_hand.proofs.members.undo.Goals as goal

-- the member that undid the message
who : (g : Over) (c : After-undo g) (s : g.row.R.Denot) → slice_get c.args.members.now c.args.message.now.receiver ≡ Some (Some s) → c.in-Some.actor ≡ s
who g c s at =
    sym (read-member c.args.members.now c.from-place.result c.args.message.now.receiver c.index-members-place.result c.in-Some.actor s c.from-place.ensures c.index-members-place.is (c.index-members-place.is ∙ c.in-Some.is) at)

pub returns-in-Some-clause-len : goal.returns-in-Some-clause-len
returns-in-Some-clause-len g c = length-set c.args.members.now c.from-place.result (Some c.undo.new.self)

pub returns-in-Some-clause-member : goal.returns-in-Some-clause-member
returns-in-Some-clause-member g c = λ s at.
    let members = c.args.members.now in
    let p = c.args.message.now.receiver in
    ap (λ n. slice_get (set members n (Some c.undo.new.self)) p) c.from-place.ensures ∙
    (set-here members p (Some c.undo.new.self) (Some s) at ∙
    ap (λ z. Some (Some z)) (c.undo.ensures ∙ ap (λ z. g.R.Reversible.plain.before z c.args.message.now c.args.kept) (who g c s at)))

pub returns-in-Some-clause-others : goal.returns-in-Some-clause-others
returns-in-Some-clause-others g c = λ q n. set-there c.args.members.now c.from-place.result q (Some c.undo.new.self) (λ e. n (e ∙ c.from-place.ensures))

pub returns-in-Some-clause-ours : goal.returns-in-Some-clause-ours
returns-in-Some-clause-ours g c =
    let members = c.args.members.now in
    let p = c.from-place.result in
    set-ours members p c.in-Some.actor c.undo.new.self (slice_get_read members (length members) p c.index-members-place.result refl c.if-place-members.true c.index-members-place.is ∙ ap (λ z. Some z) (c.index-members-place.is ∙ c.in-Some.is))

-- where there is no member nothing changes
same : (g : Over) (c : In-None g) → set c.args.members.now c.from-place.result (get_or c.args.members.now c.from-place.result c.index-members-place.result) ≡ c.args.members.now
same g c = set-get_or c.args.members.now c.from-place.result c.index-members-place.result

pub returns-in-None-clause-len : goal.returns-in-None-clause-len
returns-in-None-clause-len g c = ap length (same g c)

pub returns-in-None-clause-member : goal.returns-in-None-clause-member
returns-in-None-clause-member g c = λ s at.
    absurd (none-some s (sym c.in-None.is ∙
    (ap (λ n. get_or c.args.members.now n c.index-members-place.result) c.from-place.ensures ∙
    get_or_from_slice_get c.args.members.now c.args.message.now.receiver (Some s) c.index-members-place.result at)))

pub returns-in-None-clause-others : goal.returns-in-None-clause-others
returns-in-None-clause-others g c = λ q _. ap (λ (z : List (Option g.row.R.Denot)). slice_get z q) (same g c)

pub returns-in-None-clause-ours : goal.returns-in-None-clause-ours
returns-in-None-clause-ours g c = λ q. ap (λ (z : List (Option g.row.R.Denot)). is_ours z q) (same g c)

pub returns-else-place-members-clause-member : goal.returns-else-place-members-clause-member
returns-else-place-members-clause-member g c = λ s at.
    let l = slice_get_within c.args.members.now c.args.message.now.receiver (Some s) at in
    let f = c.if-place-members.false in
    let e = c.from-place.ensures in
    absurd (omega arith)

pub undo-requires : goal.undo-requires
undo-requires g c =
    let members = c.args.members.now in
    c.requires c.in-Some.actor
    (ap (λ n. slice_get members n) (sym c.from-place.ensures) ∙
    (slice_get_read members (length members) c.from-place.result c.index-members-place.result refl c.if-place-members.true c.index-members-place.is ∙
    ap (λ z. Some z) (c.index-members-place.is ∙ c.in-Some.is)))

pub bounds-members-place : goal.bounds-members-place
bounds-members-place g c = c.if-place-members.true

pub returns-else-place-members-clause-others : goal.returns-else-place-members-clause-others
returns-else-place-members-clause-others g c = λ q _. refl

pub returns-else-place-members-clause-ours : goal.returns-else-place-members-clause-ours
returns-else-place-members-clause-ours g c = λ q. refl
