use Rattle.std.proofs.Common.{◌≡◌, ◌<◌, ◌≤◌, ◌+◌, ◌∙◌, inl, inr, Some, All, get_or, set, slice_get, refl, sym, ap, subst, arith}
use Rattle.std.proofs.lemmas.Bool.{cases_lt, false≢true}
use Rattle.std.proofs.lemmas.List.Elements.{All-weaker}
use Rattle.std.proofs.lemmas.Option.{get_or_from_slice_get}
use Rattle.vlink.specs.declared.message.Message.{Message}
use Rattle.vlink.specs.declared.time.TheConstants.{GREATEST_NS}
use Rattle.vlink.specs.Numbering.{greatest_number}
use Rattle.reverse.specs.declared.sends.TheConstants.{MOST_SENT}
use Rattle.actor_run.proofs.running.act.Given.{Over}
use Rattle.actor_run.proofs.running.act.Goals.{After-index-actors-from}
use Rattle.actor_run.proofs.running.act.Goals as goal

-- the actor in hand is the receiver
who : (g : Over) (c : After-index-actors-from g) (s : g.row.A.Denot) → slice_get c.args.actors.now c.args.message.now.receiver ≡ Some s →
    get_or c.args.actors.now c.from.result c.index-actors-from.result ≡ s
who g c s at =
    let v = c.index-actors-from.result in
    ap (λ n. get_or c.args.actors.now n v) c.from.ensures ∙ get_or_from_slice_get c.args.actors.now c.args.message.now.receiver s v at

pub returns-then-not-has_numbers-clause-exhausted : goal.returns-then-not-has_numbers-clause-exhausted
returns-then-not-has_numbers-clause-exhausted g c = λ e s at.
    let counter = λ (z : g.row.A.Denot). g.A.Reversible.plain.counter z + MOST_SENT in
    subst (λ z. greatest_number < counter z) (who g (goal.at.returns-then-not-has_numbers-clause-exhausted g c).After-index-actors-from s at)
    (elim (cases_lt greatest_number (counter (get_or c.args.actors.now c.from.result c.index-actors-from.result))) [ inl less ↦ less | inr few ↦ absurd (false≢true (c.if-not-has_numbers.ensures.1 few)) ])

pub handle-record-requires : goal.handle-record-requires
handle-record-requires g c = g.met.A.Actor.numbers_suffice (get_or c.args.actors.now c.from.result c.index-actors-from.result) (c.if-not-has_numbers.ensures.0 refl)

pub returns-clause-messages : goal.returns-clause-messages
returns-clause-messages g c = λ e s at.
    c.handle-record.ensures.messages
    ∙ ap (λ z. (g.A.Reversible.plain.out z c.args.message.now).messages.items) (who g (goal.at.returns-clause-messages g c).After-index-actors-from s at)

pub returns-clause-notes : goal.returns-clause-notes
returns-clause-notes g c = λ e s at.
    c.handle-record.ensures.notes
    ∙ ap (λ z. (g.A.Reversible.plain.out z c.args.message.now).notes.items) (who g (goal.at.returns-clause-notes g c).After-index-actors-from s at)

pub returns-clause-state : goal.returns-clause-state
returns-clause-state g c = λ e s at.
    ap (λ n. set c.args.actors.now n c.handle-record.new.self) c.from.ensures
    ∙ ap (set c.args.actors.now c.args.message.now.receiver)
    (c.handle-record.ensures.state ∙ ap (λ z. g.A.Reversible.plain.after z c.args.message.now) (who g (goal.at.returns-clause-state g c).After-index-actors-from s at))

pub returns-clause-later : goal.returns-clause-later
returns-clause-later g c = λ e.
    subst (All (λ (m : Message). c.args.message.now.time < m.time)) (sym c.handle-record.ensures.messages)
    (g.met.A.Actor.later_sends (get_or c.args.actors.now c.from.result c.index-actors-from.result) c.args.message.now c.limits_law.ensures.placed)

pub returns-clause-in_limits : goal.returns-clause-in_limits
returns-clause-in_limits g c = λ e.
    let v = get_or c.args.actors.now c.from.result c.index-actors-from.result in
    let end = c.limits_law.ensures.end in
    subst (All (λ (m : Message). m.time ≤ GREATEST_NS)) (sym c.handle-record.ensures.messages)
    (All-weaker (λ m. m.time ≤ g.A.Actor.end v) (λ m. m.time ≤ GREATEST_NS) (λ m timely. omega (arith, timely, end)) _ (g.met.A.Actor.timely_sends v c.args.message.now))

pub returns-clause-numbers : goal.returns-clause-numbers
returns-clause-numbers g c = λ e s at.
    subst (λ z. g.A.Reversible.plain.counter z + MOST_SENT ≤ greatest_number) (who g (goal.at.returns-clause-numbers g c).After-index-actors-from s at)
    (c.if-not-has_numbers.ensures.0 refl)

pub returns-then-not-has_numbers-clause-messages : goal.returns-then-not-has_numbers-clause-messages
returns-then-not-has_numbers-clause-messages g c = λ e. absurd (false≢true e)

pub returns-then-not-has_numbers-clause-notes : goal.returns-then-not-has_numbers-clause-notes
returns-then-not-has_numbers-clause-notes g c = λ e. absurd (false≢true e)

pub returns-then-not-has_numbers-clause-state : goal.returns-then-not-has_numbers-clause-state
returns-then-not-has_numbers-clause-state g c = λ e. absurd (false≢true e)

pub returns-then-not-has_numbers-clause-later : goal.returns-then-not-has_numbers-clause-later
returns-then-not-has_numbers-clause-later g c = λ e. absurd (false≢true e)

pub returns-then-not-has_numbers-clause-in_limits : goal.returns-then-not-has_numbers-clause-in_limits
returns-then-not-has_numbers-clause-in_limits g c = λ e. absurd (false≢true e)

pub returns-then-not-has_numbers-clause-numbers : goal.returns-then-not-has_numbers-clause-numbers
returns-then-not-has_numbers-clause-numbers g c = λ e. absurd (false≢true e)

pub returns-clause-unchanged : goal.returns-clause-unchanged
returns-clause-unchanged g c = λ e. absurd (false≢true (sym e))

pub returns-clause-exhausted : goal.returns-clause-exhausted
returns-clause-exhausted g c = λ e. absurd (false≢true (sym e))
