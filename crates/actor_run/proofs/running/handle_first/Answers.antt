use Rattle.std.proofs.Common.{refl, suc, ◌++◌, ◌∙◌, ap, sym, subst, length, List, IsPermutation, arith}
use Rattle.virtual_time.specs.Law.{one, rows_of}
use Rattle.vlink.specs.declared.message.Message.{Message}
use Rattle.vlink.specs.declared.time.TheConstants.{GREATEST_NS}
use Rattle.vlink.specs.Letters.{Row}
use Rattle.vlink.specs.Order.{message_order}
use Rattle.reverse.specs.Rules.{rules_of}
use Rattle.reverse.specs.Setting.{AreInStates, simulation_of}
use Rattle.actor_run.specs.Running.{AtEach, IsCutOffAt, StandsAt}
use Rattle.actor_run.proofs.Handling.{over, over-numbers, has-numbers, is_next, receiver_is, receiver_within, states_after, handled}
use Rattle.actor_run.proofs.Errors.{after-error, err-on-ok, not-passed, passed-short}
use Rattle.actor_run.proofs.Loading.{load-falls}
use Rattle.actor_run.proofs.running.handle_first.Goals as goal
use Rattle.actor_run.proofs.running.handle_first.Given.{Over}
use Rattle.actor_run.proofs.running.handle_first.Goals.{After-messages}

pub returns-in_default-clause-over : goal.returns-in_default-clause-over
returns-in_default-clause-over g c = λ e rows taken x L n h.
    let f = simulation_of (rules_of g.A.Reversible.plain) x in (
      taken,
      subst (λ (heap : List Message). StandsAt f n c.args.actors.now heap rows) (sym c.in_default.ensures.unchanged) h,
      over f L n _ _ _ h c.in_default.ensures.none,
    )

pub act-requires : goal.act-requires
act-requires g c =
    let one = c.in-Some.ensures.one in
    let first = c.in-Some.ensures.first in
    let now = c.requires.2 in
    let f = simulation_of (rules_of g.A.Reversible.plain) now.0 in
    receiver_within f now.1 now.2 _ _ _ now.3 c.in-Some.message c.pop.new.self one first

pub returns-then-not-act-clause-exhausted : goal.returns-then-not-act-clause-exhausted
returns-then-not-act-clause-exhausted g c =
    let one = c.in-Some.ensures.one in
    let first = c.in-Some.ensures.first in
    λ e rows taken x L n h.
    let f = simulation_of (rules_of g.A.Reversible.plain) x in (
      c.in-Some.message,
      is_next f L n _ _ _ h c.in-Some.message c.pop.new.self one first,
      c.if-not-act.ensures.exhausted refl _ (receiver_is f L n _ _ _ h c.in-Some.message c.pop.new.self one first),
    )

-- after the receiver has acted, the actors stand as they do after one event more, and it had numbers left
cut-off : (g : Over) (c : After-messages g) (rows : List Row) → AtEach (rules_of g.A.Reversible.plain) c.args.actors.now c.args.waiting.now rows
    (λ f n. IsCutOffAt f n c.act.new.actors)
cut-off g c rows x L n h =
    let one = c.in-Some.ensures.one in
    let first = c.in-Some.ensures.first in
    let f = simulation_of (rules_of g.A.Reversible.plain) x in
    let r = receiver_is f L n _ _ _ h c.in-Some.message c.pop.new.self one first in (
      has-numbers f L n _ _ _ h c.in-Some.message c.pop.new.self one first (c.if-not-act.ensures.numbers refl _ r),
      states_after f L n _ _ _ h c.in-Some.message c.pop.new.self one first c.act.new.actors (c.if-not-act.ensures.state refl _ r),
    )

pub returns-in_err-push_all-clause-left : goal.returns-in_err-push_all-clause-left
returns-in_err-push_all-clause-left g c =
    after-error (λ rows taken x L n h. (suc n, (cut-off g (goal.at.returns-in_err-push_all-clause-left g c).After-messages rows x L n h).1)) c.from_residual.result

pub returns-in_err-record-clause-left : goal.returns-in_err-record-clause-left
returns-in_err-record-clause-left g c =
    after-error (λ rows taken x L n h. (suc n, (cut-off g (goal.at.returns-in_err-record-clause-left g c).After-messages rows x L n h).1)) c.from_residual-in_err-record.result

pub record-requires : goal.record-requires
record-requires g c = (c.requires.0, c.requires.1)

pub returns-clause-handled : goal.returns-clause-handled
returns-clause-handled g c =
    let one = c.in-Some.ensures.one in
    let first = c.in-Some.ensures.first in
    λ e rows taken x L n h.
    let f = simulation_of (rules_of g.A.Reversible.plain) x in
    let r = receiver_is f L n _ _ _ h c.in-Some.message c.pop.new.self one first in
    let later = rows ++ rows_of message_order c.in-Some.message c.notes.result.now in (
      later,
      c.in_ok-record.ensures.taken rows taken,
      handled f L n _ _ _ h c.in-Some.message c.pop.new.self one first
          c.act.new.actors c.messages.result.now c.notes.result.now c.push_all.new.self later
          (c.if-not-act.ensures.state refl _ r)
          (c.messages.ensures.messages ∙ c.if-not-act.ensures.messages refl _ r)
          (c.notes.ensures.notes ∙ c.if-not-act.ensures.notes refl _ r)
          c.in_ok-push_all.ensures.more
          refl,
    )

pub returns-clause-smaller : goal.returns-clause-smaller
returns-clause-smaller g c =
    let one = c.in-Some.ensures.one in
    λ e.
    load-falls GREATEST_NS c.in-Some.message _ c.pop.new.self c.act.new.out.messages _ one
    (subst (λ (sent : List Message). IsPermutation (c.pop.new.self ++ sent) c.push_all.new.self) c.messages.ensures.messages c.in_ok-push_all.ensures.more)
    (c.if-not-act.ensures.later refl) (c.if-not-act.ensures.in_limits refl)
    (let a = c.messages.ensures.few in let b = ap length c.messages.ensures.messages in omega arith)

pub returns-in_default-clause-used_up : goal.returns-in_default-clause-used_up
returns-in_default-clause-used_up g c = λ rows taken x L n h z.
    let f = simulation_of (rules_of g.A.Reversible.plain) x in
    absurd (over-numbers f L n _ _ _ h c.in_default.ensures.none z)

pub returns-in_err-push_all-clause-used_up : goal.returns-in_err-push_all-clause-used_up
returns-in_err-push_all-clause-used_up g c = λ rows taken x L n h z.
    absurd ((cut-off g (goal.at.returns-in_err-push_all-clause-used_up g c).After-messages rows x L n h).0 z)

pub returns-in_err-record-clause-used_up : goal.returns-in_err-record-clause-used_up
returns-in_err-record-clause-used_up g c = λ rows taken x L n h z.
    absurd ((cut-off g (goal.at.returns-in_err-record-clause-used_up g c).After-messages rows x L n h).0 z)

pub returns-clause-used_up : goal.returns-clause-used_up
returns-clause-used_up g c = λ rows taken x L n h z. absurd ((cut-off g (goal.at.returns-clause-used_up g c).After-messages rows x L n h).0 z)

pub returns-in_err-push_all-clause-memory : goal.returns-in_err-push_all-clause-memory
returns-in_err-push_all-clause-memory g c = λ e rows taken. cut-off g (goal.at.returns-in_err-push_all-clause-memory g c).After-messages rows

pub returns-in_err-record-clause-memory : goal.returns-in_err-record-clause-memory
returns-in_err-record-clause-memory g c = λ e rows taken. cut-off g (goal.at.returns-in_err-record-clause-memory g c).After-messages rows

-- nothing was handled, and the actors stand as they stood
pub returns-then-not-act-clause-left : goal.returns-then-not-act-clause-left
returns-then-not-act-clause-left g c = λ rows taken x L n h.
    let f = simulation_of (rules_of g.A.Reversible.plain) x in
    (n, subst (AreInStates f.processes (one f n).states) (sym (c.if-not-act.ensures.unchanged refl)) h.states)

pub returns-in_err-push_all-clause-exhausted : goal.returns-in_err-push_all-clause-exhausted
returns-in_err-push_all-clause-exhausted g c = λ e. passed-short c.from_residual.result c.from_residual.ensures.1 c.in_err-push_all.ensures.memory e

pub returns-in_err-record-clause-exhausted : goal.returns-in_err-record-clause-exhausted
returns-in_err-record-clause-exhausted g c = λ e. passed-short c.from_residual-in_err-record.result c.from_residual-in_err-record.ensures.1 refl e

-- an error says nothing of a message that was handled, nor that none was left
pub returns-in_err-push_all-clause-handled : goal.returns-in_err-push_all-clause-handled
returns-in_err-push_all-clause-handled g c = λ e. not-passed _ c.from_residual.result c.from_residual.ensures.1 e

pub returns-in_err-push_all-clause-smaller : goal.returns-in_err-push_all-clause-smaller
returns-in_err-push_all-clause-smaller g c = λ e. not-passed _ c.from_residual.result c.from_residual.ensures.1 e

pub returns-in_err-push_all-clause-over : goal.returns-in_err-push_all-clause-over
returns-in_err-push_all-clause-over g c = λ e. not-passed _ c.from_residual.result c.from_residual.ensures.1 e

pub returns-in_err-push_all-clause-purpose : goal.returns-in_err-push_all-clause-purpose
returns-in_err-push_all-clause-purpose g c = err-on-ok _ _ c.from_residual.result c.from_residual.ensures.1

pub returns-in_err-record-clause-handled : goal.returns-in_err-record-clause-handled
returns-in_err-record-clause-handled g c = λ e. not-passed _ c.from_residual-in_err-record.result c.from_residual-in_err-record.ensures.1 e

pub returns-in_err-record-clause-smaller : goal.returns-in_err-record-clause-smaller
returns-in_err-record-clause-smaller g c = λ e. not-passed _ c.from_residual-in_err-record.result c.from_residual-in_err-record.ensures.1 e

pub returns-in_err-record-clause-over : goal.returns-in_err-record-clause-over
returns-in_err-record-clause-over g c = λ e. not-passed _ c.from_residual-in_err-record.result c.from_residual-in_err-record.ensures.1 e

pub returns-in_err-record-clause-purpose : goal.returns-in_err-record-clause-purpose
returns-in_err-record-clause-purpose g c = err-on-ok _ _ c.from_residual-in_err-record.result c.from_residual-in_err-record.ensures.1
