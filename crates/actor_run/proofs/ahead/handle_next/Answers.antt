use Rattle.std.proofs.Common.{◌∙◌, ◌<◌, ◌≤◌, ◌++◌, refl, ap, sym, subst, length, length-set, List, All, le-leb}
use Rattle.virtual_time.specs.Law.{rows_of}
use Rattle.vlink.specs.declared.message.Message.{Message}
use Rattle.vlink.specs.declared.time.TheConstants.{GREATEST_NS}
use Rattle.vlink.specs.Order.{message_order}
use Rattle.reverse.specs.Rules.{rules_of}
use Rattle.reverse.specs.Setting.{simulation_of}
use Rattle.runs_ahead.specs.Standing.{AnswersGood}
use Rattle.actor_run.specs.RunningAhead.{StandsAhead, has_room, is_marked}
use Rattle.actor_run.proofs.Advancing.{advanced, answer-exhausted, exhausted, next, over, receiver-is, receiver-within, receivers, room, states-next}
use Rattle.actor_run.proofs.Errors.{err-on-ok, not-passed, passed-on, passed-short}
use Rattle.actor_run.proofs.Loading.{load-replaced, sends-lighter}
use Rattle.actor_run.proofs.ahead.handle_next.Goals as goal

pub returns-in_default-clause-over : goal.returns-in_default-clause-over
returns-in_default-clause-over g c = λ e rows taken x L from R n h.
    let f = simulation_of (rules_of g.A.Reversible.plain) x in
    let ahead = is_marked c.args.ahead.now in (
      taken,
      subst (λ (heap : List Message). StandsAhead f ahead n c.args.actors.now heap rows) (sym c.in_default.ensures.unchanged) h,
      over f L ahead from R n _ _ _ h c.in_default.ensures.none,
    )

pub act-requires : goal.act-requires
act-requires g c =
    let (x, L, from, R, n, h) = c.requires.runs.2 in
    let f = simulation_of (rules_of g.A.Reversible.plain) x in
    receiver-within f L (is_marked c.args.ahead.now) from R n _ _ _ h c.in-Some.message c.pop.new.self c.in-Some.ensures.one c.in-Some.ensures.first

pub returns-then-not-act-clause-exhausted : goal.returns-then-not-act-clause-exhausted
returns-then-not-act-clause-exhausted g c =
    let one = c.in-Some.ensures.one in
    let first = c.in-Some.ensures.first in
    λ e rows taken x L from R n h.
    let f = simulation_of (rules_of g.A.Reversible.plain) x in
    let ahead = is_marked c.args.ahead.now in
    exhausted f L ahead from R n _ _ _ h c.in-Some.message c.pop.new.self one first
    (c.if-not-act.ensures.exhausted refl _ (receiver-is f L ahead from R n _ _ _ h c.in-Some.message c.pop.new.self one first))

pub pass_all_on-requires-clause-marks : goal.pass_all_on-requires-clause-marks
pass_all_on-requires-clause-marks g c =
    let (x, L, from, R, n, h) = c.requires.runs.2 in
    let f = simulation_of (rules_of g.A.Reversible.plain) x in
    let r = receiver-is f L (is_marked c.args.ahead.now) from R n _ _ _ h c.in-Some.message c.pop.new.self c.in-Some.ensures.one c.in-Some.ensures.first in
    c.requires.marks ∙ sym (ap length (c.if-not-act.ensures.state refl _ r) ∙ length-set c.args.actors.now _ _)

pub pass_all_on-requires-clause-receivers : goal.pass_all_on-requires-clause-receivers
pass_all_on-requires-clause-receivers g c =
    let (x, L, from, R, n, h) = c.requires.runs.2 in
    let one = c.in-Some.ensures.one in
    let first = c.in-Some.ensures.first in
    let f = simulation_of (rules_of g.A.Reversible.plain) x in
    let ahead = is_marked c.args.ahead.now in
    let r = receiver-is f L ahead from R n _ _ _ h c.in-Some.message c.pop.new.self one first in
    receivers f L ahead from R n _ _ _ h c.in-Some.message c.pop.new.self one first c.act.new.actors c.messages.result.now
    (ap length (c.if-not-act.ensures.state refl _ r) ∙ length-set c.args.actors.now _ _)
    (c.messages.ensures.messages ∙ c.if-not-act.ensures.messages refl _ r)

pub returns-in_err-answers-clause-exhausted : goal.returns-in_err-answers-clause-exhausted
returns-in_err-answers-clause-exhausted g c =
    let one = c.in-Some.ensures.one in
    let first = c.in-Some.ensures.first in
    λ e rows taken x L from R n h.
    let f = simulation_of (rules_of g.A.Reversible.plain) x in
    let ahead = is_marked c.args.ahead.now in
    let r = receiver-is f L ahead from R n _ _ _ h c.in-Some.message c.pop.new.self one first in
    let k = passed-on c.from_residual.result c.from_residual.ensures.1 c.in_err-answers.was e in
    let z = c.pass_all_on.ensures.exhausted k x (next f L ahead from R n _ _ _ h c.in-Some.message c.pop.new.self one first)
    (states-next f L ahead from R n _ _ _ h c.in-Some.message c.pop.new.self one first c.act.new.actors (c.if-not-act.ensures.state refl _ r)) in
    answer-exhausted f L ahead from R n _ _ _ h c.in-Some.message c.pop.new.self one first z.before z.stuck z.behind
    (sym (c.messages.ensures.messages ∙ c.if-not-act.ensures.messages refl _ r) ∙ z.split) z.runs z.wants

pub record-requires : goal.record-requires
record-requires g c = (c.requires.runs.0, c.requires.runs.1)

pub returns-clause-handled : goal.returns-clause-handled
returns-clause-handled g c =
    let one = c.in-Some.ensures.one in
    let first = c.in-Some.ensures.first in
    λ e rows taken x L from R n h.
    let f = simulation_of (rules_of g.A.Reversible.plain) x in
    let ahead = is_marked c.args.ahead.now in
    let r = receiver-is f L ahead from R n _ _ _ h c.in-Some.message c.pop.new.self one first in
    let after = next f L ahead from R n _ _ _ h c.in-Some.message c.pop.new.self one first in
    let states = states-next f L ahead from R n _ _ _ h c.in-Some.message c.pop.new.self one first c.act.new.actors (c.if-not-act.ensures.state refl _ r) in
    let sent = c.messages.ensures.messages ∙ c.if-not-act.ensures.messages refl _ r in
    let passed = c.in_ok-answers.ensures.passed in
    let later = rows ++ rows_of message_order c.in-Some.message c.notes.result.now in (
      later,
      c.in_ok-record.ensures.taken rows taken,
      advanced f L ahead from R n _ _ _ h c.in-Some.message c.pop.new.self one first
          c.messages.result.now c.pass_all_on.new.waiting c.notes.result.now c.pass_all_on.new.actors later
          sent
          (c.notes.ensures.notes ∙ c.if-not-act.ensures.notes refl _ r)
          (passed.states x after states) (passed.waiting x after states) refl,
      room f L ahead from R n _ _ _ h c.in-Some.message c.pop.new.self one first (le-leb _ _ (c.if-not-act.ensures.numbers refl _ r))
          (subst (AnswersGood f ahead (has_room f.rules) after) sent (passed.numbers x after states)),
    )

pub returns-clause-smaller : goal.returns-clause-smaller
returns-clause-smaller g c = λ e.
    load-replaced GREATEST_NS c.in-Some.message _ c.pop.new.self c.messages.result.now _ c.in-Some.ensures.one c.in_ok-answers.ensures.passed.lighter
    (sends-lighter GREATEST_NS c.in-Some.message c.messages.result.now
    (subst (λ (ms : List Message). All (λ m. c.in-Some.message.time < m.time) ms) (sym c.messages.ensures.messages) (c.if-not-act.ensures.later refl))
    (subst (λ (ms : List Message). All (λ m. m.time ≤ GREATEST_NS) ms) (sym c.messages.ensures.messages) (c.if-not-act.ensures.in_limits refl))
    c.messages.ensures.few)

pub returns-in_err-record-clause-exhausted : goal.returns-in_err-record-clause-exhausted
returns-in_err-record-clause-exhausted g c = λ e. passed-short c.from_residual-in_err-record.result c.from_residual-in_err-record.ensures.1 refl e

pub returns-in_err-answers-clause-handled : goal.returns-in_err-answers-clause-handled
returns-in_err-answers-clause-handled g c = λ e. not-passed _ c.from_residual.result c.from_residual.ensures.1 e

pub returns-in_err-answers-clause-smaller : goal.returns-in_err-answers-clause-smaller
returns-in_err-answers-clause-smaller g c = λ e. not-passed _ c.from_residual.result c.from_residual.ensures.1 e

pub returns-in_err-answers-clause-over : goal.returns-in_err-answers-clause-over
returns-in_err-answers-clause-over g c = λ e. not-passed _ c.from_residual.result c.from_residual.ensures.1 e

pub returns-in_err-answers-clause-few : goal.returns-in_err-answers-clause-few
returns-in_err-answers-clause-few g c = λ e. not-passed _ c.from_residual.result c.from_residual.ensures.1 e

pub returns-in_err-answers-clause-purpose : goal.returns-in_err-answers-clause-purpose
returns-in_err-answers-clause-purpose g c = err-on-ok _ _ c.from_residual.result c.from_residual.ensures.1

pub returns-in_err-record-clause-handled : goal.returns-in_err-record-clause-handled
returns-in_err-record-clause-handled g c = λ e. not-passed _ c.from_residual-in_err-record.result c.from_residual-in_err-record.ensures.1 e

pub returns-in_err-record-clause-smaller : goal.returns-in_err-record-clause-smaller
returns-in_err-record-clause-smaller g c = λ e. not-passed _ c.from_residual-in_err-record.result c.from_residual-in_err-record.ensures.1 e

pub returns-in_err-record-clause-over : goal.returns-in_err-record-clause-over
returns-in_err-record-clause-over g c = λ e. not-passed _ c.from_residual-in_err-record.result c.from_residual-in_err-record.ensures.1 e

pub returns-in_err-record-clause-few : goal.returns-in_err-record-clause-few
returns-in_err-record-clause-few g c = λ e. not-passed _ c.from_residual-in_err-record.result c.from_residual-in_err-record.ensures.1 e

pub returns-in_err-record-clause-purpose : goal.returns-in_err-record-clause-purpose
returns-in_err-record-clause-purpose g c = err-on-ok _ _ c.from_residual-in_err-record.result c.from_residual-in_err-record.ensures.1
