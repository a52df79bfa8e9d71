use Rattle.std.proofs.Common.{◌≡◌, ◌∙◌, ◌+◌, ◌<◌, ℕ, suc, List, ◌∷◌, [], ◌++◌, take, drop, length, sym, ap, subst, append_assoc, arith, get_or, take-suc}
use Rattle.std.proofs.lemmas.List.{take-append-drop, take_all}
use Rattle.vlink.specs.declared.message.Message.{Message}
use Rattle.reverse.specs.Rules.{rules_of}
use Rattle.actor_run.specs.RunningAhead.{HavePassed, is_marked}
use Rattle.actor_run.proofs.Errors.{passed-on}
use Rattle.actor_run.proofs.Passing.{more-passed, none-passed, stuck-there}
use Rattle.actor_run.proofs.ahead.pass_all_on.Goals as goal

-- with one message more
more-taken : (ms : List Message) (i : ℕ) (m : Message) → i < length ms → m ≡ get_or ms i m → take (suc i) ms ≡ take i ms ++ m ∷ []
more-taken ms i m lt is = take-suc ms i m lt ∙ ap (λ (x : Message). take i ms ++ x ∷ []) (sym is)

pub loop-message-init : goal.loop-message-init
loop-message-init g c = record {
  passed = none-passed (rules_of g.A.Reversible.plain) (is_marked c.args.ahead.now) c.args.actors.now c.args.waiting.now;
  few = omega arith;
}

pub pass_on-requires-clause-marks : goal.pass_on-requires-clause-marks
pass_on-requires-clause-marks g c = c.requires.marks ∙ sym c.loop-message.invariant.passed.count

pub pass_on-requires-clause-receiver : goal.pass_on-requires-clause-receiver
pass_on-requires-clause-receiver g c =
    let count = c.loop-message.invariant.passed.count in
    let near = c.requires.receivers c.loop-message.message-index c.message-item.result c.loop-message-test.true in
    let same = ap (λ (m : Message). m.receiver) c.message-item.is in
    omega arith

pub loop-message-preserved : goal.loop-message-preserved
loop-message-preserved g c =
    let i = c.loop-message.message-index in
    let m = c.message-item.result in
    let ms = c.args.messages.now in
    let next : i + 1 ≡ suc i = omega arith in
    record {
      passed = subst (λ z. HavePassed (rules_of g.A.Reversible.plain) (is_marked c.args.ahead.now) c.args.actors.now c.args.waiting.now z c.pass_on.new.actors c.pass_on.new.waiting)
          (sym (ap (λ k. take k ms) next ∙ more-taken ms i m c.loop-message-test.true c.message-item.is))
          (more-passed (rules_of g.A.Reversible.plain) (is_marked c.args.ahead.now) _ _ _ _ _ _ (take i ms) m c.loop-message.invariant.passed c.in_ok-events.ensures.passed);
      few = let a = c.loop-message.invariant.few in let b = c.in_ok-events.ensures.few in omega arith;
    }

pub returns-in_err-events-clause-exhausted : goal.returns-in_err-events-clause-exhausted
returns-in_err-events-clause-exhausted g c = λ e.
    let i = c.loop-message.message-index in
    let m = c.message-item.result in
    let ms = c.args.messages.now in
    let k = passed-on c.from_residual.result c.from_residual.ensures.1 c.in_err-events.was e in
    stuck-there (rules_of g.A.Reversible.plain) (is_marked c.args.ahead.now) _ _ _ _ ms (take i ms) m (drop (suc i) ms) c.loop-message.invariant.passed (c.pass_on.ensures.exhausted k)
    (sym (take-append-drop (suc i) ms) ∙ (ap (λ z. z ++ drop (suc i) ms) (more-taken ms i m c.loop-message-test.true c.message-item.is) ∙ append_assoc (take i ms) (m ∷ []) (drop (suc i) ms)))

pub returns-clause-passed : goal.returns-clause-passed
returns-clause-passed g c =
    let ms = c.args.messages.now in
    subst (λ z. HavePassed (rules_of g.A.Reversible.plain) (is_marked c.args.ahead.now) c.args.actors.now c.args.waiting.now z c.loop-message.actors c.loop-message.waiting)
    (take_all c.loop-message.message-index ms (let a = c.loop-message-test.false in omega arith))
    c.loop-message.invariant.passed
