use Rattle.std.proofs.Common.{◌≡◌, ◌∙◌, true, false, ◌<◌, ◌≤◌, All, List, refl, sym, subst, arith}
use Rattle.vlink.specs.declared.message.Message.{Message}
use Rattle.vlink.specs.declared.time.TheConstants.{GREATEST_NS}
use Rattle.reverse.specs.Rules.{rules_of}
use Rattle.actor_run.specs.RunningAhead.{is_marked}
use Rattle.actor_run.proofs.Loading.{sends-lighter}
use Rattle.actor_run.proofs.Passing.{answered, waits-on}
use Rattle.actor_run.proofs.ahead.pass_on.Goals as goal

pub returns-then-not-runs_ahead-clause-passed : goal.returns-then-not-runs_ahead-clause-passed
returns-then-not-runs_ahead-clause-passed g c =
    let off : is_marked c.args.ahead.now c.args.message.now.receiver ≡ false = sym c.runs_ahead.ensures ∙ c.if-not-runs_ahead.true in
    waits-on (rules_of g.A.Reversible.plain) (is_marked c.args.ahead.now) c.args.actors.now c.args.waiting.now c.push.new.self c.args.message.now off c.in_ok-push.ensures.more

pub returns-then-not-act-clause-exhausted : goal.returns-then-not-act-clause-exhausted
returns-then-not-act-clause-exhausted g c = λ e x s h.
    let on : is_marked c.args.ahead.now c.args.message.now.receiver ≡ true = sym c.runs_ahead.ensures ∙ c.if-not-runs_ahead.false in
    let at = h.each c.args.message.now.receiver (let a = h.count in let b = c.requires.receiver in omega arith) in
    (on, c.if-not-act.ensures.exhausted refl (s c.args.message.now.receiver) at)

pub returns-clause-passed : goal.returns-clause-passed
returns-clause-passed g c =
    let on : is_marked c.args.ahead.now c.args.message.now.receiver ≡ true = sym c.runs_ahead.ensures ∙ c.if-not-runs_ahead.false in
    answered (rules_of g.A.Reversible.plain) (is_marked c.args.ahead.now) c.args.actors.now c.act.new.actors c.args.waiting.now c.push_all.new.self c.messages.result.now c.args.message.now on c.requires.receiver
    (λ s at. c.if-not-act.ensures.state refl s at)
    (λ s at. c.messages.ensures.messages ∙ c.if-not-act.ensures.messages refl s at)
    (λ s at. c.if-not-act.ensures.numbers refl s at)
    c.in_ok-push_all.ensures.more
    (sends-lighter GREATEST_NS c.args.message.now c.messages.result.now
    (subst (λ (ms : List Message). All (λ m. c.args.message.now.time < m.time) ms) (sym c.messages.ensures.messages) (c.if-not-act.ensures.later refl))
    (subst (λ (ms : List Message). All (λ m. m.time ≤ GREATEST_NS) ms) (sym c.messages.ensures.messages) (c.if-not-act.ensures.in_limits refl))
    c.messages.ensures.few)
