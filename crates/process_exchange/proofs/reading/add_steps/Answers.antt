use Rattle.std.proofs.Common.{◌<◌, ◌≤◌, ◌++◌, length, sym, ap, ◌∙◌, arith, take_all}
use Rattle.vlink.specs.declared.message.Message.{Message}
use Rattle.virtual_time.specs.Law.{steps_of}
use Rattle.process_exchange.proofs.Listed.{listed-more, some-step}
use Rattle.process_exchange.proofs.reading.add_steps.Goals as goal
use Rattle.process_exchange.proofs.reading.add_steps.Goals.{in-Some+in_ok-push, in_default}

pub loop-at-preserved : goal.loop-at-preserved
loop-at-preserved c =
    let e = c.args.entry.now in
    let ss = steps_of {M = Message} e.process e.deed in
    elim c.match-step.branch [
      | in-Some+in_ok-push w ↦ listed-more ss c.loop-at.at w.in-Some.step c.args.list.now.items c.loop-at.list.items c.match-step.list.items w.in-Some.ensures c.loop-at.invariant
          (let pushed = w.in_ok-push.ensures.items in let same = w.list-is in cc)
      | in_default w ↦ let within : c.loop-at.at < length ss = omega arith in absurd (some-step ss c.loop-at.at within (sym c.step.ensures ∙ w.in_default.is))
    ]

pub returns : goal.returns
returns c =
    let ss = steps_of {M = Message} c.args.entry.now.process c.args.entry.now.deed in
    let all : length ss ≤ c.loop-at.at = (let t = c.loop-at-test.false in omega arith) in
    c.loop-at.invariant ∙ ap (λ z. c.args.list.now.items ++ z) (take_all c.loop-at.at ss all)
