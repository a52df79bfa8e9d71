use Rattle.std.proofs.Common.{◌<◌, length, sym, arith}
use Rattle.antimessages.specs.Mailing.{letters_for}
use Rattle.gvt.proofs.Lowest.{times-more, some-within}
use Rattle.gvt.proofs.least.earliest_letter.Goals as goal
use Rattle.gvt.proofs.least.earliest_letter.Goals.{in-Some, in_default}

pub loop-place-preserved : goal.loop-place-preserved
loop-place-preserved c =
    let ls = letters_for c.args.process c.args.mail.now in
    let place = c.loop-place.place in
    let within : place < length ls = omega arith in
    elim c.match-look.branch [
      | in-Some w ↦
          let more = times-more c.args.moment ls place (w.in-Some.letter) within (sym w.in-Some.ensures) in
          omega arith
      | in_default w ↦ absurd (some-within ls place c.look.result c.look.ensures within w.in_default.is)
    ]
