use Rattle.std.proofs.Common.{◌<◌, length, sym, arith}
use Rattle.std.proofs.lemmas.Option.{slice_get-get_or}
use Rattle.group_boxes.proofs.Lists.{lowest-more}
use Rattle.group_boxes.proofs.least.earliest_floor.Goals as goal
use Rattle.group_boxes.proofs.least.earliest_floor.Goals.{in-Some, in_default}

pub loop-group-preserved : goal.loop-group-preserved
loop-group-preserved c =
    let floors = c.args.floors.now.floors in
    let group = c.loop-group.group in
    let within : group < length floors = omega arith in
    elim c.match-floor.branch [
      | in-Some w ↦
          let more = lowest-more c.args.moment floors group w.in-Some.floor within (sym w.in-Some.ensures) in
          omega arith
      | in_default w ↦ absurd (let some = slice_get-get_or floors group 0 within in let none = w.in_default.is in cc)
    ]
