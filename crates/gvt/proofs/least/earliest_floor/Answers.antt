use Rattle.std.proofs.Common.{◌+◌, ◌<◌, length, sym, arith}
use Rattle.std.proofs.lemmas.Option.{slice_get-get_or}
use Rattle.gvt.proofs.Lowest.{lowest-more}
use Rattle.gvt.proofs.least.earliest_floor.Goals as goal
use Rattle.gvt.proofs.least.earliest_floor.Goals.{in-Some, in_default}

pub loop-process-preserved : goal.loop-process-preserved
loop-process-preserved c =
    let floors = c.args.floors.now.floors in
    let process = c.loop-process.process in
    let within : process < length floors = omega arith in
    elim c.match-floor.branch [
      | in-Some w ↦
          let more = lowest-more (c.args.floors.now.until + 1) floors process w.in-Some.floor within (sym w.in-Some.ensures) in
          omega arith
      | in_default w ↦ absurd (let some = slice_get-get_or floors process 0 within in let none = w.in_default.is in cc)
    ]
