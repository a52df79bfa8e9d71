use Rattle.std.proofs.Common.{◌≡◌, ◌+◌, take}
use Rattle.virtual_time.specs.Law.{lowest}
use Rattle.gvt.proofs.least.earliest_floor.Given as goal

abbrev pub invariant-loop-process : goal.invariant-loop-process
invariant-loop-process l = l.earliest ≡ lowest (l.floors.until + 1) (take l.process l.floors.floors)
