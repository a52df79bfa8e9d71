use Rattle.std.proofs.Common.{◌≡◌, take}
use Rattle.virtual_time.specs.Law.{lowest}
use Rattle.group_boxes.proofs.least.earliest_floor.Given as goal

abbrev pub invariant-loop-group : goal.invariant-loop-group
invariant-loop-group l = l.earliest ≡ lowest l.fn.moment (take l.group l.floors.floors)
