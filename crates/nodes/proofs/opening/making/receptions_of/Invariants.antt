use Rattle.std.proofs.Common.{◌≡◌, map, take}
use Rattle.nodes.specs.Words.{reception_met}
use Rattle.nodes.proofs.opening.making.receptions_of.Given as goal

abbrev pub invariant-loop-met : goal.invariant-loop-met
invariant-loop-met l = l.receptions.items ≡ map reception_met (take l.met-index l.meetings)
