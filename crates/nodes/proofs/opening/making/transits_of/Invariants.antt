use Rattle.std.proofs.Common.{◌≡◌, map, take}
use Rattle.nodes.specs.Words.{transit_met}
use Rattle.nodes.proofs.opening.making.transits_of.Given as goal

abbrev pub invariant-loop-met : goal.invariant-loop-met
invariant-loop-met l = l.transits.items ≡ map (transit_met l.departing) (take l.met-index l.arriving)
