use Rattle.std.proofs.Common.{◌≡◌, map, take}
use Rattle.nodes.specs.Words.{source_met}
use Rattle.nodes.proofs.opening.making.sources_of.Given as goal

abbrev pub invariant-loop-met : goal.invariant-loop-met
invariant-loop-met l = l.sources.items ≡ map source_met (take l.met-index l.meetings)
