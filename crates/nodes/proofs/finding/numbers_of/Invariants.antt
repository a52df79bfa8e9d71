use Rattle.std.proofs.Common.{◌≡◌, map, take}
use Rattle.nodes.proofs.finding.numbers_of.Given as goal

abbrev pub invariant-loop-entry : goal.invariant-loop-entry
invariant-loop-entry g l = l.numbers.items ≡ map g.T.Numbered.number (take l.entry-index l.entries)
