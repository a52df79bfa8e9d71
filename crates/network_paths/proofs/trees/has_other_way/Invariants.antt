use Rattle.std.proofs.Common.{take}
use Rattle.network_paths.specs.Findings.{AreWays}
use Rattle.network_paths.proofs.trees.has_other_way.Given as goal

abbrev pub invariant-loop-hop : goal.invariant-loop-hop
invariant-loop-hop l = AreWays l.ways (take l.hop-index l.hops)
