use Rattle.std.proofs.Common.{◌≡◌, ◌++◌, drop, flat_map}
use Rattle.network.specs.Words.{lines_over}
use Rattle.network_tables.proofs.routes.lines_over.Given as goal

abbrev pub invariant-loop-hop : goal.invariant-loop-hop
invariant-loop-hop l = l.lines.items ++ flat_map (lines_over l.joined.links.now) (drop l.hop-index l.hops) ≡ flat_map (lines_over l.joined.links.now) l.hops
