use Rattle.std.proofs.Common.{◌≡◌, drop, map}
use Rattle.network.specs.Words.{has_gap, items_of}
use Rattle.network_faults.proofs.no_link.has_gap.Given as goal

abbrev pub invariant-loop-path : goal.invariant-loop-path
invariant-loop-path l = has_gap l.joined.links.now (map items_of (drop l.path-index l.paths)) ≡ has_gap l.joined.links.now (map items_of l.paths)
