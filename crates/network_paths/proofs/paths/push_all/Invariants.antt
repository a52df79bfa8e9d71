use Rattle.std.proofs.Common.{◌≡◌, ◌++◌, drop, map}
use Rattle.network.specs.Words.{all_hops, items_of}
use Rattle.network_paths.proofs.paths.push_all.Given as goal

abbrev pub invariant-loop-path : goal.invariant-loop-path
invariant-loop-path l = l.hops.items ++ all_hops (map items_of (drop l.path-index l.paths)) ≡ l.fn.hops.items ++ all_hops (map items_of l.paths)
