use Rattle.std.proofs.Common.{◌≡◌, ◌++◌, drop, map}
use Rattle.network.specs.Words.{ends_of, items_of}
use Rattle.network_paths.proofs.paths.push_ends.Given as goal

abbrev pub invariant-loop-path : goal.invariant-loop-path
invariant-loop-path l = l.ends.items ++ ends_of (map items_of (drop l.path-index l.paths)) ≡ l.fn.ends.items ++ ends_of (map items_of l.paths)
