use Rattle.std.proofs.Common.{◌≡◌, drop, map}
use Rattle.std.specs.List.{list_any}
use Rattle.network.specs.Words.{differ, first_of, source_among, items_of}
use Rattle.network_paths.proofs.trees.begin_apart.Given as goal

abbrev pub invariant-loop-path : goal.invariant-loop-path
invariant-loop-path l =
    list_any (λ path. differ (source_among (map items_of l.paths)) (first_of path)) (map items_of (drop l.path-index l.paths))
    ≡ list_any (λ path. differ (source_among (map items_of l.paths)) (first_of path)) (map items_of l.paths)
