use Rattle.std.proofs.Common.{◌≡◌, drop, map}
use Rattle.std.specs.List.{list_any}
use Rattle.network.specs.Words.{node_plan, is_bad_path, items_of}
use Rattle.network_paths.proofs.trees.has_bad.Given as goal

abbrev pub invariant-loop-path : goal.invariant-loop-path
invariant-loop-path l =
    list_any (is_bad_path (map node_plan l.nodes) l.net) (map items_of (drop l.path-index l.paths)) ≡ list_any (is_bad_path (map node_plan l.nodes) l.net) (map items_of l.paths)
