use Rattle.std.proofs.Common.{◌≡◌, ◌++◌, false, take, map, flat_map}
use Rattle.std.specs.List.{list_any}
use Rattle.network.specs.Words.{names_of, path_numbers, is_unknown}
use Rattle.network_faults.specs.Packed.{packed_path}
use Rattle.network_faults.proofs.packing.pack_paths.Given as goal

abbrev pub invariant-loop-k : goal.invariant-loop-k
invariant-loop-k l = record {
  known : list_any (λ path. list_any (is_unknown (names_of l.names.nodes.now)) path) (take l.k l.paths) ≡ false;
  made : l.packed.items ≡ l.initial.packed.items ++ flat_map packed_path (map (path_numbers (names_of l.names.nodes.now)) (take l.k l.paths));
}
