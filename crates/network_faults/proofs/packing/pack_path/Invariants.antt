use Rattle.std.proofs.Common.{◌≡◌, ◌++◌, false, take, map}
use Rattle.std.specs.List.{list_any}
use Rattle.network.specs.Words.{names_of, number_of, is_unknown}
use Rattle.network_faults.proofs.packing.pack_path.Given as goal

abbrev pub invariant-loop-k : goal.invariant-loop-k
invariant-loop-k l = record {
  known : list_any (is_unknown (names_of l.names.nodes.now)) (take l.k l.path) ≡ false;
  made : l.packed.items ≡ l.initial.packed.items ++ map (number_of (names_of l.names.nodes.now)) (take l.k l.path);
}
