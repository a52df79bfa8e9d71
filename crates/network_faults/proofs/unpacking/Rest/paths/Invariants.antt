use Rattle.std.proofs.Common.{◌≡◌, ℕ, List, ◌++◌, length, take, drop, flat_map}
use Rattle.network.specs.Words.{lists_of}
use Rattle.network_faults.specs.Packed.{packed_path}
use Rattle.network_faults.proofs.unpacking.Rest.paths.Given as goal

-- the paths so far, and those that are left before what comes later
abbrev pub invariant-loop-i : goal.invariant-loop-i
invariant-loop-i l = (paths : List (List ℕ)) (later : List ℕ) → l.initial.self.numbers.now ≡ flat_map packed_path paths ++ later → length paths ≡ l.len →
    (lists_of l.paths ≡ take l._i paths) × (l.self.numbers.now ≡ flat_map packed_path (drop l._i paths) ++ later)
