use Rattle.std.proofs.Common.{◌≡◌, ℕ, List, ◌++◌, length, take, drop}
use Rattle.network_faults.proofs.unpacking.Rest.path.Given as goal

-- the nodes so far, and those that are left before what comes later
abbrev pub invariant-loop-i : goal.invariant-loop-i
invariant-loop-i l = (path later : List ℕ) → l.initial.self.numbers.now ≡ path ++ later → length path ≡ l.len →
    (l.path.items ≡ take l._i path) × (l.self.numbers.now ≡ drop l._i path ++ later)
