use Rattle.std.proofs.Common.{◌≡◌, ℕ, ◌==◌, false, take}
use Rattle.std.specs.List.{list_any}
use Rattle.std.specs.HashSet.{contains}
use Rattle.network.specs.Words.{has_double}
use Rattle.network_paths.proofs.trees.has_repeat.Given as goal

abbrev pub invariant-loop-n : goal.invariant-loop-n
invariant-loop-n l = record {
  apart : has_double (take l.n-index l.numbers) ≡ false;
  had : (m : ℕ) → contains (λ x y. x == y) l.seen m ≡ list_any (λ n. n == m) (take l.n-index l.numbers);
}
