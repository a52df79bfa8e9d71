-- A set of numbers, one number after another.
use Rattle.std.proofs.Common.{◌≡◌, ℕ, true, cond, ◌==◌, ◌||◌, ap, ◌∙◌, arith, nat_cmp, is_eq, BTreeSet}
use Rattle.std.specs.BTreeSet.{contains, Updates}
use Rattle.std.proofs.lemmas.Bool.Decides.{nat_tests}
use Rattle.network_paths.proofs.DoubleLemmas.{or-of}

is_eq-nat_cmp : (a b : ℕ) → is_eq (nat_cmp a b) ≡ (a == b)
is_eq-nat_cmp a b = grind (arith, nat_tests)

-- a set with one number more
pub contains-put : (old new : BTreeSet ℕ) (n : ℕ) → Updates nat_cmp old new n true → (m : ℕ) → contains nat_cmp new m ≡ (contains nat_cmp old m || (n == m))
contains-put old new n put m =
    put.0 m ∙ ap (λ b. cond b true (contains nat_cmp old m)) (is_eq-nat_cmp n m) ∙ or-of (n == m) (contains nat_cmp old m)
