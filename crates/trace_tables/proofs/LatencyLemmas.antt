-- One more latency at the end of those that are counted.
use Rattle.std.proofs.Common.{◌≡◌, ℕ, suc, ◌+◌, ◌==◌, cond, min, max, List, [], ◌∷◌, ◌++◌, length, refl, ◌∙◌, arith, length-append, sum}
use Rattle.std.proofs.lemmas.Bool.Decides.{nat_tests}
use Rattle.std.proofs.lemmas.List.Sums.{sum_by-append}
use Rattle.trace_tables.specs.Latencies.{counts_of, least_from, least_of, greatest_from, with_latency}

least_from-push : (m : ℕ) (ls : List ℕ) (l : ℕ) → least_from m (ls ++ l ∷ []) ≡ min (least_from m ls) l
least_from-push m [] l = refl
least_from-push m (x ∷ ls) l = least_from-push (min m x) ls l

greatest_from-push : (m : ℕ) (ls : List ℕ) (l : ℕ) → greatest_from m (ls ++ l ∷ []) ≡ max (greatest_from m ls) l
greatest_from-push m [] l = refl
greatest_from-push m (x ∷ ls) l = greatest_from-push (max m x) ls l

sum-push : (ls : List ℕ) (l : ℕ) → sum (ls ++ l ∷ []) ≡ sum ls + l
sum-push ls l = let e : sum (ls ++ l ∷ []) ≡ sum ls + (0 + l) = sum_by-append (λ x. x) ls (l ∷ []) in omega arith

length-push : (ls : List ℕ) (l : ℕ) → length (ls ++ l ∷ []) ≡ length ls + 1
length-push ls l = length-append ls (l ∷ [])

not-none : (n a b : ℕ) → b ≡ cond (suc n == 0) a b
not-none n a b = grind (arith, nat_tests)

least_of-push : (ls : List ℕ) (l : ℕ) → least_of (ls ++ l ∷ []) ≡ cond (length ls == 0) l (min (least_of ls) l)
least_of-push [] l = refl
least_of-push (x ∷ ls) l = least_from-push x ls l ∙ not-none (length ls) l (min (least_from x ls) l)

pub counts_of-push : (ls : List ℕ) (l : ℕ) → counts_of (ls ++ l ∷ []) ≡ with_latency (counts_of ls) l
counts_of-push ls l = rw (length-push ls l, least_of-push ls l, greatest_from-push 0 ls l, sum-push ls l) refl
