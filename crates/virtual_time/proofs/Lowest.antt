-- The least of the times of letters or messages: it is at most each, and at least what all are at least.
use Rattle.std.proofs.Common.{◌≡◌, ℕ, ◌≤◌, ◌⊎◌, inl, inr, min, List, [], ◌∷◌, map, ap, arith}
use Rattle.virtual_time.specs.Law.{Order, IsOrder, IsIn, lowest, IsNamed, times_of}
use Rattle.virtual_time.specs.declared.letter.Letter.{Letter}
use Rattle.virtual_time.proofs.Lists.{in-head, in-cons}
use Rattle.virtual_time.proofs.Letters.{named-cons, named-head}

module _ {M : Type 0} (order : Order M) (O : IsOrder order) where
  pub lowest-top : (d : ℕ) (xs : List ℕ) → lowest d xs ≤ d
  lowest-top d [] = omega arith
  lowest-top d (x ∷ xs) = let a = lowest-top d xs in omega arith

  pub lowest-letter : (d : ℕ) (ls : List (Letter M)) (m : M) → IsNamed order m ls → lowest d (times_of order ls) ≤ order.time m
  lowest-letter d [] m h = absurd (omega arith)
  lowest-letter d (l ∷ ls) m h = go (named-cons order O m l ls h) (λ i. lowest-letter d ls m i)
    where
      go : (m ≡ l.message) ⊎ IsNamed order m ls → (IsNamed order m ls → lowest d (times_of order ls) ≤ order.time m) → min (order.time l.message) (lowest d (times_of order ls)) ≤ order.time m
      go (inl e) ih = let a = ap order.time e in omega arith
      go (inr k) ih = let a = ih k in omega arith

  pub lowest-letters : (g d : ℕ) (ls : List (Letter M)) → g ≤ d → ((m : M) → IsNamed order m ls → g ≤ order.time m) → g ≤ lowest d (times_of order ls)
  lowest-letters g d [] h c = h
  lowest-letters g d (l ∷ ls) h c =
      let a = c l.message (named-head order O l ls) in
      let b = lowest-letters g d ls h (λ m i. c m (omega arith)) in
      omega arith

  pub lowest-message : (d : ℕ) (ms : List M) (m : M) → IsIn order m ms → lowest d (map order.time ms) ≤ order.time m
  lowest-message d [] m h = absurd (omega arith)
  lowest-message d (x ∷ xs) m h = go (in-cons order O m x xs h) (λ i. lowest-message d xs m i)
    where
      go : (m ≡ x) ⊎ IsIn order m xs → (IsIn order m xs → lowest d (map order.time xs) ≤ order.time m) → min (order.time x) (lowest d (map order.time xs)) ≤ order.time m
      go (inl e) ih = let a = ap order.time e in omega arith
      go (inr k) ih = let a = ih k in omega arith

  pub lowest-messages : (g d : ℕ) (ms : List M) → g ≤ d → ((m : M) → IsIn order m ms → g ≤ order.time m) → g ≤ lowest d (map order.time ms)
  lowest-messages g d [] h c = h
  lowest-messages g d (x ∷ xs) h c =
      let a = c x (in-head order O x xs) in
      let b = lowest-messages g d xs h (λ m i. c m (omega arith)) in
      omega arith
