-- Elements of lists by their places.
use Rattle.std.proofs.Common.{◌≡◌, ◌≤◌, ◌<◌, ◌+◌, ℕ, zero, suc, List, [], ◌∷◌, ◌++◌, length, slice_get, Some, None, refl, ap, arith}

pub slice_get-last : {X : Type 0} (xs : List X) (x : X) → slice_get (xs ++ x ∷ []) (length xs) ≡ Some x
slice_get-last [] x = refl
slice_get-last (y ∷ xs) x = slice_get-last xs x

pub slice_get-more : {X : Type 0} (xs ys : List X) (k : ℕ) (y : X) → slice_get xs k ≡ Some y → slice_get (xs ++ ys) k ≡ Some y
slice_get-more [] ys k y h = cc
slice_get-more (x ∷ xs) ys zero y h = h
slice_get-more (x ∷ xs) ys (suc k) y h = slice_get-more xs ys k y h

pub slice_get-first : {X : Type 0} (xs ys : List X) (n : ℕ) → n < length xs → slice_get (xs ++ ys) n ≡ slice_get xs n
slice_get-first [] ys n h = absurd (omega arith)
slice_get-first (x ∷ xs) ys zero h = refl
slice_get-first (x ∷ xs) ys (suc n) h = slice_get-first xs ys n (omega arith)

pub slice_get-rest : {X : Type 0} (xs ys : List X) (n k : ℕ) → n ≡ length xs + k → slice_get (xs ++ ys) n ≡ slice_get ys k
slice_get-rest [] ys n k e = ap (slice_get ys) (let a : n ≡ k = omega arith in a)
slice_get-rest (x ∷ xs) ys zero k e = absurd (omega arith)
slice_get-rest (x ∷ xs) ys (suc n) k e = slice_get-rest xs ys n k (omega arith)

pub slice_get-none : {X : Type 0} (xs : List X) (k : ℕ) → slice_get xs k ≡ None → length xs ≤ k
slice_get-none [] k h = omega arith
slice_get-none (x ∷ xs) zero h = cc
slice_get-none (x ∷ xs) (suc k) h = let a = slice_get-none xs k h in omega arith
