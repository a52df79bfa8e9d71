-- What holds of each element of a list, told place by place.
use Rattle.std.proofs.Common.{◌≡◌, ℕ, zero, suc, ◌+◌, ◌<◌, ◌≤◌, inl, inr, List, [], ◌∷◌, length, get_or, slice_get, refl, sym, ap, ◌∙◌, subst, arith, Some}
use Rattle.std.proofs.lemmas.Bool.{cases_eq}
use Rattle.std.proofs.lemmas.Option.{same_Some, slice_get_read, slice_get_within}

-- in the first n places each element is as said of its place
abbrev pub AreBelow : {X : Type 0} → (ℕ → X → Type 0) → List X → ℕ → Type 0
AreBelow {X} P xs n = (p : ℕ) (x : X) → p < n → slice_get xs p ≡ Some x → P p x

module _ {X : Type 0} (P : ℕ → X → Type 0) (xs : List X) where
  -- in one place more
  pub below-more : (n : ℕ) (x : X) → slice_get xs n ≡ Some x → P n x → AreBelow P xs n → AreBelow P xs (n + 1)
  below-more n x at here below p y i e = elim (cases_eq n p) [
    | inl d ↦ subst (λ q. P q y) d (subst (P n) (same_Some x y (sym at ∙ (ap (slice_get xs) d ∙ e))) here)
    | inr d ↦ below p y (omega arith) e
  ]

  -- in all places
  pub below-all : (n : ℕ) → length xs ≤ n → AreBelow P xs n → (p : ℕ) (x : X) → slice_get xs p ≡ Some x → P p x
  below-all n i below p x e = below p x (let a = slice_get_within xs p x e in omega arith) e

-- in each place within there is an element
pub some-at : {X : Type 0} (xs : List X) (p : ℕ) → p < length xs → (x : X) × (slice_get xs p ≡ Some x)
some-at [] p i = absurd (omega arith)
some-at (x ∷ xs) zero i = (x, refl)
some-at (x ∷ xs) (suc p) i = some-at xs p (omega arith)

-- what was read there
pub read-at : {X : Type 0} (xs : List X) (n : ℕ) (x : X) → n < length xs → x ≡ get_or xs n x → slice_get xs n ≡ Some x
read-at xs n x i e = slice_get_read xs (length xs) n x refl i e
