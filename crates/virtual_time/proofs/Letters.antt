-- Letters by their message and sign, and how many a list has of each.
use Rattle.std.proofs.Common.{◌≡◌, ℕ, zero, suc, ◌+◌, ◌==◌, ◌⊎◌, inl, inr, Bool, true, false, not, ◌&&◌, cond, List, [], ◌∷◌, ◌++◌, map, Some, refl, sym, ap, ◌∙◌, arith, slice_get, remove, eqb-true, eq-eqb}
use Rattle.std.proofs.lemmas.Bool.{cases_lt, both_ways}
use Rattle.virtual_time.specs.Law.{Order, IsOrder, one_if, same, times_in, IsIn, is_plus, plus_of, minus_of, pluses, minuses, IsNamed, received_by}
use Rattle.virtual_time.specs.declared.letter.Letter.{Letter}
use Rattle.virtual_time.proofs.Order.{in_sum, same-refl, same_cases, different}

module _ {M : Type 0} (order : Order M) (O : IsOrder order) where
  -- one if this letter is a plus of m, and one if it is a minus of m
  abbrev pub as_plus : M → Letter M → ℕ
  as_plus m l = one_if (is_plus l.sign && same order m l.message)

  abbrev pub as_minus : M → Letter M → ℕ
  as_minus m l = one_if (not (is_plus l.sign) && same order m l.message)

  pub as_either : (m : M) (l : Letter M) → as_plus m l + as_minus m l ≡ one_if (same order m l.message)
  as_either m l = go (is_plus l.sign)
    where
      go : (b : Bool) → one_if (b && same order m l.message) + one_if (not b && same order m l.message) ≡ one_if (same order m l.message)
      go true = omega arith
      go false = omega arith

  pub as_other : (m : M) (l : Letter M) → same order m l.message ≡ false → (as_plus m l ≡ 0) × (as_minus m l ≡ 0)
  as_other m l n = let a = as_either m l in let b = ap one_if n in (omega arith, omega arith)

  -- a letter of another message changes no count
  pub counts-other : (m : M) (l : Letter M) (ls : List (Letter M)) → same order m l.message ≡ false →
      (pluses order m (l ∷ ls) ≡ pluses order m ls) × (minuses order m (l ∷ ls) ≡ minuses order m ls)
  counts-other m l ls n = let a = as_other m l n in (let b = a.0 in omega arith, let b = a.1 in omega arith)

  pub pluses-append : (m : M) (xs ys : List (Letter M)) → pluses order m (xs ++ ys) ≡ pluses order m xs + pluses order m ys
  pluses-append m [] ys = omega arith
  pluses-append m (x ∷ xs) ys = omega (arith, pluses-append m xs ys)

  pub minuses-append : (m : M) (xs ys : List (Letter M)) → minuses order m (xs ++ ys) ≡ minuses order m xs + minuses order m ys
  minuses-append m [] ys = omega arith
  minuses-append m (x ∷ xs) ys = omega (arith, minuses-append m xs ys)

  pub pluses-plus : (m : M) (xs : List M) → pluses order m (map plus_of xs) ≡ times_in order m xs
  pluses-plus m [] = refl
  pluses-plus m (x ∷ xs) = omega (arith, pluses-plus m xs)

  pub minuses-plus : (m : M) (xs : List M) → minuses order m (map plus_of xs) ≡ 0
  minuses-plus m [] = refl
  minuses-plus m (x ∷ xs) = omega (arith, minuses-plus m xs)

  pub pluses-minus : (m : M) (xs : List M) → pluses order m (map minus_of xs) ≡ 0
  pluses-minus m [] = refl
  pluses-minus m (x ∷ xs) = omega (arith, pluses-minus m xs)

  pub minuses-minus : (m : M) (xs : List M) → minuses order m (map minus_of xs) ≡ times_in order m xs
  minuses-minus m [] = refl
  minuses-minus m (x ∷ xs) = omega (arith, minuses-minus m xs)

  -- a letter of some list

  pub named-head : (l : Letter M) (ls : List (Letter M)) → IsNamed order l.message (l ∷ ls)
  named-head l ls = let a = as_either l.message l in let b = ap one_if (same-refl order O l.message) in omega arith

  pub named-cons : (m : M) (l : Letter M) (ls : List (Letter M)) → IsNamed order m (l ∷ ls) → (m ≡ l.message) ⊎ IsNamed order m ls
  named-cons m l ls h = go (same_cases order O m l.message)
    where
      go : (m ≡ l.message) ⊎ (same order m l.message ≡ false) → (m ≡ l.message) ⊎ IsNamed order m ls
      go (inl e) = inl e
      go (inr n) = inr (let a = (as_other m l n).0 in let b = (as_other m l n).1 in omega arith)

  pub named-append : (m : M) (xs ys : List (Letter M)) → IsNamed order m (xs ++ ys) → IsNamed order m xs ⊎ IsNamed order m ys
  named-append m xs ys h =
      let a = pluses-append m xs ys in
      let b = minuses-append m xs ys in
      in_sum (pluses order m xs + minuses order m xs) (pluses order m ys + minuses order m ys) (omega arith)

  pub named-push : (m : M) (l : Letter M) (ls : List (Letter M)) → IsNamed order m (ls ++ l ∷ []) → IsNamed order m ls ⊎ (m ≡ l.message)
  named-push m l ls h =
      elim (named-append m ls (l ∷ []) h) [ inl j ↦ inl j | inr j ↦ elim (named-cons m l [] j) [ inl e ↦ inr e | inr z ↦ absurd (omega arith) ] ]

  pub named-none : (m : M) (ls : List (Letter M)) → (IsNamed order m ls → ⊥) → pluses order m ls + minuses order m ls ≡ 0
  named-none m ls h = elim (cases_lt 0 (pluses order m ls + minuses order m ls)) [ inl k ↦ absurd (h k) | inr k ↦ omega arith ]

  pub named-plus : (m : M) (xs : List M) → IsNamed order m (map plus_of xs) → IsIn order m xs
  named-plus m xs h = let a = pluses-plus m xs in let b = minuses-plus m xs in omega arith

  pub named-minus : (m : M) (xs : List M) → IsNamed order m (map minus_of xs) → IsIn order m xs
  named-minus m xs h = let a = pluses-minus m xs in let b = minuses-minus m xs in omega arith

  -- the letters for one receiver

  pub received-mine : (q : ℕ) (m : M) → order.receiver m ≡ q → (ls : List (Letter M)) →
      (pluses order m (received_by order q ls) ≡ pluses order m ls) × (minuses order m (received_by order q ls) ≡ minuses order m ls)
  received-mine q m e [] = (refl, refl)
  received-mine q m e (l ∷ ls) = go (order.receiver l.message == q) refl (received-mine q m e ls)
    where
      go : (b : Bool) → (order.receiver l.message == q) ≡ b →
          (pluses order m (received_by order q ls) ≡ pluses order m ls) × (minuses order m (received_by order q ls) ≡ minuses order m ls) →
          (pluses order m (cond b (l ∷ received_by order q ls) (received_by order q ls)) ≡ as_plus m l + pluses order m ls)
          × (minuses order m (cond b (l ∷ received_by order q ls) (received_by order q ls)) ≡ as_minus m l + minuses order m ls)
      go true h i = (ap (λ n. as_plus m l + n) i.0, ap (λ n. as_minus m l + n) i.1)
      go false h i =
          let n : same order m l.message ≡ false = different order O m l.message (λ k. both_ways _ h (eq-eqb _ _ (sym (ap order.receiver k) ∙ e))) in
          let a = as_other m l n in
          (let b = i.0 in let c = a.0 in omega arith, let b = i.1 in let c = a.1 in omega arith)

  pub received-here : (q : ℕ) (m : M) (ls : List (Letter M)) → IsNamed order m (received_by order q ls) → order.receiver m ≡ q
  received-here q m [] h = absurd (omega arith)
  received-here q m (l ∷ ls) h = go (order.receiver l.message == q) refl h (λ i. received-here q m ls i)
    where
      go : (b : Bool) → (order.receiver l.message == q) ≡ b → IsNamed order m (cond b (l ∷ received_by order q ls) (received_by order q ls)) →
          (IsNamed order m (received_by order q ls) → order.receiver m ≡ q) → order.receiver m ≡ q
      go true e i ih = elim (named-cons m l (received_by order q ls) i) [ inl k ↦ ap order.receiver k ∙ eqb-true _ _ e | inr k ↦ ih k ]
      go false e i ih = ih i

  -- the i-th letter and the others
  pub letter-others : (i : ℕ) (ls : List (Letter M)) (l : Letter M) → slice_get ls i ≡ Some l → (m : M) →
      (pluses order m ls ≡ as_plus m l + pluses order m (remove ls i)) × (minuses order m ls ≡ as_minus m l + minuses order m (remove ls i))
  letter-others i [] l h m = absurd (let k : ⊥ = cc in k)
  letter-others zero (x ∷ xs) l h m =
      let e : x ≡ l = cc in
      (ap (λ y. as_plus m y + pluses order m xs) e, ap (λ y. as_minus m y + minuses order m xs) e)
  letter-others (suc i) (x ∷ xs) l h m =
      let ih = letter-others i xs l h m in
      (let a = ih.0 in omega arith, let a = ih.1 in omega arith)
