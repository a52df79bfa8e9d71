-- How many times a message is in a list.
use Rattle.std.proofs.Common.{◌≡◌, ◌+◌, ◌<◌, ◌⊎◌, inl, inr, Bool, true, false, cond, List, [], ◌∷◌, ◌++◌, filter, reverse, refl, ap, subst, arith}
use Rattle.std.proofs.lemmas.Bool.{cases_Bool, both_ways, cases_lt}
use Rattle.std.proofs.lemmas.List.{reverse-append}
use Rattle.virtual_time.specs.Law.{Order, IsOrder, one_if, same, times_in, IsIn}
use Rattle.virtual_time.proofs.Order.{in_sum, same-refl, same_cases, different}

module _ {M : Type 0} (order : Order M) (O : IsOrder order) where
  pub times-append : (m : M) (xs ys : List M) → times_in order m (xs ++ ys) ≡ times_in order m xs + times_in order m ys
  times-append m [] ys = omega arith
  times-append m (x ∷ xs) ys = omega (arith, times-append m xs ys)

  -- a message of two lists put together is in one of them
  pub in-append : (m : M) (xs ys : List M) → IsIn order m (xs ++ ys) → IsIn order m xs ⊎ IsIn order m ys
  in-append m xs ys h = in_sum (times_in order m xs) (times_in order m ys) (subst (λ n. 0 < n) (times-append m xs ys) h)

  pub in-head : (x : M) (xs : List M) → IsIn order x (x ∷ xs)
  in-head x xs = omega (arith, ap one_if (same-refl order O x))

  pub in-cons : (m x : M) (xs : List M) → IsIn order m (x ∷ xs) → (m ≡ x) ⊎ IsIn order m xs
  in-cons m x xs h =
      elim (same_cases order O m x) [ inl e ↦ inl e | inr n ↦ inr (let k = ap one_if n in omega arith) ]

  -- a message of a list with one more at its end
  pub in-push : (m x : M) (xs : List M) → IsIn order m (xs ++ x ∷ []) → IsIn order m xs ⊎ (m ≡ x)
  in-push m x xs h =
      elim (in-append m xs (x ∷ []) h) [ inl k ↦ inl k | inr k ↦ elim (in-cons m x [] k) [ inl e ↦ inr e | inr z ↦ absurd (omega arith) ] ]

  pub times-none : (m : M) (xs : List M) → (IsIn order m xs → ⊥) → times_in order m xs ≡ 0
  times-none m xs h = elim (cases_lt 0 (times_in order m xs)) [ inl k ↦ absurd (h k) | inr k ↦ omega arith ]

  pub times-reverse : (m : M) (xs : List M) → times_in order m (reverse xs) ≡ times_in order m xs
  times-reverse m [] = refl
  times-reverse m (x ∷ xs) =
      let a = ap (times_in order m) (reverse-append (x ∷ []) xs) in
      let b = times-append m (reverse xs) (x ∷ []) in
      let c = times-reverse m xs in
      omega arith

  pub times-one : (m : M) → times_in order m (m ∷ []) ≡ 1
  times-one m = let k = ap one_if (same-refl order O m) in omega arith

  pub times-filter : (q : M → Bool) (m : M) (xs : List M) → q m ≡ true → times_in order m (filter q xs) ≡ times_in order m xs
  times-filter q m [] h = refl
  times-filter q m (x ∷ xs) h = go (q x) refl (times-filter q m xs h)
    where
      go : (b : Bool) → q x ≡ b → times_in order m (filter q xs) ≡ times_in order m xs →
          times_in order m (cond b (x ∷ filter q xs) (filter q xs)) ≡ one_if (same order m x) + times_in order m xs
      go true e i = omega (arith, i)
      go false e i =
          let n : same order m x ≡ false = different order O m x (λ k. both_ways _ e (subst (λ z. q z ≡ true) k h)) in
          let k = ap one_if n in
          omega (arith, i)

  pub times-filter_out : (q : M → Bool) (m : M) (xs : List M) → q m ≡ false → times_in order m (filter q xs) ≡ 0
  times-filter_out q m [] h = refl
  times-filter_out q m (x ∷ xs) h = go (q x) refl (times-filter_out q m xs h)
    where
      go : (b : Bool) → q x ≡ b → times_in order m (filter q xs) ≡ 0 →
          times_in order m (cond b (x ∷ filter q xs) (filter q xs)) ≡ 0
      go true e i =
          let n : same order m x ≡ false = different order O m x (λ k. both_ways _ (subst (λ z. q z ≡ false) k h) e) in
          let k = ap one_if n in
          omega (arith, i)
      go false e i = i

  pub in-filter : (q : M → Bool) (m : M) (xs : List M) → IsIn order m (filter q xs) → (q m ≡ true) × IsIn order m xs
  in-filter q m xs h = go (cases_Bool (q m))
    where
      go : (q m ≡ true) ⊎ (q m ≡ false) → (q m ≡ true) × IsIn order m xs
      go (inl e) = (e, let k = times-filter q m xs e in omega arith)
      go (inr e) = absurd (let k = times-filter_out q m xs e in omega arith)

  pub in-filter_from : (q : M → Bool) (m : M) (xs : List M) → q m ≡ true → IsIn order m xs → IsIn order m (filter q xs)
  in-filter_from q m xs e h = let k = times-filter q m xs e in omega arith

  pub filter-none : (q : M → Bool) (xs : List M) → ((m : M) → IsIn order m xs → q m ≡ false) → filter q xs ≡ []
  filter-none q [] h = refl
  filter-none q (x ∷ xs) h = rw (h x (in-head x xs)) (filter-none q xs (λ m i. h m (omega arith)))

  pub filter-all : (q : M → Bool) (xs : List M) → ((m : M) → IsIn order m xs → q m ≡ true) → filter q xs ≡ xs
  filter-all q [] h = refl
  filter-all q (x ∷ xs) h = rw (h x (in-head x xs)) (ap (λ z. x ∷ z) (filter-all q xs (λ m i. h m (omega arith))))
