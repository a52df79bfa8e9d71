-- Lists in which each message comes before those behind it.
use Rattle.std.proofs.Common.{◌≡◌, ◌+◌, ◌<◌, ◌≤◌, ◌⊎◌, inl, inr, Bool, true, false, not, cond, List, [], ◌∷◌, ◌++◌, filter, refl, sym, ap, subst, arith}
use Rattle.std.proofs.lemmas.Bool.{false_from_ne_true, both_ways, not_from_false, cases_lt}
use Rattle.virtual_time.specs.Law.{Order, IsOrder, one_if, same, times_in, IsIn, IsAscending}
use Rattle.virtual_time.proofs.Order.{one_if-le, less-irrefl, less-asym, same_cases}
use Rattle.virtual_time.proofs.Lists.{times-append, in-append, in-head, in-cons, in-filter, filter-none, filter-all}

module _ {M : Type 0} (order : Order M) (O : IsOrder order) where
  pub ascending-once : (m : M) (xs : List M) → IsAscending order xs → times_in order m xs ≤ 1
  ascending-once m [] h = omega arith
  ascending-once m (x ∷ xs) h =
      go (same_cases order O m x) (cases_lt 0 (times_in order m xs)) (ascending-once m xs h.1)
    where
      go : (m ≡ x) ⊎ (same order m x ≡ false) → (0 < times_in order m xs) ⊎ (times_in order m xs ≤ 0) → times_in order m xs ≤ 1 →
          one_if (same order m x) + times_in order m xs ≤ 1
      go (inl e) (inl k) i = absurd (less-irrefl order O x m (h.0 m k) (sym e))
      go (inl e) (inr k) i = let b = one_if-le (same order m x) in omega arith
      go (inr n) k i = let b = ap one_if n in omega arith

  pub ascending-filter : (q : M → Bool) (xs : List M) → IsAscending order xs → IsAscending order (filter q xs)
  ascending-filter q [] h = tt
  ascending-filter q (x ∷ xs) h = go (q x) (ascending-filter q xs h.1)
    where
      go : (b : Bool) → IsAscending order (filter q xs) → IsAscending order (cond b (x ∷ filter q xs) (filter q xs))
      go true i = (λ m k. h.0 m (in-filter order O q m xs k).1, i)
      go false i = i

  pub ascending-append : (xs ys : List M) → IsAscending order xs → IsAscending order ys →
      ((a b : M) → IsIn order a xs → IsIn order b ys → order.less a b ≡ true) → IsAscending order (xs ++ ys)
  ascending-append [] ys h k c = k
  ascending-append (x ∷ xs) ys h k c = (
    λ m i. go m (in-append order O m xs ys i),
    ascending-append xs ys h.1 k (λ a b i j. c a b (omega arith) j),
  )
    where
      go : (m : M) → IsIn order m xs ⊎ IsIn order m ys → order.less x m ≡ true
      go m (inl i) = h.0 m i
      go m (inr i) = c x m (in-head order O x xs) i

  pub ascending-left : (xs ys : List M) → IsAscending order (xs ++ ys) → IsAscending order xs
  ascending-left [] ys h = tt
  ascending-left (x ∷ xs) ys h =
      (λ m i. h.0 m (let k = times-append order O m xs ys in omega arith), ascending-left xs ys h.1)

  pub ascending-across : (xs ys : List M) → IsAscending order (xs ++ ys) →
      (a b : M) → IsIn order a xs → IsIn order b ys → order.less a b ≡ true
  ascending-across [] ys h a b i j = absurd (omega arith)
  ascending-across (x ∷ xs) ys h a b i j = go (in-cons order O a x xs i) (λ k. ascending-across xs ys h.1 a b k j)
    where
      go : (a ≡ x) ⊎ IsIn order a xs → (IsIn order a xs → order.less a b ≡ true) → order.less a b ≡ true
      go (inl e) ih = subst (λ z. order.less z b ≡ true) (sym e) (h.0 b (let k = times-append order O b xs ys in omega arith))
      go (inr k) ih = ih k

  pub ascending-push : (xs : List M) (m : M) → IsAscending order xs → ((a : M) → IsIn order a xs → order.less a m ≡ true) →
      IsAscending order (xs ++ m ∷ [])
  ascending-push xs m h c =
      ascending-append xs (m ∷ []) h (λ a i. absurd (omega arith), tt)
      (λ a b i j. elim (in-cons order O b m [] j) [ inl e ↦ subst (λ z. order.less a z ≡ true) (sym e) (c a i) | inr k ↦ absurd (omega arith) ])

  -- two ascending lists with the same messages are equal
  pub ascending-unique : (xs ys : List M) → IsAscending order xs → IsAscending order ys →
      ((m : M) → times_in order m xs ≡ times_in order m ys) → xs ≡ ys
  ascending-unique [] [] h k e = refl
  ascending-unique [] (y ∷ ys) h k e = absurd (let i = e y in let j = in-head order O y ys in omega arith)
  ascending-unique (x ∷ xs) [] h k e = absurd (let i = e x in let j = in-head order O x xs in omega arith)
  ascending-unique (x ∷ xs) (y ∷ ys) h k e =
      let head : x ≡ y = go (in-cons order O x y ys (subst (λ n. 0 < n) (e x) (in-head order O x xs))) (in-cons order O y x xs (subst (λ n. 0 < n) (sym (e y)) (in-head order O y ys))) in
      let rest : xs ≡ ys = ascending-unique xs ys h.1 k.1 (λ m. tails m (ap (λ z. one_if (same order m z)) head) (e m)) in
      cc
    where
      go : (x ≡ y) ⊎ IsIn order x ys → (y ≡ x) ⊎ IsIn order y xs → x ≡ y
      go (inl i) j = i
      go (inr i) (inl j) = sym j
      go (inr i) (inr j) = absurd (both_ways _ (less-asym order O y x (k.0 x i)) (h.0 y j))

      tails : (m : M) → one_if (same order m x) ≡ one_if (same order m y) →
          one_if (same order m x) + times_in order m xs ≡ one_if (same order m y) + times_in order m ys → times_in order m xs ≡ times_in order m ys
      tails m i j = omega arith

  -- a test that holds of what comes before splits an ascending list
  pub ascending-split : (q : M → Bool) → ((a b : M) → order.less a b ≡ true → q b ≡ true → q a ≡ true) →
      (xs : List M) → IsAscending order xs → filter q xs ++ filter (λ x. not (q x)) xs ≡ xs
  ascending-split q c [] h = refl
  ascending-split q c (x ∷ xs) h = go (q x) refl (ascending-split q c xs h.1)
    where
      go : (b : Bool) → q x ≡ b → filter q xs ++ filter (λ x. not (q x)) xs ≡ xs →
          cond b (x ∷ filter q xs) (filter q xs) ++ cond (not b) (x ∷ filter (λ x. not (q x)) xs) (filter (λ x. not (q x)) xs) ≡ x ∷ xs
      go true e i = ap (λ z. x ∷ z) i
      go false e i =
          let none : filter q xs ≡ [] = filter-none order O q xs (λ m k. false_from_ne_true _ (λ t. both_ways _ e (c x m (h.0 m k) t))) in
          let others : filter (λ x. not (q x)) xs ≡ xs = filter-all order O (λ x. not (q x)) xs (λ m k. not_from_false _ (false_from_ne_true _ (λ t. both_ways _ e (c x m (h.0 m k) t)))) in
          rw (none, others) refl
