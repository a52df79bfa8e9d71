-- Two messages in the message order: they are one message, or one comes before the other.
use Rattle.std.proofs.Common.{◌≡◌, ℕ, ◌+◌, ◌<◌, ◌≤◌, ◌⊎◌, inl, inr, Bool, true, false, not, refl, sym, subst, arith}
use Rattle.std.proofs.lemmas.Bool.{cases_Bool, and_parts, not-true, false_from_ne_true, both_ways, cases_lt}
use Rattle.virtual_time.specs.Law.{Order, IsOrder, one_if, same}

pub one_if-le : (b : Bool) → one_if b ≤ 1
one_if-le true = omega arith
one_if-le false = omega arith

pub in_sum : (a b : ℕ) → 0 < a + b → (0 < a) ⊎ (0 < b)
in_sum a b h = grind arith

module _ {M : Type 0} (order : Order M) (O : IsOrder order) where
  pub same-refl : (a : M) → same order a a ≡ true
  unfolding same
  same-refl a = rw (O.irreflexive a) refl

  pub same-true : (a b : M) → same order a b ≡ true → a ≡ b
  unfolding same
  same-true a b h =
      let p : (not (order.less a b) ≡ true) × (not (order.less b a) ≡ true) = and_parts _ _ h in
      O.total a b (not-true _ p.0) (not-true _ p.1)

  pub less-irrefl : (a b : M) → order.less a b ≡ true → a ≡ b → ⊥
  less-irrefl a b h e = both_ways _ (O.irreflexive b) (subst (λ x. order.less x b ≡ true) e h)

  pub less-asym : (a b : M) → order.less a b ≡ true → order.less b a ≡ false
  less-asym a b h = false_from_ne_true _ (λ k. both_ways _ (O.irreflexive a) (O.transitive a b a h k))

  pub less-different : (a b : M) → order.less a b ≡ true → same order a b ≡ false
  less-different a b h = false_from_ne_true _ (λ k. less-irrefl a b h (same-true a b k))

  pub greater-different : (a b : M) → order.less b a ≡ true → same order a b ≡ false
  greater-different a b h = false_from_ne_true _ (λ k. less-irrefl b a h (sym (same-true a b k)))

  pub different : (a b : M) → (a ≡ b → ⊥) → same order a b ≡ false
  different a b h = false_from_ne_true _ (λ k. h (same-true a b k))

  pub not_less-time : (a b : M) → order.less a b ≡ false → order.time b ≤ order.time a
  not_less-time a b h =
      elim (cases_lt (order.time a) (order.time b)) [ inl k ↦ absurd (both_ways _ h (O.by_time a b k)) | inr k ↦ k ]

  pub less-time : (a b : M) → order.less a b ≡ true → order.time a ≤ order.time b
  less-time a b h = not_less-time b a (less-asym a b h)

  pub not_less-cases : (a b : M) → order.less a b ≡ false → (b ≡ a) ⊎ (order.less b a ≡ true)
  not_less-cases a b h =
      elim (cases_Bool (order.less b a)) [ inl k ↦ inr k | inr k ↦ inl (O.total b a k h) ]

  pub less-not_less : (x m y : M) → order.less x m ≡ true → order.less y m ≡ false → order.less x y ≡ true
  less-not_less x m y h k =
      elim (not_less-cases y m k) [ inl e ↦ subst (λ z. order.less x z ≡ true) e h | inr l ↦ O.transitive x m y h l ]

  pub same_cases : (a b : M) → (a ≡ b) ⊎ (same order a b ≡ false)
  same_cases a b = elim (cases_Bool (same order a b)) [ inl h ↦ inl (same-true a b h) | inr h ↦ inr h ]
