-- How far the round robin stands before a sub-virtual link, and that it comes nearer with each release of another one.
use Rattle.std.proofs.Common.{◌≡◌, ℕ, zero, suc, ◌+◌, ◌-◌, ◌%◌, ◌<◌, ◌≤◌, ◌⊎◌, inl, inr, Bool, true, false, cond, nat_lt, Option, Some, None, refl, ap, ◌∙◌, arith, mod-eq_of_lt, lt-ltb, ltb-true}
use Rattle.std.specs.Option.{option_or}
use Rattle.std.proofs.lemmas.Bool.{both_ways, cases_eq, cases_lt}
use Rattle.std.proofs.Math.Nat.{mod_self}
use Rattle.bag_regulator.specs.RoundRobin.{first_from, round_robin}

-- how many others may come before it
pub distance : ℕ → ℕ → ℕ → ℕ
distance n pointer q = cond (nat_lt q pointer) ((q + n) - pointer) (q - pointer)

pub distance-cases : (n pointer q : ℕ) → ((q < pointer) × (distance n pointer q ≡ (q + n) - pointer)) ⊎ ((pointer ≤ q) × (distance n pointer q ≡ q - pointer))
unfolding distance
distance-cases n pointer q = elim (cases_lt q pointer) [
  | inl low ↦ inl (low, ap (λ b. cond b ((q + n) - pointer) (q - pointer)) (lt-ltb q pointer low))
  | inr high ↦ inr (high, not-low high (nat_lt q pointer) refl)
]
  where
    not-low : pointer ≤ q → (b : Bool) → nat_lt q pointer ≡ b → cond b ((q + n) - pointer) (q - pointer) ≡ q - pointer
    not-low high true e = let low = ltb-true q pointer e in absurd (omega arith)
    not-low high false e = refl

pub distance-below : (n pointer q : ℕ) → pointer ≤ n → q < n → distance n pointer q < n
distance-below n pointer q h k = elim (distance-cases n pointer q) [ inl c ↦ (let a = c.0 in let b = c.1 in omega arith) | inr c ↦ (let a = c.0 in let b = c.1 in omega arith) ]

different : (k q : ℕ) → k ≤ q → (q ≡ k → ⊥) → k < q
different k q l d = elim (cases_lt k q) [ inl m ↦ m | inr m ↦ absurd (d (omega arith)) ]

module _ (p : ℕ → Bool) where
  -- the first of n numbers from q on that passes
  record IsFirst (q n k : ℕ) : Type 0 where
    from : q ≤ k
    below : k < q + n
    none : (j : ℕ) → q ≤ j → j < k → p j ≡ false

  first-some : (q n k : ℕ) → first_from p q n ≡ Some k → IsFirst q n k
  first-some q zero k h = absurd (let z : ⊥ = cc in z)
  first-some q (suc n) k h = go (p q) refl h (first-some (q + 1) n k)
    where
      go : (b : Bool) → p q ≡ b → cond b (Some q) (first_from p (q + 1) n) ≡ Some k → (first_from p (q + 1) n ≡ Some k → IsFirst (q + 1) n k) → IsFirst q (suc n) k
      go true e f later = let same : q ≡ k = cc in record { from = omega arith; below = omega arith; none = λ j a b. absurd (omega arith) }
      go false e f later =
          let r = later f in
          let from = r.from in
          let below = r.below in
          record { from = omega arith; below = omega arith; none = λ j a b. elim (cases_eq j q) [ inl s ↦ ap p s ∙ e | inr d ↦ r.none j (omega arith) b ] }

  first-none : (q n : ℕ) → first_from p q n ≡ None → (j : ℕ) → q ≤ j → j < q + n → p j ≡ false
  first-none q zero h j a b = absurd (omega arith)
  first-none q (suc n) h j a b = go (p q) refl h (λ f l. first-none (q + 1) n f j l (omega arith))
    where
      go : (c : Bool) → p q ≡ c → cond c (Some q) (first_from p (q + 1) n) ≡ None → (first_from p (q + 1) n ≡ None → q + 1 ≤ j → p j ≡ false) → p j ≡ false
      go true e f later = absurd (let z : ⊥ = cc in z)
      go false e f later = elim (cases_eq j q) [ inl s ↦ ap p s ∙ e | inr d ↦ later f (omega arith) ]

  -- what the round robin finds is nearer than each other number that passes
  pub nearest : (pointer n k : ℕ) → pointer ≤ n → round_robin p pointer n ≡ Some k → (k < n) × ((q : ℕ) → q < n → p q ≡ true → (q ≡ k → ⊥) → distance n pointer k < distance n pointer q)
  nearest pointer n k h is = go (first_from p pointer (n - pointer)) refl is
    where
      go : (o : Option ℕ) → first_from p pointer (n - pointer) ≡ o → option_or o (first_from p 0 pointer) ≡ Some k → (k < n) × ((q : ℕ) → q < n → p q ≡ true → (q ≡ k → ⊥) → distance n pointer k < distance n pointer q)
      go (Some j) e f =
          let same : j ≡ k = cc in
          let r = first-some pointer (n - pointer) k (e ∙ ap Some same) in
          let from = r.from in
          let below = r.below in (
            omega arith,
            λ q inside passes other. by q inside passes other (distance-cases n pointer k) (distance-cases n pointer q) r.from r.below r.none,
          )
        where
          by : (q : ℕ) → q < n → p q ≡ true → (q ≡ k → ⊥) → ((k < pointer) × (distance n pointer k ≡ (k + n) - pointer)) ⊎ ((pointer ≤ k) × (distance n pointer k ≡ k - pointer)) →
              ((q < pointer) × (distance n pointer q ≡ (q + n) - pointer)) ⊎ ((pointer ≤ q) × (distance n pointer q ≡ q - pointer)) → pointer ≤ k → k < pointer + (n - pointer) → ((j : ℕ) → pointer ≤ j → j < k → p j ≡ false) → distance n pointer k < distance n pointer q
          by q inside passes other (inl a) b from below none = let c = a.0 in absurd (omega arith)
          by q inside passes other (inr a) (inl b) from below none = let c = a.1 in let d = b.1 in let g = b.0 in omega arith
          by q inside passes other (inr a) (inr b) from below none = elim (cases_lt q k) [ inl low ↦ absurd (both_ways _ (none q b.0 low) passes) | inr high ↦ (let c = a.1 in let d = b.1 in let g = b.0 in let apart : k < q = different k q high other in omega arith) ]
      go None e f =
          let r = first-some 0 pointer k f in
          let below = r.below in (
            omega arith,
            λ q inside passes other. by q inside passes other (distance-cases n pointer k) (distance-cases n pointer q) r.below r.none,
          )
        where
          by : (q : ℕ) → q < n → p q ≡ true → (q ≡ k → ⊥) → ((k < pointer) × (distance n pointer k ≡ (k + n) - pointer)) ⊎ ((pointer ≤ k) × (distance n pointer k ≡ k - pointer)) →
              ((q < pointer) × (distance n pointer q ≡ (q + n) - pointer)) ⊎ ((pointer ≤ q) × (distance n pointer q ≡ q - pointer)) → k < 0 + pointer → ((j : ℕ) → 0 ≤ j → j < k → p j ≡ false) → distance n pointer k < distance n pointer q
          by q inside passes other (inr a) b below none = let c = a.0 in absurd (omega arith)
          by q inside passes other (inl a) (inr b) below none = absurd (both_ways _ (first-none pointer (n - pointer) e q b.0 (omega arith)) passes)
          by q inside passes other (inl a) (inl b) below none = elim (cases_lt q k) [ inl low ↦ absurd (both_ways _ (none q (omega arith) low) passes) | inr high ↦ (let c = a.1 in let d = b.1 in let g = b.0 in let apart : k < q = different k q high other in omega arith) ]

-- where the pointer stands after a release
pub next-pointer : (n k : ℕ) → k < n → ((k + 1 < n) × ((k + 1) % n ≡ k + 1)) ⊎ ((k + 1 ≡ n) × ((k + 1) % n ≡ 0))
next-pointer n k h = elim (cases_lt (k + 1) n) [
  | inl low ↦ inl (low, mod-eq_of_lt low)
  | inr high ↦ (let same : k + 1 ≡ n = omega arith in inr (same, ap (λ z. z % n) same ∙ mod_self n))
]

pub next-within : (n k : ℕ) → k < n → (k + 1) % n ≤ n
next-within n k h = elim (next-pointer n k h) [ inl c ↦ (let a = c.0 in let b = c.1 in omega arith) | inr c ↦ (let b = c.1 in omega arith) ]

-- a release of k brings each other one, which waits farther on, nearer by what stood before k, and k
pub nearer-by : (n pointer k q : ℕ) → pointer ≤ n → k < n → q < n → distance n pointer k < distance n pointer q → (distance n ((k + 1) % n) q + 1) + distance n pointer k ≤ distance n pointer q
nearer-by n pointer k q h a b far = grind (arith, next-pointer n k a, distance-cases n pointer k, distance-cases n pointer q, distance-cases n ((k + 1) % n) q)

-- and k itself then stands last
pub last-then : (n k : ℕ) → k < n → distance n ((k + 1) % n) k + 1 ≤ n
last-then n k h = let below = distance-below n ((k + 1) % n) k (next-within n k h) h in omega arith
