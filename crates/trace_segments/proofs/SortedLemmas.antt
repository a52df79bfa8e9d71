-- Lists that are sorted by a key: what is at each key decides the list.
use Rattle.std.proofs.Common.{◌≡◌, ◌∙◌, ℕ, suc, ◌<◌, ◌≤◌, Bool, true, false, cond, List, [], ◌∷◌, length, drop, refl, sym, ap, arith, slice_index_or, filter, IsSortedByKey, Ordering, Less, Equal, Greater, is_eq, is_lt}
use Rattle.std.specs.Prelude.{⊤}
use Rattle.std.specs.List.{AllByRecursion}
use Rattle.std.specs.Cmp.{IsTotalOrder}
use Rattle.std.specs.Ordering.{ordering_reverse}
use Rattle.std.proofs.lemmas.Cmp.{tied_itself}
use Rattle.std.proofs.lemmas.List.Sorted.{ranks_by, sorted_far}

-- ---- what passes two tests

-- in whichever order they are asked
pub filters-swap : {X : Type 0} (p q : X → Bool) (xs : List X) → filter p (filter q xs) ≡ filter q (filter p xs)
filters-swap p q [] = refl
filters-swap {X} p q (x ∷ xs) = go (p x) (q x) refl refl (filters-swap p q xs)
  where
    go : (b c : Bool) → p x ≡ b → q x ≡ c → filter p (filter q xs) ≡ filter q (filter p xs) →
        filter p (cond c (x ∷ filter q xs) (filter q xs)) ≡ filter q (cond b (x ∷ filter p xs) (filter p xs))
    go true true e d later =
        ap (λ z. cond z (x ∷ filter p (filter q xs)) (filter p (filter q xs))) e ∙ (ap (λ (zs : List X). x ∷ zs) later
        ∙ sym (ap (λ z. cond z (x ∷ filter q (filter p xs)) (filter q (filter p xs))) d))
    go true false e d later = later ∙ sym (ap (λ z. cond z (x ∷ filter q (filter p xs)) (filter q (filter p xs))) d)
    go false true e d later = ap (λ z. cond z (x ∷ filter p (filter q xs)) (filter p (filter q xs))) e ∙ later
    go false false e d later = later

-- where the one asks for more than the other
pub filter-narrower : {X : Type 0} (p q : X → Bool) (xs : List X) → AllByRecursion (λ x. q x ≡ true → p x ≡ true) xs → filter q xs ≡ filter q (filter p xs)
filter-narrower p q [] h = refl
filter-narrower {X} p q (x ∷ xs) h = go (p x) (q x) refl refl (filter-narrower p q xs h.1)
  where
    go : (b c : Bool) → p x ≡ b → q x ≡ c → filter q xs ≡ filter q (filter p xs) → cond c (x ∷ filter q xs) (filter q xs) ≡ filter q (cond b (x ∷ filter p xs) (filter p xs))
    go true c e d later =
        ap (λ zs. cond c (x ∷ zs) zs) later ∙ ap (λ z. cond z (x ∷ filter q (filter p xs)) (filter q (filter p xs))) (sym d)
    go false true e d later = absurd (let t = h.0 d in cc)
    go false false e d later = later

-- ---- lists that are sorted by a key

module _ {X K : Type 0} (key : X → K) (R : K → K → Ordering) (O : IsTotalOrder R) where
  -- those at a key
  abbrev pub at_key : K → List X → List X
  at_key k xs = filter (λ x. is_eq (R k (key x))) xs

  -- none comes before this key
  abbrev NoneBefore : K → List X → Type 0
  NoneBefore k [] = ⊤
  NoneBefore k (x ∷ xs) = (is_lt (R (key x) k) ≡ false) × NoneBefore k xs

  -- none comes before an earlier one
  abbrev Climbs : List X → Type 0
  Climbs [] = ⊤
  Climbs (x ∷ xs) = NoneBefore (key x) xs × Climbs xs

  none-of : (k : K) (d : X) (xs : List X) → ((i : ℕ) → i < length xs → is_lt (R (key (slice_index_or xs i d)) k) ≡ false) → NoneBefore k xs
  none-of k d [] h = tt
  none-of k d (x ∷ xs) h = (h 0 (omega arith), none-of k d xs (λ i l. h (suc i) (omega arith)))

  climbs-of : (xs : List X) → ((i j : ℕ) (d : X) → i ≤ j → j < length xs → is_lt (R (key (slice_index_or xs j d)) (key (slice_index_or xs i d))) ≡ false) → Climbs xs
  climbs-of [] h = tt
  climbs-of (x ∷ xs) h =
      (none-of (key x) x xs (λ i l. h 0 (suc i) x (omega arith) (omega arith)), climbs-of xs (λ i j d l m. h (suc i) (suc j) d (omega arith) (omega arith)))

  climbs : (xs : List X) → IsSortedByKey key R xs → Climbs xs
  climbs xs up = climbs-of xs (sorted_far (λ x y. is_lt (R (key x) (key y))) (ranks_by O key) xs up)

  at_key-mine : (x : X) (xs : List X) → at_key (key x) (x ∷ xs) ≡ x ∷ at_key (key x) xs
  at_key-mine x xs = ap (λ b. cond b (x ∷ at_key (key x) xs) (at_key (key x) xs)) (ap is_eq (tied_itself O (key x)))

  -- nothing is at a key that comes before one before which none comes
  at_key-none : (j k : K) → R j k ≡ Less → (xs : List X) → NoneBefore k xs → at_key j xs ≡ []
  at_key-none j k l [] h = refl
  at_key-none j k l (x ∷ xs) h =
      ap (λ b. cond b (x ∷ at_key j xs) (at_key j xs)) (differ (R j (key x)) refl) ∙ at_key-none j k l xs h.1
    where
      differ : (r : Ordering) → R j (key x) ≡ r → is_eq (R j (key x)) ≡ false
      differ Less e = ap is_eq e
      differ Greater e = ap is_eq e
      differ Equal e = absurd (let t : is_lt (R (key x) k) ≡ true = ap is_lt (sym (O.congr j (key x) k e) ∙ l) in let u = h.0 in cc)

  -- so a list that begins with x has no elements at key x in one that begins later
  begins-later : (x y : X) (xs ys : List X) → R (key x) (key y) ≡ Less → Climbs (y ∷ ys) → at_key (key x) (x ∷ xs) ≡ at_key (key x) (y ∷ ys) → ⊥
  begins-later x y xs ys l up same =
      let itself : is_lt (R (key y) (key y)) ≡ false = ap is_lt (tied_itself O (key y)) in
      let e : x ∷ at_key (key x) xs ≡ [] = sym (at_key-mine x xs) ∙ (same ∙ at_key-none (key x) (key y) l (y ∷ ys) (itself, up.0)) in
      let n = ap length e in omega arith

  -- two lists that are sorted and have the same at each key are one list
  one-climb : (xs ys : List X) → Climbs xs → Climbs ys → ((k : K) → at_key k xs ≡ at_key k ys) → xs ≡ ys
  one-climb [] [] up up' same = refl
  one-climb [] (y ∷ ys) up up' same = absurd (let n = ap length (same (key y) ∙ at_key-mine y ys) in omega arith)
  one-climb (x ∷ xs) [] up up' same = absurd (let n = ap length (sym (same (key x)) ∙ at_key-mine x xs) in omega arith)
  one-climb (x ∷ xs) (y ∷ ys) up up' same = go (R (key x) (key y)) refl (λ h. one-climb xs ys up.1 up'.1 h)
    where
      fewer : (b c : Bool) (zs ws : List X) → b ≡ c → cond b (x ∷ zs) zs ≡ cond c (y ∷ ws) ws → zs ≡ ws
      fewer true true zs ws e h = ap (drop 1) h
      fewer false false zs ws e h = h
      fewer true false zs ws e h = absurd (cc)
      fewer false true zs ws e h = absurd (cc)

      go : (r : Ordering) → R (key x) (key y) ≡ r → (((k : K) → at_key k xs ≡ at_key k ys) → xs ≡ ys) → x ∷ xs ≡ y ∷ ys
      go Less e later = absurd (begins-later x y xs ys e up' (same (key x)))
      go Greater e later = absurd (begins-later y x ys xs (O.antisymm (key y) (key x) ∙ ap ordering_reverse e) up (sym (same (key y))))
      go Equal e later =
          let both : x ∷ at_key (key x) xs ≡ y ∷ at_key (key x) ys =
          sym (at_key-mine x xs) ∙ (same (key x) ∙ ap (λ b. cond b (y ∷ at_key (key x) ys) (at_key (key x) ys)) (ap is_eq e)) in
          let first : x ≡ y = ap (λ zs. slice_index_or zs 0 x) both in
          let rest : xs ≡ ys = later (λ k. fewer (is_eq (R k (key x))) (is_eq (R k (key y))) (at_key k xs) (at_key k ys) (ap (λ z. is_eq (R k (key z))) first) (same k)) in
          ap (λ z. z ∷ xs) first ∙ ap (λ (zs : List X). y ∷ zs) rest

  pub one-sorted : (xs ys : List X) → IsSortedByKey key R xs → IsSortedByKey key R ys → ((k : K) → at_key k xs ≡ at_key k ys) → xs ≡ ys
  one-sorted xs ys up up' same = one-climb xs ys (climbs xs up) (climbs ys up') same
