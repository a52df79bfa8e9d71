-- Numbers that are put in, each once, are the one strictly increasing list of them.
use Rattle.std.proofs.Common.{◌≡◌, ℕ, ◌<◌, List, [], ◌∷◌, inl, inr, refl, sym, subst, arith, IsSorted, IsPermutation, nat_cmp, Ordering, Less, Equal, Greater, eqb}
use Rattle.std.specs.Prelude.{⊤}
use Rattle.std.specs.List.{AllByRecursion, dedup}
use Rattle.std.specs.List.Retain.{IsFiltered, DiffersFromLast}
use Rattle.std.specs.List.Sorted.{IsStrictlySortedBy}
use Rattle.std.specs.Ordering.{match_ordering}
use Rattle.std.specs.BTreeSet.{insert_key}
use Rattle.std.specs.Cmp.{nat_cmp_is}
use Rattle.std.proofs.lemmas.Cmp.{ranked}
use Rattle.std.proofs.lemmas.List.Filters.{dedup_is}
use Rattle.std.proofs.lemmas.List.Kept.{Contains-from_dedup, Contains-dedup_nat}
use Rattle.std.proofs.lemmas.List.Sorted.{Contains-permutation, IsPermutation-sym}
use Rattle.std.proofs.lemmas.Map.Keys.{IsStrictlyIncreasing-from_sorted, IsStrictlyIncreasing-dedup, sorted_from_strictly_increasing}
use Rattle.network.specs.Words.{IsRisingOf, rising_from, rising}
use Rattle.network_faults.proofs.MemberLemmas.{Has, has-from_contains, contains-from_has, has-rising, rising-has}

-- all are above a number
AllAbove : ℕ → List ℕ → Type 0
AllAbove k [] = ⊤
AllAbove k (x ∷ xs) = (k < x) × AllAbove k xs

-- each is below all later ones
Rises : List ℕ → Type 0
Rises [] = ⊤
Rises (x ∷ xs) = AllAbove x xs × Rises xs

-- ---- rising is strictly increasing

above-of : (k : ℕ) (xs : List ℕ) → AllByRecursion (λ y. nat_cmp k y ≡ Less) xs → AllAbove k xs
unfolding AllAbove
above-of k [] h = tt
above-of k (x ∷ xs) h = (ranked k x Less (sym h.0), above-of k xs h.1)

of-above : (k : ℕ) (xs : List ℕ) → AllAbove k xs → AllByRecursion (λ y. nat_cmp k y ≡ Less) xs
unfolding AllAbove
of-above k [] h = tt
of-above k (x ∷ xs) h = (sym (nat_cmp_is k x Less h.0), of-above k xs h.1)

rises-of : (xs : List ℕ) → IsStrictlySortedBy nat_cmp xs → Rises xs
unfolding IsStrictlySortedBy Rises
rises-of [] h = tt
rises-of (x ∷ xs) h = (above-of x xs h.0, rises-of xs h.1)

of-rises : (xs : List ℕ) → Rises xs → IsStrictlySortedBy nat_cmp xs
unfolding IsStrictlySortedBy Rises
of-rises [] h = tt
of-rises (x ∷ xs) h = (of-above x xs h.0, of-rises xs h.1)

above-trans : (j k : ℕ) (xs : List ℕ) → j < k → AllAbove k xs → AllAbove j xs
unfolding AllAbove
above-trans j k [] lt above = tt
above-trans j k (x ∷ xs) lt above = let next : k < x = above.0 in (omega arith, above-trans j k xs lt above.1)

above-insert : (j k : ℕ) (xs : List ℕ) → j < k → AllAbove j xs → AllAbove j (insert_key nat_cmp xs k)
unfolding AllAbove
above-insert j k [] lt above = (lt, tt)
above-insert j k (x ∷ xs) lt above = go (nat_cmp k x) (above-insert j k xs lt above.1)
  where
    go : (r : Ordering) → AllAbove j (insert_key nat_cmp xs k) → AllAbove j (match_ordering r (k ∷ x ∷ xs) (x ∷ xs) (x ∷ insert_key nat_cmp xs k))
    go Less later = (lt, above)
    go Equal later = above
    go Greater later = (above.0, later)

rises-insert : (k : ℕ) (xs : List ℕ) → Rises xs → Rises (insert_key nat_cmp xs k)
unfolding AllAbove Rises
rises-insert k [] rises = (tt, tt)
rises-insert k (x ∷ xs) rises = go (nat_cmp k x) refl (rises-insert k xs rises.1)
  where
    go : (r : Ordering) → r ≡ nat_cmp k x → Rises (insert_key nat_cmp xs k) → Rises (match_ordering r (k ∷ x ∷ xs) (x ∷ xs) (x ∷ insert_key nat_cmp xs k))
    go Less e later = let lt : k < x = ranked k x Less e in ((lt, above-trans k x xs lt rises.0), rises)
    go Equal e later = rises
    go Greater e later = let lt : x < k = ranked k x Greater e in (above-insert x k xs lt rises.0, later)

rises-from : (found xs : List ℕ) → Rises found → Rises (rising_from found xs)
rises-from found [] rises = rises
rises-from found (x ∷ xs) rises = rises-from (insert_key nat_cmp found x) xs (rises-insert x found rises)

rising-rises : (xs : List ℕ) → Rises (rising xs)
unfolding Rises
rising-rises xs = rises-from [] xs tt

pub is-rising : (xs : List ℕ) → IsRisingOf xs (rising xs)
is-rising xs = record {
  increasing = IsStrictlyIncreasing-from_sorted (rising xs) (of-rises (rising xs) (rising-rises xs));
  members = λ n. (λ there. contains-from_has xs n (rising-has xs n (has-from_contains (rising xs) n there)), λ there. contains-from_has (rising xs) n (has-rising xs n (has-from_contains xs n there)));
}

-- ---- no other list is

above-has : (j k : ℕ) (xs : List ℕ) → AllAbove j xs → Has xs k → j < k
unfolding AllAbove
above-has j k [] above there = absurd there
above-has j k (x ∷ xs) above (inl same) = subst (λ (n : ℕ). j < n) same above.0
above-has j k (x ∷ xs) above (inr there) = above-has j k xs above.1 there

behind : (x y k : ℕ) (ys : List ℕ) → x < k → y ≡ x → Has (y ∷ ys) k → Has ys k
behind x y k ys lt e (inl same) = absurd (omega (arith, lt, e, same))
behind x y k ys lt e (inr there) = there

least : (x y : ℕ) (xs ys : List ℕ) → AllAbove x xs → AllAbove y ys → Has (y ∷ ys) x → Has (x ∷ xs) y → y ≡ x
least x y xs ys ax ay (inl same) b = same
least x y xs ys ax ay (inr there) (inl same) = sym same
least x y xs ys ax ay (inr a) (inr b) = let one : y < x = above-has y x ys ay a in let other : x < y = above-has x y xs ax b in absurd (omega (arith, one, other))

one-list : (xs ys : List ℕ) → Rises xs → Rises ys → ((k : ℕ) → Has xs k → Has ys k) → ((k : ℕ) → Has ys k → Has xs k) → ys ≡ xs
unfolding Rises
one-list [] [] rx ry to from = refl
one-list [] (y ∷ ys) rx ry to from = absurd (from y (inl refl))
one-list (x ∷ xs) [] rx ry to from = absurd (to x (inl refl))
one-list (x ∷ xs) (y ∷ ys) rx ry to from =
    let first : y ≡ x = least x y xs ys rx.0 ry.0 (to x (inl refl)) (from y (inl refl)) in
    let rest : ys ≡ xs = one-list xs ys rx.1 ry.1
    (λ k there. behind x y k ys (above-has x k xs rx.0 there) first (to k (inr there)))
    (λ k there. behind y x k xs (above-has y k ys ry.0 there) (sym first) (from k (inr there))) in
    rw (first, rest) refl

pub only-rising : (xs ys : List ℕ) → IsRisingOf xs ys → ys ≡ rising xs
only-rising xs ys is =
    one-list (rising xs) ys (rising-rises xs) (rises-of ys (sorted_from_strictly_increasing ys is.increasing))
    (λ k there. has-from_contains ys k ((is.members k).1 (contains-from_has xs k (rising-has xs k there))))
    (λ k there. has-rising xs k (has-from_contains xs k ((is.members k).0 (contains-from_has ys k there))))

-- ---- what a sort leaves, without its doubles

pub sorted-rising : (xs sorted ys : List ℕ) → IsPermutation xs sorted → IsSorted nat_cmp sorted → IsFiltered (DiffersFromLast eqb) [] sorted ys → ys ≡ rising xs
sorted-rising xs sorted ys moved in_order kept =
    let is : ys ≡ dedup eqb sorted = dedup_is eqb sorted ys kept in
    only-rising xs ys (subst (IsRisingOf xs) (sym is) (record {
      increasing = IsStrictlyIncreasing-dedup sorted in_order;
      members = λ n. (
        λ there. Contains-permutation sorted xs n (IsPermutation-sym xs sorted moved) (Contains-from_dedup eqb sorted n there),
        λ there. Contains-dedup_nat sorted n (Contains-permutation xs sorted n moved there),
      );
    }))
