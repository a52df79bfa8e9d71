-- Lists of numbers that rise.
use Rattle.std.proofs.Common.{◌≡◌, ℕ, ◌<◌, Bool, cond, List, [], ◌∷◌, refl, sym, arith, Ordering, Less, Equal, Greater, nat_cmp}
use Rattle.std.specs.Prelude.{⊤}
use Rattle.std.specs.List.{AllByRecursion}
use Rattle.std.specs.List.Sorted.{IsStrictlySortedBy}
use Rattle.std.specs.Ordering.{match_ordering}
use Rattle.std.specs.BTreeSet.{insert_key}
use Rattle.std.proofs.lemmas.Cmp.{ranked}
use Rattle.network.specs.Words.{rising, rising_from}

-- all are above a number
abbrev pub AllAbove : ℕ → List ℕ → Type 0
AllAbove k [] = ⊤
AllAbove k (x ∷ xs) = (k < x) × AllAbove k xs

-- each is below all later ones
abbrev pub Rises : List ℕ → Type 0
Rises [] = ⊤
Rises (x ∷ xs) = AllAbove x xs × Rises xs

-- 1 where a test passes, as counts have it
abbrev pub one_if : Bool → ℕ
one_if b = cond b 1 0

above-of : (k : ℕ) (xs : List ℕ) → AllByRecursion (λ y. nat_cmp k y ≡ Less) xs → AllAbove k xs
above-of k [] h = tt
above-of k (x ∷ xs) h = (ranked k x Less (sym h.0), above-of k xs h.1)

pub rises-of : (xs : List ℕ) → IsStrictlySortedBy nat_cmp xs → Rises xs
unfolding IsStrictlySortedBy
rises-of [] h = tt
rises-of (x ∷ xs) h = (above-of x xs h.0, rises-of xs h.1)

above-trans : (j k : ℕ) (xs : List ℕ) → j < k → AllAbove k xs → AllAbove j xs
above-trans j k [] lt above = tt
above-trans j k (x ∷ xs) lt above = let next : k < x = above.0 in (omega arith, above-trans j k xs lt above.1)

above-insert : (j k : ℕ) (xs : List ℕ) → j < k → AllAbove j xs → AllAbove j (insert_key nat_cmp xs k)
above-insert j k [] lt above = (lt, tt)
above-insert j k (x ∷ xs) lt above = go (nat_cmp k x) (above-insert j k xs lt above.1)
  where
    go : (r : Ordering) → AllAbove j (insert_key nat_cmp xs k) → AllAbove j (match_ordering r (k ∷ x ∷ xs) (x ∷ xs) (x ∷ insert_key nat_cmp xs k))
    go Less later = (lt, above)
    go Equal later = above
    go Greater later = (above.0, later)

rises-insert : (k : ℕ) (xs : List ℕ) → Rises xs → Rises (insert_key nat_cmp xs k)
rises-insert k [] rises = (tt, tt)
rises-insert k (x ∷ xs) rises = go (nat_cmp k x) refl (rises-insert k xs rises.1)
  where
    go : (r : Ordering) → r ≡ nat_cmp k x → Rises (insert_key nat_cmp xs k) → Rises (match_ordering r (k ∷ x ∷ xs) (x ∷ xs) (x ∷ insert_key nat_cmp xs k))
    go Less e later = let lt : k < x = ranked k x Less e in ((lt, above-trans k x xs lt rises.0), rises)
    go Equal e later = rises
    go Greater e later = let lt : x < k = ranked k x Greater e in (above-insert x k xs lt rises.0, later)

rises-from : (found xs : List ℕ) → Rises found → Rises (rising_from found xs)
rises-from found [] rises = rises
rises-from found (x ∷ xs) rises = rises-from (insert_key nat_cmp found x) xs (rises-insert x found rises)

-- numbers that are put in, each once, rise
pub rising-rises : (xs : List ℕ) → Rises (rising xs)
rising-rises xs = rises-from [] xs tt
