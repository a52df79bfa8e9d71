-- Where a number stands among rising ones.
use Rattle.std.proofs.Common.{◌≡◌, ℕ, zero, suc, ◌<◌, ◌≤◌, ◌==◌, Less, Equal, Greater, Bool, true, false, cond, List, [], ◌∷◌, length, map, get_or, slice_get, slice_set, slice_index_or, Option, Some, None, IfSome, option_map, option_and_then, ◌+◌, Result, Ok, Err, refl, sym, ap, ◌∙◌, inl, inr, arith, add-one, nat_cmp, map-id}
use Rattle.std.specs.Result.{result_ok}
use Rattle.std.specs.List.Sorted.{IsSearchInRange, IsBinarySearchResult, IsNonDecreasingBy}
use Rattle.std.specs.Ordering.{ordering_index}
use Rattle.std.proofs.Math.Seq.{map-set_same}
use Rattle.std.proofs.lemmas.Bool.{cases_lt}
use Rattle.std.proofs.lemmas.Bool.Decides.{nat_tests}
use Rattle.std.proofs.lemmas.List.{get_or-map, length-map}
use Rattle.std.proofs.lemmas.List.Sorted.{IsNonDecreasingBy-from_default}
use Rattle.std.proofs.lemmas.Map.Keys.{below_from_sorted, sorted_tail, non_decreasing_from_sorted}
use Rattle.std.proofs.lemmas.Option.{none-some, same_Some, slice_get-get_or}
use Rattle.nodes.specs.Words.{place_of, find, found_at, IsRising, AreNumbers}

-- the number at a place is found there, since each one before it is less
pub place-there : (numbers : List ℕ) (id i : ℕ) → IsRising numbers → i < length numbers → get_or numbers i 0 ≡ id → place_of numbers id ≡ Some i
place-there [] id i rising h e = absurd (omega arith)
place-there (n ∷ numbers) id zero rising h e =
    let here : (n == id) ≡ true = grind (arith, nat_tests) in
    rw here refl
place-there (n ∷ numbers) id (suc i) rising h e =
    let less = below_from_sorted (n ∷ numbers) 0 (suc i) 0 rising (omega arith) h in
    let other : (n == id) ≡ false = grind (arith, nat_tests) in
    let later = place-there numbers id i (sorted_tail nat_cmp n numbers rising) (omega arith) e in
    rw (other, later) (ap Some (add-one i))

-- a number that is nowhere has no place
pub place-nowhere : (numbers : List ℕ) (id : ℕ) → ((k : ℕ) → k < length numbers → get_or numbers k 0 ≡ id → ⊥) → place_of numbers id ≡ None
place-nowhere [] id none = refl
place-nowhere (n ∷ numbers) id none =
    let differ : n ≡ id → ⊥ = none 0 (omega arith) in
    let other : (n == id) ≡ false = grind (arith, nat_tests) in
    let later = place-nowhere numbers id (λ k h. none (suc k) (omega arith)) in
    rw (other, later) refl

equal : (a b : ℕ) → nat_cmp a b ≡ Equal → a ≡ b
equal a b h = grind (arith, nat_tests)

less : (a b : ℕ) → nat_cmp a b ≡ Less → a < b
less a b h = grind (arith, nat_tests)

more : (a b : ℕ) → nat_cmp a b ≡ Greater → b < a
more a b h = grind (arith, nat_tests)

rises : (a b id : ℕ) → a ≤ b → ordering_index (nat_cmp a id) ≤ ordering_index (nat_cmp b id)
rises a b id h = grind (arith, nat_tests)

-- a place is one of the list
pub place-within : (numbers : List ℕ) (id i : ℕ) → place_of numbers id ≡ Some i → i < length numbers
place-within [] id i e = absurd (none-some i e)
place-within (n ∷ numbers) id i e = go (n == id) (place_of numbers id) (place-within numbers id) e
  where
    go : (b : Bool) (o : Option ℕ) → ((j : ℕ) → o ≡ Some j → j < length numbers) → cond b (Some 0) (option_map (λ k. k + 1) o) ≡ Some i → i < length (n ∷ numbers)
    go true o later e = omega (arith, same_Some 0 i e)
    go false None later e = absurd (none-some i e)
    go false (Some j) later e = omega (arith, later j refl, same_Some (j + 1) i e)

-- and where they rise, it is not beyond the number
place-from : (n : ℕ) (rest : List ℕ) (id i : ℕ) → IsRising (n ∷ rest) → place_of (n ∷ rest) id ≡ Some i → n + i ≤ id
place-from n [] id i rising e = go (n == id) refl e
  where
    go : (b : Bool) → (n == id) ≡ b → cond b (Some 0) None ≡ Some i → n + i ≤ id
    go true is e = let same : n ≡ id = grind (arith, nat_tests) in omega (arith, same, same_Some 0 i e)
    go false is e = absurd (none-some i e)
place-from n (m ∷ rest) id i rising e = go (n == id) refl (place_of (m ∷ rest) id) (λ j h. place-from m rest id j (sorted_tail nat_cmp n (m ∷ rest) rising) h) e
  where
    less : n < m
    less = below_from_sorted (n ∷ m ∷ rest) 0 1 0 rising (omega arith) (omega arith)

    go : (b : Bool) → (n == id) ≡ b → (o : Option ℕ) → ((j : ℕ) → o ≡ Some j → m + j ≤ id) → cond b (Some 0) (option_map (λ k. k + 1) o) ≡ Some i → n + i ≤ id
    go true is o later e = let same : n ≡ id = grind (arith, nat_tests) in omega (arith, same, same_Some 0 i e)
    go false is None later e = absurd (none-some i e)
    go false is (Some j) later e = omega (arith, less, later j refl, same_Some (j + 1) i e)

pub place-small : (numbers : List ℕ) (id : ℕ) → IsRising numbers → IfSome (place_of numbers id) (λ i. i ≤ id)
place-small [] id rising = tt
place-small (n ∷ rest) id rising = go (place_of (n ∷ rest) id) refl
  where
    go : (o : Option ℕ) → place_of (n ∷ rest) id ≡ o → IfSome o (λ i. i ≤ id)
    go None is = tt
    go (Some i) is = omega (arith, place-from n rest id i rising is)

-- the entry that was read at the place of a number is the one that is found
pub found-read : {X : Type 0} (number : X → ℕ) (searched read xs : List X) (id i : ℕ) (x : X) → searched ≡ read → read ≡ xs →
    Some i ≡ place_of (map number searched) id → x ≡ slice_index_or read i x → find number xs id ≡ Some (record { place = i; entry = x })
found-read number searched read xs id i x same inside placed is =
    let here : Some i ≡ place_of (map number read) id = placed ∙ ap (λ xs. place_of (map number xs) id) same in
    let within : i < length read = omega (arith, place-within (map number read) id i (sym here), length-map read number) in
    let there : slice_get read i ≡ Some x = slice_get-get_or read i x within ∙ ap (λ y. Some y) (sym is) in
    ap (λ xs. find number xs id) (sym inside) ∙ ap (option_and_then (found_at read)) (sym here) ∙ ap (option_map (λ x. record { place = i; entry = x })) there

-- the numbers stay when an entry is set where one with the same number was read
pub numbers-kept : {X : Type 0} (number : X → ℕ) (xs : List X) (numbers : List ℕ) (i : ℕ) (x y : X) → x ≡ slice_index_or xs i x → number y ≡ number x →
    AreNumbers number xs numbers → AreNumbers number (slice_set xs i y) numbers
numbers-kept number xs numbers i x y is same are = record {
  rising = are.rising;
  listed = are.listed ∙ sym (map-set_same number xs i y x (same ∙ ap number is));
}

pub ruleset numbers_stay = (numbers-kept)

-- the numbers as a search reads them
pub numbers-read : {X : Type 0} (number : X → ℕ) (xs : List X) (numbers read : List ℕ) → read ≡ numbers → AreNumbers number xs numbers → map (λ n. n) read ≡ map number xs
numbers-read number xs numbers read same are = map-id read ∙ same ∙ are.listed

-- there are as many as entries
pub numbers-length : {X : Type 0} (number : X → ℕ) (xs : List X) (numbers read : List ℕ) → read ≡ numbers → AreNumbers number xs numbers → length read ≡ length xs
numbers-length number xs numbers read same are = ap (λ (ns : List ℕ). length ns) (same ∙ are.listed) ∙ length-map xs number

-- a place that a search answers is one of the list
pub ok-within : (r : Result ℕ ℕ) (n : ℕ) → IsSearchInRange r n → IfSome (result_ok r) (λ i. i < n)
ok-within (Ok i) n h = h
ok-within (Err i) n h = tt

-- what a binary search finds among entries whose numbers rise
pub place-searched : {X : Type 0} (number : X → ℕ) (xs : List X) (id : ℕ) (r : Result ℕ ℕ) → IsRising (map number xs) →
    IsSearchInRange r (length xs) → IsBinarySearchResult (λ x. nat_cmp (number x) id) xs r → result_ok r ≡ place_of (map number xs) id
place-searched number [] id (Ok i) rising range found = absurd (omega (arith, range))
place-searched number [] id (Err i) rising range found = refl
place-searched {X} number (first ∷ rest) id r rising range found = go r range found
  where
    xs : List X
    xs = first ∷ rest

    numbers : List ℕ
    numbers = map number xs

    read : (i : ℕ) → i < length xs → get_or numbers i 0 ≡ number (get_or xs i first)
    read i h = get_or-map number xs i first 0 h

    rise : IsNonDecreasingBy (λ x. ordering_index (nat_cmp (number x) id)) xs
    rise = IsNonDecreasingBy-from_default (λ x. ordering_index (nat_cmp (number x) id)) xs first (λ i j le lt.
        let up = non_decreasing_from_sorted numbers rising i j 0 le (omega (arith, lt, length-map xs number)) in
        rises (number (get_or xs i first)) (number (get_or xs j first)) id (omega (arith, up, read i (omega arith), read j lt)))

    go : (r : Result ℕ ℕ) → IsSearchInRange r (length xs) → IsBinarySearchResult (λ x. nat_cmp (number x) id) xs r → result_ok r ≡ place_of numbers id
    go (Ok i) range found = sym (place-there numbers id i rising (omega (arith, range, length-map xs number)) (read i range ∙ equal _ id (found first)))
    go (Err i) range found = sym (place-nowhere numbers id (λ k h e.
        let within : k < length xs = omega (arith, h, length-map xs number) in
        let parted = found rise in
        elim (cases_lt k i) [
          | inl below ↦ (omega (arith, less (number (get_or xs k first)) id (parted.0 k first (omega arith) below), read k within, e))
          | inr behind ↦ (omega (arith, more (number (get_or xs k first)) id (parted.1 k first behind within), read k within, e))
        ]))
