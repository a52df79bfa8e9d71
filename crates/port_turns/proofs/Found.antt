-- What is found by its number, once an entry with the same number is set.
use Rattle.std.proofs.Common.{◌≡◌, ◌≢◌, ℕ, suc, ◌+◌, ◌==◌, Bool, true, false, cond, List, [], ◌∷◌, map, slice_get, slice_set, Option, None, Some, option_map, option_and_then, refl, sym, ap, ◌∙◌, subst, arith, eqb-true}
use Rattle.std.proofs.Math.Seq.{map-set_same}
use Rattle.std.proofs.lemmas.Option.{none-some, same_Some, get_or_from_slice_get, slice_get-map}
use Rattle.nodes.specs.rules.Finding.{Found, find, found_at, place_of}
use Rattle.nodes.specs.laws.Places.{found-there, get-set}
use Rattle.port_turns.proofs.Turns.{get-other}

-- the number that has a place stands there
place-number : (numbers : List ℕ) (id i : ℕ) → place_of numbers id ≡ Some i → slice_get numbers i ≡ Some id
place-number [] id i h = absurd (none-some i h)
place-number (n ∷ numbers) id i h = go (n == id) refl (place_of numbers id) h (place-number numbers id)
  where
    go : (b : Bool) → (n == id) ≡ b → (o : Option ℕ) → cond b (Some 0) (option_map (λ k. k + 1) o) ≡ Some i → ((j : ℕ) → o ≡ Some j → slice_get numbers j ≡ Some id) → slice_get (n ∷ numbers) i ≡ Some id
    go true e o k later = subst (λ j. slice_get (n ∷ numbers) j ≡ Some id) (same_Some 0 i k) (ap Some (eqb-true n id e))
    go false e None k later = absurd (none-some i k)
    go false e (Some j) k later =
        let at : suc j ≡ i = let s = same_Some (j + 1) i k in omega arith in
        subst (λ j. slice_get (n ∷ numbers) j ≡ Some id) at (later j refl)

module _ {X : Type 0} (number : X → ℕ) (xs : List X) (id : ℕ) (found : Found X) (is : find number xs id ≡ Some found) where
  placed : place_of (map number xs) id ≡ Some found.place
  placed = go (place_of (map number xs) id) refl is
    where
      at : (i : ℕ) (o : Option X) → option_map (λ x. record { place = i; entry = x }) o ≡ Some found → Some i ≡ Some found.place
      at i None h = absurd (none-some found h)
      at i (Some x) h = ap (λ (f : Found X). Some f.place) (same_Some (record { place = i; entry = x }) found h)

      go : (o : Option ℕ) → place_of (map number xs) id ≡ o → option_and_then (found_at xs) o ≡ Some found → o ≡ Some found.place
      go None p h = absurd (none-some found h)
      go (Some i) p h = at i (slice_get xs i) h

  there : slice_get xs found.place ≡ Some found.entry
  there = found-there number xs id found is

  -- it has the number
  pub found-number : number found.entry ≡ id
  found-number = same_Some (number found.entry) id (sym (slice_get-map number xs found.place ∙ ap (option_map number) there) ∙ place-number (map number xs) id found.place placed)

  module _ (y : X) (same : number y ≡ number found.entry) where
    numbers-stay : map number (slice_set xs found.place y) ≡ map number xs
    numbers-stay = map-set_same number xs found.place y found.entry (same ∙ ap number (sym (get_or_from_slice_get xs found.place found.entry found.entry there)))

    -- the entry that is set is found
    pub found-set : find number (slice_set xs found.place y) id ≡ Some (record { place = found.place; entry = y })
    found-set =
        ap (λ ns. option_and_then (found_at (slice_set xs found.place y)) (place_of ns id)) numbers-stay ∙
        (ap (option_and_then (found_at (slice_set xs found.place y))) placed ∙
        ap (option_map (λ x. record { place = found.place; entry = x })) (get-set xs found.place found.entry y there))

    -- and each other number finds what it found
    pub found-other : (v : ℕ) → v ≢ id → find number (slice_set xs found.place y) v ≡ find number xs v
    found-other v d = ap (λ ns. option_and_then (found_at (slice_set xs found.place y)) (place_of ns v)) numbers-stay ∙ go (place_of (map number xs) v) refl
      where
        not-here : (j : ℕ) → place_of (map number xs) v ≡ Some j → j ≢ found.place
        not-here j p e = d (same_Some v id (sym (place-number (map number xs) v j p) ∙ (ap (slice_get (map number xs)) e ∙ place-number (map number xs) id found.place placed)))

        go : (o : Option ℕ) → place_of (map number xs) v ≡ o → option_and_then (found_at (slice_set xs found.place y)) o ≡ option_and_then (found_at xs) o
        go None p = refl
        go (Some j) p = ap (option_map (λ x. record { place = j; entry = x })) (get-other xs found.place j y (not-here j p))
