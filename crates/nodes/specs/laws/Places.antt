-- For proofs alone: what stands at a place of a list, and what is found by its number, when an entry is set there.
use Rattle.std.proofs.Common.{◌≡◌, ℕ, List, map, Option, None, Some, slice_get, slice_set, All, option_map, option_and_then, refl, sym, subst, ap, ◌∙◌, arith, set-set, get_or-set_same, length-set}
use Rattle.std.proofs.lemmas.List.{set-get_or}
use Rattle.std.proofs.lemmas.Option.{none-some, same_Some, slice_get-get_or, slice_get_within, get_or_from_slice_get}
use Rattle.nodes.specs.rules.Finding.{Found, found_at, find, place_of}
use Rattle.nodes.specs.undoing.Changes.{modified, modified_at}

-- what holds of each element holds of the one at a place
pub All-there : {X : Type 0} (P : X → Type 0) (xs : List X) (i : ℕ) (x : X) → All P xs → slice_get xs i ≡ Some x → P x
All-there P xs i x h e = subst P (get_or_from_slice_get xs i x x e) (h i x (slice_get_within xs i x e))

-- the element that is set is there
pub get-set : {X : Type 0} (xs : List X) (i : ℕ) (x y : X) → slice_get xs i ≡ Some x → slice_get (slice_set xs i y) i ≡ Some y
get-set xs i x y e =
    let within = slice_get_within xs i x e in
    slice_get-get_or (slice_set xs i y) i x (omega (arith, within, length-set xs i y)) ∙ ap Some (get_or-set_same xs i y x within)

-- and setting the one before gives back the list
pub set-back : {X : Type 0} (xs : List X) (i : ℕ) (x y : X) → slice_get xs i ≡ Some x → slice_set (slice_set xs i y) i x ≡ xs
set-back xs i x y e =
    set-set xs i y x ∙ ap (slice_set xs i) (sym (get_or_from_slice_get xs i x x e)) ∙ set-get_or xs i x

-- setting the one that is there leaves the list
pub set-same : {X : Type 0} (xs : List X) (i : ℕ) (x : X) → slice_get xs i ≡ Some x → slice_set xs i x ≡ xs
set-same xs i x e = ap (slice_set xs i) (sym (get_or_from_slice_get xs i x x e)) ∙ set-get_or xs i x

-- the same, where the one before is what f makes of the one that is set
pub modified-back : {X : Type 0} (f : X → X) (xs : List X) (i : ℕ) (x y : X) → slice_get xs i ≡ Some x → f y ≡ x → modified i f (slice_set xs i y) ≡ xs
modified-back f xs i x y e back =
    ap (modified_at i f (slice_set xs i y)) (get-set xs i x y e) ∙ ap (slice_set (slice_set xs i y) i) back ∙ set-back xs i x y e

module _ {X : Type 0} (number : X → ℕ) (xs : List X) (id : ℕ) (found : Found X) (is : find number xs id ≡ Some found) where
  -- what is found has the place of the number
  record IsFound : Type 0 where
    placed : place_of (map number xs) id ≡ Some found.place
    there : slice_get xs found.place ≡ Some found.entry

  is-found : IsFound
  is-found = go (place_of (map number xs) id) refl is
    where
      at : (i : ℕ) (o : Option X) → place_of (map number xs) id ≡ Some i → slice_get xs i ≡ o →
          option_map (λ x. record { place = i; entry = x }) o ≡ Some found → IsFound
      at i None p e h = absurd (none-some found h)
      at i (Some x) p e h =
          let same : record { place = i; entry = x } ≡ found = same_Some _ found h in
          record {
            placed = p ∙ ap (λ (f : Found X). Some f.place) same;
            there = ap (λ (f : Found X). slice_get xs f.place) (sym same) ∙ e ∙ ap (λ (f : Found X). Some f.entry) same;
          }

      go : (o : Option ℕ) → place_of (map number xs) id ≡ o → option_and_then (found_at xs) o ≡ Some found → IsFound
      go None p h = absurd (none-some found h)
      go (Some i) p h = at i (slice_get xs i) p refl h

  pub found-there : slice_get xs found.place ≡ Some found.entry
  found-there = is-found.there
