-- A list at whose end something is put for each element of another list.
use Rattle.std.proofs.Common.{◌≡◌, ℕ, ◌+◌, ◌<◌, List, ◌++◌, length, map, drop, get_or, ap, sym, ◌∙◌, append_assoc, flat_map}
use Rattle.std.proofs.lemmas.List.{drop_more}
use Rattle.std.proofs.lemmas.List.Folds.{flat_map-map}

-- what is put for one element more
pub pushed-at : {X Z : Type 0} (f : X → List Z) (xs : List X) (i : ℕ) (d : X) (old new whole : List Z) → i < length xs
    → new ≡ old ++ f (get_or xs i d) → old ++ flat_map f (drop i xs) ≡ whole → new ++ flat_map f (drop (i + 1) xs) ≡ whole
pushed-at f xs i d old new whole lt put before =
    ap (λ zs. zs ++ flat_map f (drop (i + 1) xs)) put ∙ append_assoc old (f (get_or xs i d)) (flat_map f (drop (i + 1) xs))
    ∙ ap (λ ys. old ++ flat_map f ys) (sym (drop_more xs i d lt)) ∙ before

-- the same of an element that was read
pub pushed-more : {X Z : Type 0} (f : X → List Z) (xs : List X) (i : ℕ) (x : X) (old new whole : List Z) → i < length xs → x ≡ get_or xs i x
    → new ≡ old ++ f x → old ++ flat_map f (drop i xs) ≡ whole → new ++ flat_map f (drop (i + 1) xs) ≡ whole
pushed-more f xs i x old new whole lt read put before = pushed-at f xs i x old new whole lt (put ∙ ap (λ y. old ++ f y) read) before

-- the same where the elements are seen by view
pub pushed-seen : {X Y Z : Type 0} (view : X → Y) (f : Y → List Z) (xs : List X) (i : ℕ) (x : X) (old new whole : List Z) → i < length xs → x ≡ get_or xs i x
    → new ≡ old ++ f (view x) → old ++ flat_map f (map view (drop i xs)) ≡ whole → new ++ flat_map f (map view (drop (i + 1) xs)) ≡ whole
pushed-seen view f xs i x old new whole lt read put before =
    ap (λ zs. new ++ zs) (flat_map-map f view (drop (i + 1) xs))
    ∙ pushed-more (λ y. f (view y)) xs i x old new whole lt read put (ap (λ zs. old ++ zs) (sym (flat_map-map f view (drop i xs))) ∙ before)
