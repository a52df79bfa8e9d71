-- Rows of committed events leave, the oldest first.
use Rattle.std.proofs.Common.{◌≡◌, ℕ, zero, suc, ◌+◌, ◌≤◌, List, [], ◌∷◌, ◌++◌, IfSome, drop, length, map, slice_get, take, refl, sym, ap, ◌∙◌, append_assoc, arith}
use Rattle.std.proofs.Math.Seq.{drop-append_seam}
use Rattle.std.proofs.lemmas.List.{length-append, length-map, take-append-drop}
use Rattle.vlink.specs.Letters.{Row}
use Rattle.group_queues.specs.Rows.{Sealed}

length-take_all : {X : Type 0} (n : ℕ) (xs : List X) → n ≤ length xs → length (take n xs) ≡ n
length-take_all zero xs l = refl
length-take_all (suc n) [] l = absurd (omega arith)
length-take_all (suc n) (x ∷ xs) l = ap suc (length-take_all n xs (omega arith))

module _ {X : Type 0} (row_of : X → Row) where
  -- all rows, of which these have left and these have not
  abbrev pub sealed : List X → List Row → Sealed
  sealed left there = record { all = map row_of left ++ there; left = length left }

  -- those that have not
  pub still-there : (left : List X) (there : List Row) → drop (length left) (map row_of left ++ there) ≡ there
  still-there left there = ap (λ n. drop n (map row_of left ++ there)) (sym (length-map left row_of)) ∙ drop-append_seam (map row_of left) there

  module _ (left now : List X) (there : List Row) (count : ℕ) (more : map row_of now ≡ map row_of left ++ take count there) where
    -- all are the same when so many more have left
    pub all-same : map row_of now ++ drop count there ≡ map row_of left ++ there
    all-same =
        ap (λ z. z ++ drop count there) more ∙ (append_assoc (map row_of left) (take count there) (drop count there) ∙
        ap (λ z. map row_of left ++ z) (take-append-drop count there))

    -- and so many are those that have left
    pub more-left : count ≤ length there → length now ≡ length left + count
    more-left few =
        let a = length-map now row_of in
        let b = length-map left row_of in
        let c : length (map row_of now) ≡ length (map row_of left) + length (take count there) = ap length more ∙ length-append (map row_of left) (take count there) in
        let d = length-take_all count there few in
        omega arith

-- the next one, behind so many
pub next-there : {X : Type 0} (P : X → Type 0) (n : ℕ) (xs : List X) → IfSome (slice_get xs n) P → IfSome (slice_get (drop n xs) 0) P
next-there P zero xs h = h
next-there P (suc n) [] h = tt
next-there P (suc n) (x ∷ xs) h = next-there P n xs h
