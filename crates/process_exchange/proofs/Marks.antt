-- The halves of marks, in lists.
use Rattle.std.proofs.Common.{◌≡◌, ℕ, zero, suc, ◌<◌, List, [], ◌∷◌, map, drop, length, replicate, get_or, refl, sym, ap, ◌∙◌, subst, remove}
use Rattle.std.proofs.lemmas.List.{get_or-map, get_or-replicate}
use Rattle.halves.specs.declared.LeftHalf.{LeftHalf}
use Rattle.halves.specs.declared.RightHalf.{RightHalf}
use Rattle.process_exchange.specs.declared.mark.Standing.{Standing}
use Rattle.process_exchange.specs.Views.{blank, unplaced, marks_in, standing_of}
use Rattle.halves.proofs.InLists.{some-left}

-- the first of the marks that are left
pub first-blank : (names : List ℕ) (marks : List (RightHalf Standing)) (i : ℕ) → map (λ s. s.name) marks ≡ drop i names → i < length names →
    map (λ s. s.value) marks ≡ replicate (length marks) unplaced → (s : RightHalf Standing) → s ≡ get_or marks 0 s → s.value ≡ unplaced
first-blank names marks i left within blanks s at =
    let some = some-left names marks i left within in
    ap (λ z. z.value) at ∙ (sym (get_or-map (λ (z : RightHalf Standing). z.value) marks 0 s unplaced some) ∙
    (ap (λ ms. get_or ms 0 unplaced) blanks ∙ get_or-replicate (length marks) 0 unplaced unplaced some))

pub blanks-left : (marks : List (RightHalf Standing)) → map (λ s. s.value) marks ≡ replicate (length marks) unplaced → (rest : List (RightHalf Standing)) → rest ≡ remove marks 0 →
    map (λ s. s.value) rest ≡ replicate (length rest) unplaced
blanks-left [] blanks rest gone = subst (λ (r : List (RightHalf Standing)). map (λ s. s.value) r ≡ replicate (length r) unplaced) (sym gone) refl
blanks-left (s ∷ ss) blanks rest gone = subst (λ (r : List (RightHalf Standing)). map (λ s. s.value) r ≡ replicate (length r) unplaced) (sym gone) (ap (drop 1) blanks)

-- the half at place p tells where process p stands
pub half-told : (marks : List (LeftHalf Standing)) (n p : ℕ) → n ≡ p → (b : LeftHalf Standing) → p < length marks → b ≡ get_or marks n b →
    b.value ≡ standing_of (map (λ b. b.value) marks) p
half-told marks n p is b within at =
    ap (λ (z : LeftHalf Standing). z.value) (at ∙ ap (λ i. get_or marks i b) is) ∙ sym (get_or-map (λ (z : LeftHalf Standing). z.value) marks p b unplaced within)

-- none of them has an entry yet
pub marks-blank : (n : ℕ) → marks_in (replicate n unplaced) ≡ replicate n blank
marks-blank zero = refl
marks-blank (suc n) = ap (λ z. blank ∷ z) (marks-blank n)
