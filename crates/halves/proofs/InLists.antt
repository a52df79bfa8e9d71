-- The halves of values, in lists.
use Rattle.std.proofs.Common.{◌≡◌, ℕ, suc, ◌+◌, ◌<◌, List, map, set, drop, length, slice_index, get_or, sym, ap, ◌∙◌, arith, remove, length-drop, drop-cons}
use Rattle.std.proofs.lemmas.List.{map-set, get_or-map, length-map, drop-map}
use Rattle.std.proofs.Math.Seq.{map-set_same}
use Rattle.halves.specs.declared.LeftHalf.{LeftHalf}
use Rattle.halves.specs.declared.RightHalf.{RightHalf}

module _ {X : Type 0} (marks : List (LeftHalf X)) (n p : ℕ) (is : n ≡ p) where
  -- another mark is there, of the same name
  pub names-set : (b c : LeftHalf X) → b ≡ get_or marks n b → c.name ≡ b.name → map (λ b. b.name) (set marks n c) ≡ map (λ b. b.name) marks
  names-set b c at same = map-set_same (λ (z : LeftHalf X). z.name) marks n c b (same ∙ ap (λ z. z.name) at)

  pub values-set : (c : LeftHalf X) (m : X) → c.value ≡ m → map (λ b. b.value) (set marks n c) ≡ set (map (λ b. b.value) marks) p m
  values-set c m tells = map-set (λ (z : LeftHalf X). z.value) marks n c ∙ (λ i. set (map (λ b. b.value) marks) (is i) (tells i))

-- there is a half for the mark of each process
pub half-within : {X : Type 0} {n p : ℕ} (marks : List (LeftHalf X)) → length (map (λ (b : LeftHalf X). b.value) marks) ≡ n → p < n → p < length marks
half-within {X = X} marks count i = let e = length-map marks (λ (b : LeftHalf X). b.value) in omega arith

-- the marks that are left when those before place i have gone
module _ {X : Type 0} (names : List ℕ) (marks : List (RightHalf X)) (i : ℕ) (left : map (λ s. s.name) marks ≡ drop i names) (within : i < length names) where
  pub some-left : 0 < length marks
  some-left = omega (arith, length-map marks (λ (z : RightHalf X). z.name), ap length left, length-drop i names)

  pub first-name : (s : RightHalf X) → s ≡ get_or marks 0 s → s.name ≡ slice_index names i
  first-name s at =
      ap (λ z. z.name) at ∙ (sym (get_or-map (λ (z : RightHalf X). z.name) marks 0 s 0 some-left) ∙
      (ap (λ ns. get_or ns 0 0) left ∙ ap (λ ns. get_or ns 0 0) (drop-cons names i 0 within)))

  pub names-left : (rest : List (RightHalf X)) → rest ≡ remove marks 0 → map (λ s. s.name) rest ≡ drop (i + 1) names
  names-left rest gone =
      ap (map (λ (z : RightHalf X). z.name)) gone ∙ (sym (drop-map (λ (z : RightHalf X). z.name) 1 marks) ∙
      (ap (drop 1) left ∙ (ap (drop 1) (drop-cons names i 0 within) ∙ ap (λ n. drop n names) (let e : suc i ≡ i + 1 = omega arith in e))))
