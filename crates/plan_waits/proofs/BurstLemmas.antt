-- Frames in bursts of so many: which burst the next frame is of, and which of its frames it is.
use Rattle.std.proofs.Common.{◌≡◌, ℕ, ◌+◌, ◌*◌, ◌/◌, ◌%◌, ◌<◌, ◌≤◌, ◌⊎◌, inl, inr, ap, ◌∙◌, arith, mod-lt}
use Rattle.std.proofs.lemmas.Bool.{cases_lt}
use Rattle.std.proofs.lemmas.Nat.{div-add-mod', div-mul-add, mod-mul-add}

-- the next frame is the next one of the burst, or the first one of the next burst
abbrev pub IsNext : ℕ → ℕ → Type 0
IsNext f n = (((n + 1) / f ≡ n / f) × ((n + 1) % f ≡ n % f + 1)) ⊎ (((n + 1) / f ≡ n / f + 1) × ((n + 1) % f ≡ 0) × (n % f + 1 ≡ f))

pub next : (f n : ℕ) → 1 ≤ f → IsNext f n
next f n some = elim (cases_lt (n % f + 1) f) [
  | inl less ↦
      (let is : n + 1 ≡ (n / f) * f + (n % f + 1) = omega (arith, whole) in
      inl (ap (λ m. m / f) is ∙ div-mul-add (n / f) f (n % f + 1) less, ap (λ m. m % f) is ∙ mod-mul-add (n / f) f (n % f + 1) less))
  | inr more ↦
      (let last : n % f + 1 ≡ f = omega (arith, more, below) in
      let is : n + 1 ≡ (n / f + 1) * f + 0 = omega (arith, whole, last) in
      inr (ap (λ m. m / f) is ∙ div-mul-add (n / f + 1) f 0 (omega (arith, some)), ap (λ m. m % f) is ∙ mod-mul-add (n / f + 1) f 0 (omega (arith, some)), last))
]
  where
    whole : (n / f) * f + n % f ≡ n
    whole = div-add-mod' n f

    below : n % f < f
    below = mod-lt n (omega (arith, some))
