-- Groups that have a process, while processes are listed one after another.
use Rattle.std.proofs.Common.{◌∙◌, ◌≡◌, ◌≢◌, ◌<◌, ◌+◌, ◌++◌, ◌∷◌, ◌*◌, ◌%◌, ap, ℕ, List, [], All, Some, refl, sym, subst, arith, inl, inr}
use Rattle.std.proofs.lemmas.Bool.{cases_lt}
use Rattle.std.proofs.lemmas.Nat.{mod-mul-add}
use Rattle.std.proofs.lemmas.List.Elements.{All-pop}

-- each process is in another group
abbrev pub AreElsewhere : ℕ → List ℕ → Type 0
AreElsewhere g owners = All (λ owner. owner ≢ g) owners

pub front : (xs : List ℕ) (x g : ℕ) → AreElsewhere g (xs ++ x ∷ []) → AreElsewhere g xs
front xs x g all = (All-pop (λ owner. owner ≢ g) (xs ++ x ∷ []) xs (Some x) refl all).0

pub last : (xs : List ℕ) (x g : ℕ) → AreElsewhere g (xs ++ x ∷ []) → x ≢ g
last xs x g all = (All-pop (λ owner. owner ≢ g) (xs ++ x ∷ []) xs (Some x) refl all).1

-- where the first processes have a group each, so have those with one more, in the next group
pub one-more : (groups n x : ℕ) (xs : List ℕ) → (n < groups → x ≡ n) → ((g : ℕ) → g < groups → g < n → ¬ (AreElsewhere g xs)) →
    (g : ℕ) → g < groups → g < n + 1 → ¬ (AreElsewhere g (xs ++ x ∷ []))
one-more groups n x xs next used g within early all =
    elim (cases_lt g n) [
      | inl less ↦ used g within less (front xs x g all)
      | inr more ↦ last xs x g all (let same : g ≡ n = omega arith in next (omega arith) ∙ sym same)
    ]

-- a group more that has a process
pub next-used : (owners : List ℕ) (n : ℕ) → ((g : ℕ) → g < n → ¬ (AreElsewhere g owners)) → ¬ (AreElsewhere n owners) →
    (g : ℕ) → g < n + 1 → ¬ (AreElsewhere g owners)
next-used owners n used now g early =
    elim (cases_lt g n) [
      | inl less ↦ used g less
      | inr more ↦ (let same : n ≡ g = omega arith in subst (λ z. ¬ (AreElsewhere z owners)) same now)
    ]

pub small-mod : (n w : ℕ) → n < w → n % w ≡ n
small-mod n w less = let e : n ≡ 0 * w + n = omega arith in ap (λ z. z % w) e ∙ mod-mul-add 0 w n less
