-- What the front of a text is.
use Rattle.std.specs.Prelude.{ℕ, ◌≢◌, ◌≤◌, ◌++◌, List, [], ◌∷◌}

-- a digit other than 0 stands first
abbrev pub LeadingDigit : List ℕ → Type 0
LeadingDigit [] = ⊥
LeadingDigit (c ∷ cs) = (49 ≤ c) × (c ≤ 57)

-- no value that fits has its text at the front of this one
abbrev pub BeginsWithNone : {A : Type 0} → (A → Type 0) → (A → List ℕ) → List ℕ → Type 0
BeginsWithNone {A} fits text_of text = (x : A) (rest : List ℕ) → fits x → text ≢ text_of x ++ rest
