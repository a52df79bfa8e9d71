-- Moments that an account, or a regulator, lets frames have.
use Rattle.std.specs.Prelude.{ℕ, ◌+◌, ◌-◌, ◌*◌, ◌≤◌, List, [], ◌∷◌, length}
use Rattle.port_bounds.specs.Sublists.{IsSublist}

-- these moments do not fall, from t on and up to u
abbrev pub AreBetween : ℕ → ℕ → List ℕ → Type 0
AreBetween t u [] = t ≤ u
AreBetween t u (a ∷ rest) = (t ≤ a) × AreBetween a u rest

-- n of these moments from t to u have n BAGs in one BAG, the jitter and u - t
pub record IsPaced (bag jitter : ℕ) (moments : List ℕ) : Type 0 where
  pub bounded : (some : List ℕ) (t u : ℕ) → IsSublist some moments → AreBetween t u some → length some * bag ≤ bag + jitter + (u - t)

-- where some of the frames are lost the others stay paced
abbrev pub AreFewerPaced : Type 0
AreFewerPaced = (bag jitter : ℕ) (some moments : List ℕ) → IsSublist some moments → IsPaced bag jitter moments → IsPaced bag jitter some
