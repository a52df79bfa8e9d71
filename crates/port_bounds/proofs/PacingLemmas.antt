-- Moments between two others.
use Rattle.std.proofs.Common.{ℕ, ◌≤◌, List, [], ◌∷◌, arith}
use Rattle.port_bounds.specs.Pacing.{AreBetween}

-- from a moment that is not later
pub sooner : (t a u : ℕ) (ys : List ℕ) → t ≤ a → AreBetween a u ys → AreBetween t u ys
sooner t a u [] l h = omega arith
sooner t a u (y ∷ ys) l h = (omega (arith, h.0), h.1)

pub ends : (t u : ℕ) (ys : List ℕ) → AreBetween t u ys → t ≤ u
ends t u [] h = h
ends t u (y ∷ ys) h = let r = ends y u ys h.1 in omega (arith, h.0)
