-- The frames that are put to an output port, and how much of them may come in a stretch of time.
use Rattle.std.specs.Prelude.{◌≡◌, ℕ, ◌+◌, ◌-◌, ◌*◌, ◌≤◌, List, [], ◌∷◌, ◌++◌}
use Rattle.vlink.specs.declared.frame.Frame.{Frame}

-- a frame as it is put to a port: when, for how long it will keep the line busy (its cost), and by which line it came. Moments and costs are in ns
pub record PutFrame : Type 0 where
  pub frame : Frame
  pub at : ℕ
  pub cost : ℕ
  pub line : ℕ

-- the number of its virtual link
abbrev pub link_of : PutFrame → ℕ
link_of x = x.frame.vl.0

-- the cost of all these frames
abbrev pub cost_of : List PutFrame → ℕ
cost_of [] = 0
cost_of (x ∷ xs) = x.cost + cost_of xs

-- the moments of these frames do not fall, from t on and up to u
abbrev pub IsBetween : ℕ → ℕ → List PutFrame → Type 0
IsBetween t u [] = t ≤ u
IsBetween t u (x ∷ xs) = (t ≤ x.at) × IsBetween x.at u xs

-- these frames have an arrival curve: those that come from t to u cost together at most the burst and the rate times u - t.
-- Burst and rate are counted in units, of which a ns has `scale`
pub record IsWithin (scale burst rate : ℕ) (fs : List PutFrame) : Type 0 where
  pub bounded : (xs ys zs : List PutFrame) (t u : ℕ) → fs ≡ xs ++ (ys ++ zs) → IsBetween t u ys →
      scale * cost_of ys ≤ burst + rate * (u - t)
