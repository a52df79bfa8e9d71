-- How long a regulator holds frames that are offered by a period, with a jitter.
use Rattle.std.specs.Prelude.{ℕ, ◌+◌, ◌-◌, ◌≤◌, max, List, [], ◌∷◌, Option, Some, None, ⊤}

-- a frame's moment by the period, and the moment at which it is offered
pub record Offer : Type 0 where
  pub due : ℕ
  pub at : ℕ

-- the moments by the period are at least a period apart, from `first` on, and each frame is offered by the jitter later at most.
-- Where a regulator drops frames, these are the others
abbrev pub AreOffered : ℕ → ℕ → ℕ → List Offer → Type 0
AreOffered period jitter first [] = ⊤
AreOffered period jitter first (o ∷ os) = (first ≤ o.due) × (o.due ≤ o.at) × (o.at ≤ o.due + jitter) × AreOffered period jitter (o.due + period) os

-- the release of a frame offered at a, after a release at `last` if there was one
abbrev pub earliest : ℕ → Option ℕ → ℕ → ℕ
earliest bag None a = a
earliest bag (Some last) a = max a (last + bag)

-- each frame is released no later than so long after it was offered
abbrev pub AreReleasedWithin : ℕ → ℕ → Option ℕ → List Offer → Type 0
AreReleasedWithin bag wait last [] = ⊤
AreReleasedWithin bag wait last (o ∷ os) = (earliest bag last o.at ≤ o.at + wait) × AreReleasedWithin bag wait (Some (earliest bag last o.at)) os

-- where the period is at least the BAG, frames wait for what jitter and BAG are beyond the period
abbrev pub AreWaitsBounded : Type 0
AreWaitsBounded = (bag period jitter : ℕ) (os : List Offer) → bag ≤ period → AreOffered period jitter 0 os → AreReleasedWithin bag (jitter + bag - period) None os
