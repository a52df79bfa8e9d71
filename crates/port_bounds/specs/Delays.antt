-- How long frames wait at a port, and how much waits, where what comes has an arrival curve.
use Rattle.std.specs.Prelude.{ℕ, ◌+◌, ◌*◌, ◌≤◌, List}
use Rattle.port_bounds.specs.Frames.{PutFrame, IsWithin, cost_of}
use Rattle.port_bounds.specs.Sublists.{Every}
use Rattle.port_bounds.specs.Port.{Event, Start, IsServed, after, high_starts, highs_of, idle, low_starts, lows_of}

-- no frame costs more than this
abbrev pub AreAtMost : ℕ → List PutFrame → Type 0
AreAtMost most xs = Every (λ x. x.cost ≤ most) xs

-- a high frame has left, with its gap, once the port has worked off the burst after it was put: (at + cost) - put.at <= burst / scale
abbrev pub IsHighInTime : ℕ → ℕ → Start → Type 0
IsHighInTime scale burst s = scale * (s.at + s.put.cost) ≤ scale * s.put.at + burst

abbrev pub AreHighInTime : ℕ → ℕ → List Start → Type 0
AreHighInTime scale burst ss = Every (IsHighInTime scale burst) ss

-- each frame has left so soon after it was put
abbrev pub AreSentWithin : ℕ → List Start → Type 0
AreSentWithin delay ss = Every (λ s. s.at + s.put.cost ≤ s.put.at + delay) ss

-- high frames wait for their burst, and for one low frame in transmission
abbrev pub AreHighBounded : Type 0
AreHighBounded =
    (scale burst rate most : ℕ) (es : List Event) → rate ≤ scale → IsServed idle 0 es → IsWithin scale burst rate (highs_of es) → AreAtMost most (lows_of es) →
    AreHighInTime scale (burst + scale * most) (high_starts idle es)

-- a low frame has started once the port has worked off the burst, less the frame's own cost, at what high frames leave of the line:
-- (scale - rate) * (at - put.at) <= burst - scale * cost, where `rate` is that of high frames
abbrev pub IsLowInTime : ℕ → ℕ → ℕ → Start → Type 0
IsLowInTime scale burst rate s = scale * (s.at + s.put.cost) + rate * s.put.at ≤ scale * s.put.at + (rate * s.at + burst)

abbrev pub AreLowInTime : ℕ → ℕ → ℕ → List Start → Type 0
AreLowInTime scale burst rate ss = Every (IsLowInTime scale burst rate) ss

-- low frames wait for both bursts
abbrev pub AreLowBounded : Type 0
AreLowBounded =
    (scale high_burst high_rate low_burst low_rate : ℕ) (es : List Event) → high_rate + low_rate ≤ scale → IsServed idle 0 es →
    IsWithin scale high_burst high_rate (highs_of es) → IsWithin scale low_burst low_rate (lows_of es) →
    AreLowInTime scale (high_burst + low_burst) high_rate (low_starts idle es)

-- no more waits than both bursts
abbrev pub IsBacklogBounded : Type 0
IsBacklogBounded =
    (scale high_burst high_rate low_burst low_rate : ℕ) (es : List Event) → high_rate + low_rate ≤ scale → IsServed idle 0 es →
    IsWithin scale high_burst high_rate (highs_of es) → IsWithin scale low_burst low_rate (lows_of es) →
    scale * (cost_of (after idle es).high + cost_of (after idle es).low) ≤ high_burst + low_burst
