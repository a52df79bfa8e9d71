-- Which frames a port starts, and how far apart.
use Rattle.std.specs.Prelude.{◌≡◌, ℕ, ◌+◌, ◌≤◌, Bool, true, List, [], ◌∷◌, ⊤}
use Rattle.port_bounds.specs.Frames.{PutFrame}
use Rattle.port_bounds.specs.Sublists.{Every}
use Rattle.port_bounds.specs.Port.{Event, IsServed, Start, high_starts, highs_of, idle, low_starts, lows_of, starts_of}

-- each frame starts once the one before it, and the gap, have left: the first at t or later
abbrev pub AreApart : ℕ → List Start → Type 0
AreApart t [] = ⊤
AreApart t (s ∷ ss) = (t ≤ s.at) × AreApart (s.at + s.put.cost) ss

abbrev pub AreStartsApart : Type 0
AreStartsApart = (es : List Event) → IsServed idle 0 es → AreApart 0 (starts_of idle es)

-- each frame that starts was put, with its priority: what a test says of each frame put it says of each that starts
abbrev pub AllPass : (PutFrame → Bool) → List PutFrame → Type 0
AllPass test xs = Every (λ x. test x ≡ true) xs

abbrev pub AllStartsPass : (PutFrame → Bool) → List Start → Type 0
AllStartsPass test ss = Every (λ s. test s.put ≡ true) ss

abbrev pub AreHighStartsPut : Type 0
AreHighStartsPut = (test : PutFrame → Bool) (es : List Event) → AllPass test (highs_of es) → AllStartsPass test (high_starts idle es)

abbrev pub AreLowStartsPut : Type 0
AreLowStartsPut = (test : PutFrame → Bool) (es : List Event) → AllPass test (lows_of es) → AllStartsPass test (low_starts idle es)
