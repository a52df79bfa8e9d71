-- An output port that serves high frames before low ones and interrupts none, as plain functions that know the moments of starts.
use Rattle.std.specs.Prelude.{◌≡◌, ℕ, ◌+◌, ◌≤◌, List, [], ◌∷◌, ◌++◌, Option, Some, None, ⊤}
use Rattle.port_bounds.specs.Frames.{PutFrame}

-- the moment at which the line is free again, if it is busy; and the frames that wait
pub record Port : Type 0 where
  pub until : Option ℕ
  pub high : List PutFrame
  pub low : List PutFrame

-- a high or a low frame is put, or the line is free
pub data Event : Type 0 where
  High : (put : PutFrame) → Event
  Low : (put : PutFrame) → Event
  Free : (at : ℕ) → Event

-- a frame that was put, and when it starts
pub record Start : Type 0 where
  pub put : PutFrame
  pub at : ℕ

-- nothing is in transmission, and nothing waits
abbrev pub idle : Port
idle = record { until = None; high = []; low = [] }

-- what an event makes of a port: the port after it, and the high or the low frame that it starts
pub record Outcome : Type 0 where
  pub port : Port
  pub high : List Start
  pub low : List Start

-- the line is busy until then, and these frames wait
abbrev pub busy : ℕ → List PutFrame → List PutFrame → Port
busy until high low = record { until = Some until; high = high; low = low }

abbrev pub high_begun : ℕ → PutFrame → List PutFrame → List PutFrame → Outcome
high_begun t x high low = record { port = busy (t + x.cost) high low; high = record { put = x; at = t } ∷ []; low = [] }

abbrev pub low_begun : ℕ → PutFrame → List PutFrame → List PutFrame → Outcome
low_begun t x high low = record { port = busy (t + x.cost) high low; high = []; low = record { put = x; at = t } ∷ [] }

-- a frame that is put starts where the line is free; else it waits
abbrev pub put_high : PutFrame → Option ℕ → List PutFrame → List PutFrame → Outcome
put_high x None high low = high_begun x.at x high low
put_high x (Some u) high low = record { port = busy u (high ++ x ∷ []) low; high = []; low = [] }

abbrev pub put_low : PutFrame → Option ℕ → List PutFrame → List PutFrame → Outcome
put_low x None high low = low_begun x.at x high low
put_low x (Some u) high low = record { port = busy u high (low ++ x ∷ []); high = []; low = [] }

-- once the line is free the first high frame starts, or where none waits the first low one
abbrev pub free : ℕ → List PutFrame → List PutFrame → Outcome
free t (x ∷ high) low = high_begun t x high low
free t [] (x ∷ low) = low_begun t x [] low
free t [] [] = record { port = idle; high = []; low = [] }

abbrev pub outcome : Port → Event → Outcome
outcome p (High x) = put_high x p.until p.high p.low
outcome p (Low x) = put_low x p.until p.high p.low
outcome p (Free t) = free t p.high p.low

-- the starts of these events, from a port on, of high frames and of low ones
abbrev pub high_starts : Port → List Event → List Start
high_starts p [] = []
high_starts p (e ∷ es) = (outcome p e).high ++ high_starts (outcome p e).port es

abbrev pub low_starts : Port → List Event → List Start
low_starts p [] = []
low_starts p (e ∷ es) = (outcome p e).low ++ low_starts (outcome p e).port es

-- all of them, in their order
abbrev pub starts_of : Port → List Event → List Start
starts_of p [] = []
starts_of p (e ∷ es) = ((outcome p e).high ++ (outcome p e).low) ++ starts_of (outcome p e).port es

-- the port after these events
abbrev pub after : Port → List Event → Port
after p [] = p
after p (e ∷ es) = after (outcome p e).port es

-- the frames that are put high, and low
abbrev pub highs_of : List Event → List PutFrame
highs_of [] = []
highs_of (High x ∷ es) = x ∷ highs_of es
highs_of (Low x ∷ es) = highs_of es
highs_of (Free t ∷ es) = highs_of es

abbrev pub lows_of : List Event → List PutFrame
lows_of [] = []
lows_of (High x ∷ es) = lows_of es
lows_of (Low x ∷ es) = x ∷ lows_of es
lows_of (Free t ∷ es) = lows_of es

-- the moment is not after that, if there is one
abbrev pub IsBy : ℕ → Option ℕ → Type 0
IsBy t None = ⊤
IsBy t (Some u) = t ≤ u

-- the moments of these events do not fall, from `now` on, and the line is freed at just the moment at which the frame in transmission has left
abbrev pub IsServed : Port → ℕ → List Event → Type 0
IsServed p now [] = ⊤
IsServed p now (High x ∷ es) = (now ≤ x.at) × IsBy x.at p.until × IsServed (outcome p (High x)).port x.at es
IsServed p now (Low x ∷ es) = (now ≤ x.at) × IsBy x.at p.until × IsServed (outcome p (Low x)).port x.at es
IsServed p now (Free t ∷ es) = (now ≤ t) × (p.until ≡ Some t) × IsServed (outcome p (Free t)).port t es
