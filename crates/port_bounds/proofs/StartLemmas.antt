-- Which frames a port starts, and how far apart.
use Rattle.std.proofs.Common.{◌≡◌, ℕ, ◌+◌, ◌≤◌, List, [], ◌∷◌, ◌++◌, Option, Some, None, arith}
use Rattle.std.specs.Prelude.{⊤}
use Rattle.port_bounds.specs.Frames.{PutFrame}
use Rattle.port_bounds.specs.Sublists.{Every}
use Rattle.port_bounds.specs.Port.{Event, IsServed, Port, Start, after, high_starts, highs_of, idle, low_starts, lows_of, outcome, starts_of}
use Rattle.port_bounds.specs.Port.Event.{High, Low, Free}
use Rattle.port_bounds.specs.Starts.{AreApart}
use Rattle.port_bounds.proofs.FrameLemmas.{none_some}
use Rattle.port_bounds.proofs.SublistLemmas.{every-append, every-push, every-split, every-true}

abbrev pub OfStart : (PutFrame → Type 0) → Start → Type 0
OfStart P s = P s.put

-- where H holds of each high frame that waits or is put, and L of each low one, they hold of those that start and of those that wait then
module _ (H L : PutFrame → Type 0) where
  abbrev OfPort : Port → List Event → Type 0
  OfPort p es = Every (OfStart H) (high_starts p es) × Every (OfStart L) (low_starts p es) × Every H (after p es).high × Every L (after p es).low

  pub of-port : (es : List Event) (until : Option ℕ) (high low : List PutFrame) → Every H high → Every L low → Every H (highs_of es) → Every L (lows_of es) →
      OfPort (record { until = until; high = high; low = low }) es
  of-port [] until high low h l a b = (tt, tt, h, l)
  of-port (High x ∷ es) None high low h l a b = let r = of-port es (Some (x.at + x.cost)) high low h l a.1 b in ((a.0, r.0), r.1, r.2, r.3)
  of-port (High x ∷ es) (Some u) high low h l a b = of-port es (Some u) (high ++ x ∷ []) low (every-push H high x h a.0) l a.1 b
  of-port (Low x ∷ es) None high low h l a b = let r = of-port es (Some (x.at + x.cost)) high low h l a b.1 in (r.0, (b.0, r.1), r.2, r.3)
  of-port (Low x ∷ es) (Some u) high low h l a b = of-port es (Some u) high (low ++ x ∷ []) h (every-push L low x l b.0) a b.1
  of-port (Free t ∷ es) until (x ∷ high) low h l a b = let r = of-port es (Some (t + x.cost)) high low h.1 l a b in ((h.0, r.0), r.1, r.2, r.3)
  of-port (Free t ∷ es) until [] (x ∷ low) h l a b = let r = of-port es (Some (t + x.cost)) [] low tt l.1 a b in (r.0, (l.0, r.1), r.2, r.3)
  of-port (Free t ∷ es) until [] [] h l a b = of-port es None [] [] tt tt a b

-- of an idle port, by the frames that are put
module _ (P : PutFrame → Type 0) (es : List Event) where
  pub high-put : Every P (highs_of es) → Every (OfStart P) (high_starts idle es)
  high-put h = (of-port P (λ x. ⊤) es None [] [] tt tt h (every-true (lows_of es))).0

  pub low-put : Every P (lows_of es) → Every (OfStart P) (low_starts idle es)
  low-put h = (of-port (λ x. ⊤) P es None [] [] tt tt (every-true (highs_of es)) h).1

-- what holds of each high start and of each low one holds of all
pub starts-both : (P : Start → Type 0) (a : Port) (es : List Event) → Every P (high_starts a es) → Every P (low_starts a es) → Every P (starts_of a es)
starts-both P a [] h l = tt
starts-both P a (e ∷ es) h l =
    let highs = every-split P (outcome a e).high (high_starts (outcome a e).port es) h in
    let lows = every-split P (outcome a e).low (low_starts (outcome a e).port es) l in
    every-append P ((outcome a e).high ++ (outcome a e).low) (starts_of (outcome a e).port es) (every-append P (outcome a e).high (outcome a e).low highs.0 lows.0) (starts-both P (outcome a e).port es highs.1 lows.1)

apart-sooner : (t u : ℕ) (ss : List Start) → t ≤ u → AreApart u ss → AreApart t ss
apart-sooner t u [] l h = tt
apart-sooner t u (s ∷ ss) l h = (omega (arith, h.0), h.1)

-- no frame starts before a busy line is free, or before now
abbrev from : ℕ → Option ℕ → ℕ
from now None = now
from now (Some u) = u

pub apart : (es : List Event) (now : ℕ) (until : Option ℕ) (high low : List PutFrame) → IsServed (record { until = until; high = high; low = low }) now es →
    AreApart (from now until) (starts_of (record { until = until; high = high; low = low }) es)
apart [] now until high low h = tt
apart (High x ∷ es) now None high low h = (h.0, apart es x.at (Some (x.at + x.cost)) high low h.2)
apart (High x ∷ es) now (Some u) high low h = apart es x.at (Some u) (high ++ x ∷ []) low h.2
apart (Low x ∷ es) now None high low h = (h.0, apart es x.at (Some (x.at + x.cost)) high low h.2)
apart (Low x ∷ es) now (Some u) high low h = apart es x.at (Some u) high (low ++ x ∷ []) h.2
apart (Free t ∷ es) now None high low h = absurd (none_some t h.1)
apart (Free t ∷ es) now (Some u) (x ∷ high) low h = let e : u ≡ t = let s = h.1 in cc in (omega arith, apart es t (Some (t + x.cost)) high low h.2)
apart (Free t ∷ es) now (Some u) [] (x ∷ low) h = let e : u ≡ t = let s = h.1 in cc in (omega arith, apart es t (Some (t + x.cost)) [] low h.2)
apart (Free t ∷ es) now (Some u) [] [] h = let e : u ≡ t = let s = h.1 in cc in apart-sooner u t (starts_of (record { until = None; high = []; low = [] }) es) (omega arith) (apart es t None [] [] h.2)
