-- No frame starts before it is put.
use Rattle.std.proofs.Common.{ℕ, ◌+◌, ◌≤◌, List, [], ◌∷◌, ◌++◌, Option, Some, None, arith}
use Rattle.port_bounds.specs.Frames.{PutFrame}
use Rattle.port_bounds.specs.Sublists.{Every}
use Rattle.port_bounds.specs.Port.{Event, IsServed, Start, high_starts, idle, low_starts}
use Rattle.port_bounds.specs.Port.Event.{High, Low, Free}
use Rattle.port_bounds.proofs.FrameLemmas.{none_some}
use Rattle.port_bounds.proofs.SublistLemmas.{every-push, every-weaker}

abbrev pub IsInOrder : Start → Type 0
IsInOrder s = s.put.at ≤ s.at

abbrev ByNow : ℕ → List PutFrame → Type 0
ByNow now xs = Every (λ x. x.at ≤ now) xs

by-later : (now t : ℕ) (xs : List PutFrame) → now ≤ t → ByNow now xs → ByNow t xs
by-later now t xs l h = every-weaker (λ x. x.at ≤ now) (λ x. x.at ≤ t) (λ x k. omega arith) xs h

pub in-order : (es : List Event) (now : ℕ) (until : Option ℕ) (high low : List PutFrame) → ByNow now high → ByNow now low → IsServed (record { until = until; high = high; low = low }) now es →
    Every IsInOrder (high_starts (record { until = until; high = high; low = low }) es) × Every IsInOrder (low_starts (record { until = until; high = high; low = low }) es)
in-order [] now until high low h l s = (tt, tt)
in-order (High x ∷ es) now None high low h l s =
    let r = in-order es x.at (Some (x.at + x.cost)) high low (by-later now x.at high s.0 h) (by-later now x.at low s.0 l) s.2 in ((omega arith, r.0), r.1)
in-order (High x ∷ es) now (Some u) high low h l s =
    in-order es x.at (Some u) (high ++ x ∷ []) low (every-push (λ y. y.at ≤ x.at) high x (by-later now x.at high s.0 h) (omega arith)) (by-later now x.at low s.0 l) s.2
in-order (Low x ∷ es) now None high low h l s =
    let r = in-order es x.at (Some (x.at + x.cost)) high low (by-later now x.at high s.0 h) (by-later now x.at low s.0 l) s.2 in (r.0, (omega arith, r.1))
in-order (Low x ∷ es) now (Some u) high low h l s =
    in-order es x.at (Some u) high (low ++ x ∷ []) (by-later now x.at high s.0 h) (every-push (λ y. y.at ≤ x.at) low x (by-later now x.at low s.0 l) (omega arith)) s.2
in-order (Free t ∷ es) now None high low h l s = absurd (none_some t s.1)
in-order (Free t ∷ es) now (Some u) (x ∷ high) low h l s =
    let r = in-order es t (Some (t + x.cost)) high low (by-later now t high s.0 h.1) (by-later now t low s.0 l) s.2 in ((omega (arith, s.0, h.0), r.0), r.1)
in-order (Free t ∷ es) now (Some u) [] (x ∷ low) h l s =
    let r = in-order es t (Some (t + x.cost)) [] low tt (by-later now t low s.0 l.1) s.2 in (r.0, (omega (arith, s.0, l.0), r.1))
in-order (Free t ∷ es) now (Some u) [] [] h l s = in-order es t None [] [] tt tt s.2

pub idle-in-order : (es : List Event) → IsServed idle 0 es → Every IsInOrder (high_starts idle es) × Every IsInOrder (low_starts idle es)
idle-in-order es s = in-order es 0 None [] [] tt tt s
