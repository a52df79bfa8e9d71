-- Why a regulator holds a frame no longer than jitter and BAG are beyond the period.
use Rattle.std.proofs.Common.{ℕ, ◌+◌, ◌-◌, ◌≤◌, max, List, [], ◌∷◌, Some, None, arith}
use Rattle.port_bounds.specs.Waits.{Offer, AreOffered, AreReleasedWithin}

-- a release is at most the jitter behind what was due
held : (bag period jitter first last : ℕ) (os : List Offer) → bag ≤ period → last + period ≤ first + jitter → AreOffered period jitter first os → AreReleasedWithin bag (jitter + bag - period) (Some last) os
held bag period jitter first last [] b l h = tt
held bag period jitter first last (o ∷ os) b l h =
    let c = h.0 in let d = h.1 in let e = h.2 in
    (omega arith, held bag period jitter (o.due + period) (max o.at (last + bag)) os b (omega arith) h.3)

pub waits : (bag period jitter : ℕ) (os : List Offer) → bag ≤ period → AreOffered period jitter 0 os → AreReleasedWithin bag (jitter + bag - period) None os
waits bag period jitter [] b h = tt
waits bag period jitter (o ∷ os) b h = let e = h.2 in (omega arith, held bag period jitter (o.due + period) o.at os b (omega arith) h.3)
