-- When a port is busy, and what starts then.
use Rattle.std.proofs.Common.{◌≡◌, Bool, true, false, cond, ◌⊎◌, inl, inr, List, [], ◌∷◌, refl, ap, ◌∙◌}
use Rattle.vlink.specs.declared.frame.Frame.{Frame}
use Rattle.output_port.specs.declared.event.Priority.{Priority}
use Rattle.output_port.specs.declared.event.Priority.TheVariants.{High, Low}
use Rattle.output_port.specs.declared.event.PortEvent.{PortEvent}
use Rattle.output_port.specs.declared.event.PortEvent.TheVariants.{Put, Free}
use Rattle.output_port.specs.declared.event.PortAnswer.TheVariants.{Started, Kept, Dropped}
use Rattle.output_port.specs.Port.{PortState, Outcome, port, keeping, dropping, still_idle, at_once, may_wait, next}
use Rattle.output_port.specs.StrictPriority.{StartsNothing, IsWorkConserving}

-- the outcome starts nothing, and the port is busy after it
StaysOn : Outcome → Type 0
StaysOn o = ((o.answer ≡ Kept) ⊎ (o.answer ≡ Dropped)) × (o.state.busy ≡ true)

keeping-stays_on : (p : PortState) (frame : Frame) (to : Priority) → p.busy ≡ true → StaysOn (keeping p frame to)
unfolding StaysOn
keeping-stays_on p frame High busy = (inl refl, busy)
keeping-stays_on p frame Low busy = (inl refl, busy)

-- a frame put to a busy port starts nothing
pub put_starts_nothing : (p : PortState) (frame : Frame) (priority : Priority) → p.busy ≡ true → StartsNothing p (Put frame priority)
unfolding StaysOn
put_starts_nothing p frame priority busy = record { answer = (starts p.busy busy).0; stays_busy = (starts p.busy busy).1 }
  where
    wait : (b : Bool) → StaysOn (cond b (keeping p frame priority) (dropping p))
    wait true = keeping-stays_on p frame priority busy
    wait false = (inr refl, busy)

    starts : (b : Bool) → b ≡ true → StaysOn (cond b (cond (may_wait p frame) (keeping p frame priority) (dropping p)) (at_once p frame))
    starts true e = wait (may_wait p frame)
    starts false e = cc

-- the first high frame starts
pub high_starts_first : (p : PortState) (frame : Frame) (rest : List Frame) → p.busy ≡ true → p.high ≡ frame ∷ rest → port.out p Free ≡ Started frame
high_starts_first p frame rest busy high =
    ap (λ b. (cond b (next p p.high p.low) (still_idle p)).answer) busy ∙ ap (λ frames. (next p frames p.low).answer) high

next-works_on : (p : PortState) (high low : List Frame) → p.high ≡ high → p.low ≡ low → p.busy ≡ true → IsWorkConserving (next p high low).state
next-works_on p (x ∷ xs) low high_is low_is busy idle = cc
next-works_on p [] (x ∷ xs) high_is low_is busy idle = cc
next-works_on p [] [] high_is low_is busy idle = (high_is, low_is)

-- no event leaves a frame waiting at an idle port
pub works_on : (p : PortState) (e : PortEvent) → IsWorkConserving p → IsWorkConserving (port.after p e)
works_on p (Put frame to) before = go p.busy refl
  where
    keep : (to : Priority) → p.busy ≡ true → IsWorkConserving (keeping p frame to).state
    keep High busy idle = cc
    keep Low busy idle = cc

    wait : (b : Bool) → p.busy ≡ true → IsWorkConserving (cond b (keeping p frame to) (dropping p)).state
    wait true busy = keep to busy
    wait false busy = before

    go : (b : Bool) → p.busy ≡ b → IsWorkConserving (cond b (cond (may_wait p frame) (keeping p frame to) (dropping p)) (at_once p frame)).state
    go true busy idle = wait (may_wait p frame) busy idle
    go false _ idle = cc
works_on p Free before = go p.busy refl
  where
    go : (b : Bool) → p.busy ≡ b → IsWorkConserving (cond b (next p p.high p.low) (still_idle p)).state
    go true busy = next-works_on p p.high p.low refl refl busy
    go false _ = before
