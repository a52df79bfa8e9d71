-- The inverse law of the output port.
use Rattle.std.proofs.Common.{◌≡◌, Bool, true, false, cond, List, [], ◌∷◌, refl, sym, ap}
use Rattle.vlink.specs.declared.frame.Frame.{Frame}
use Rattle.frame_ring.specs.Last.{without_last-push}
use Rattle.reverse.specs.Plain.{IsReversible}
use Rattle.output_port.specs.declared.event.Priority.{Priority}
use Rattle.output_port.specs.declared.event.Priority.TheVariants.{High, Low}
use Rattle.output_port.specs.declared.event.PortEvent.TheVariants.{Put, Free}
use Rattle.output_port.specs.declared.event.PortRecord.TheVariants as saved
use Rattle.output_port.specs.declared.event.PutRecord.TheVariants as of_put
use Rattle.output_port.specs.Port.{PortState, Outcome, port, put_kept, undone, keeping, dropping, still_idle, at_once, may_wait, next}

-- undoing this outcome at the state p gives p
IsUndone : PortState → Outcome → Type 0
IsUndone p o = undone o.state o.kept ≡ p

keeping-undone : (p : PortState) (frame : Frame) (priority : Priority) → IsUndone p (keeping p frame priority)
unfolding IsUndone
keeping-undone p frame High = ap (λ xs. record p { high = xs }) (without_last-push p.high frame)
keeping-undone p frame Low = ap (λ xs. record p { low = xs }) (without_last-push p.low frame)

next-undone : (p : PortState) (high low : List Frame) → p.high ≡ high → p.low ≡ low → p.busy ≡ true → IsUndone p (next p high low)
unfolding IsUndone
next-undone p (x ∷ xs) low e f b = ap (λ ys. record p { high = ys }) (sym e)
next-undone p [] (x ∷ xs) e f b = ap (λ ys. record p { low = ys }) (sym f)
next-undone p [] [] e f b = ap (λ y. record p { busy = y }) (sym b)

pub port-undoes : IsReversible port
unfolding IsUndone
port-undoes p (Put frame priority) = go p.busy refl
  where
    wait : (b : Bool) → IsUndone p (cond b (keeping p frame priority) (dropping p))
    wait true = keeping-undone p frame priority
    wait false = refl

    go : (b : Bool) → p.busy ≡ b →
        IsUndone p (cond b (cond (may_wait p frame) (keeping p frame priority) (dropping p)) (at_once p frame))
    go true e = wait (may_wait p frame)
    go false e = ap (λ y. record p { busy = y }) (sym e)
port-undoes p Free = go p.busy refl
  where
    go : (b : Bool) → p.busy ≡ b → IsUndone p (cond b (next p p.high p.low) (still_idle p))
    go true e = next-undone p p.high p.low refl refl e
    go false e = refl

-- the record of a frame put is what is kept of it
pub put-saves : (p : PortState) (frame : Frame) (priority : Priority) → port.saves p (Put frame priority) ≡ saved.Put (put_kept p frame priority)
put-saves p frame priority = go p.busy (may_wait p frame)
  where
    go : (b c : Bool) → (cond b (cond c (keeping p frame priority) (dropping p)) (at_once p frame)).kept
        ≡ saved.Put (cond b (cond c (of_put.Kept priority) of_put.Nothing) of_put.AtOnce)
    go true true = refl
    go true false = refl
    go false c = refl
