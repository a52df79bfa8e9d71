-- Over any list of events, the frames of one priority start in the order in which they were kept.
use Rattle.std.proofs.Common.{◌≡◌, ℕ, Bool, true, false, cond, List, [], ◌∷◌, ◌++◌, refl, sym, ap, ◌∙◌, append_assoc, append-nil}
use Rattle.vlink.specs.declared.frame.Frame.{Frame}
use Rattle.output_port.specs.declared.event.Priority.{Priority}
use Rattle.output_port.specs.declared.event.Priority.TheVariants.{High, Low}
use Rattle.output_port.specs.declared.event.PortEvent.{PortEvent}
use Rattle.output_port.specs.declared.event.PortEvent.TheVariants.{Put, Free}
use Rattle.output_port.specs.Port.{PortState, Outcome, port, waiting, keeping, dropping, still_idle, at_once, may_wait, next}
use Rattle.output_port.specs.StrictPriority.{kept_frame, started_frame, kept_frames, started_frames, reached}

-- what waited of a priority, and what this outcome of the event keeps, is what it starts and what waits then
IsOrdered : Priority → PortState → PortEvent → Outcome → Type 0
IsOrdered priority p e o =
    waiting priority p ++ kept_frame e o.answer priority ≡ started_frame e o.answer priority p.high ++ waiting priority o.state

keeping-ordered : (priority : Priority) (p : PortState) (frame : Frame) (to : Priority) → IsOrdered priority p (Put frame to) (keeping p frame to)
unfolding IsOrdered
keeping-ordered High p frame High = refl
keeping-ordered High p frame Low = append-nil p.high
keeping-ordered Low p frame High = append-nil p.low
keeping-ordered Low p frame Low = refl

dropping-ordered : (priority : Priority) (p : PortState) (frame : Frame) (to : Priority) → IsOrdered priority p (Put frame to) (dropping p)
unfolding IsOrdered
dropping-ordered High p frame High = append-nil p.high
dropping-ordered High p frame Low = append-nil p.high
dropping-ordered Low p frame High = append-nil p.low
dropping-ordered Low p frame Low = append-nil p.low

at_once-ordered : (priority : Priority) (p : PortState) (frame : Frame) (to : Priority) → IsOrdered priority p (Put frame to) (at_once p frame)
unfolding IsOrdered
at_once-ordered High p frame High = append-nil p.high
at_once-ordered High p frame Low = append-nil p.high
at_once-ordered Low p frame High = append-nil p.low
at_once-ordered Low p frame Low = append-nil p.low

nothing-ordered : (priority : Priority) (p : PortState) → IsOrdered priority p Free (still_idle p)
unfolding IsOrdered
nothing-ordered High p = append-nil p.high
nothing-ordered Low p = append-nil p.low

state : Bool → List Frame → List Frame → ℕ → PortState
state busy high low bytes = record { busy = busy; high = high; low = low; bytes = bytes }

next-ordered : (priority : Priority) (busy : Bool) (high low : List Frame) (bytes : ℕ) →
    IsOrdered priority (state busy high low bytes) Free (next (state busy high low bytes) high low)
unfolding IsOrdered state
next-ordered High busy (x ∷ xs) low bytes = append-nil (x ∷ xs)
next-ordered High busy [] (x ∷ xs) bytes = refl
next-ordered High busy [] [] bytes = refl
next-ordered Low busy (x ∷ xs) low bytes = append-nil low
next-ordered Low busy [] (x ∷ xs) bytes = append-nil (x ∷ xs)
next-ordered Low busy [] [] bytes = refl

event-ordered : (priority : Priority) (p : PortState) (e : PortEvent) →
    waiting priority p ++ kept_frame e (port.out p e) priority ≡ started_frame e (port.out p e) priority p.high ++ waiting priority (port.after p e)
unfolding IsOrdered state
event-ordered priority p (Put frame to) = go p.busy
  where
    wait : (b : Bool) → IsOrdered priority p (Put frame to) (cond b (keeping p frame to) (dropping p))
    wait true = keeping-ordered priority p frame to
    wait false = dropping-ordered priority p frame to

    go : (b : Bool) → IsOrdered priority p (Put frame to) (cond b (cond (may_wait p frame) (keeping p frame to) (dropping p)) (at_once p frame))
    go true = wait (may_wait p frame)
    go false = at_once-ordered priority p frame to
event-ordered priority p Free = go p.busy
  where
    go : (b : Bool) → IsOrdered priority p Free (cond b (next p p.high p.low) (still_idle p))
    go true = next-ordered priority p.busy p.high p.low p.bytes
    go false = nothing-ordered priority p

-- the frames of one priority start in the order in which they were kept
pub starts_in_order : (priority : Priority) (p : PortState) (events : List PortEvent) →
    waiting priority p ++ kept_frames priority p events ≡ started_frames priority p events ++ waiting priority (reached p events)
starts_in_order priority p [] = append-nil (waiting priority p)
starts_in_order priority p (e ∷ es) =
    let now = waiting priority p in
    let then = waiting priority (port.after p e) in
    let kept = kept_frame e (port.out p e) priority in
    let started = started_frame e (port.out p e) priority p.high in
    let more = kept_frames priority (port.after p e) es in
    let gone = started_frames priority (port.after p e) es in
    sym (append_assoc now kept more) ∙ (ap (λ ws. ws ++ more) (event-ordered priority p e) ∙ (append_assoc started then more ∙
    (ap (λ ws. started ++ ws) (starts_in_order priority (port.after p e) es) ∙ sym (append_assoc started gone (waiting priority (reached p (e ∷ es)))))))
