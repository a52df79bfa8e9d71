-- No event makes more bytes wait than may.
use Rattle.std.proofs.Common.{Bool, true, false, cond, ◌≡◌, ℕ, ◌+◌, ◌≤◌, ◌++◌, List, [], ◌∷◌, refl, ap, ◌∙◌, arith, leb-true}
use Rattle.std.proofs.lemmas.List.Sums.{sum_by-cons, sum_by-append}
use Rattle.vlink.specs.declared.frame.Frame.{Frame}
use Rattle.frame_ring.specs.Queue.{bytes_of}
use Rattle.output_port.specs.declared.event.Priority.{Priority}
use Rattle.output_port.specs.declared.event.Priority.TheVariants.{High, Low}
use Rattle.output_port.specs.declared.event.PortEvent.{PortEvent}
use Rattle.output_port.specs.declared.event.PortEvent.TheVariants.{Put, Free}
use Rattle.output_port.specs.Port.{PortState, port, waiting_bytes, IsWithinBytes, keeping, dropping, still_idle, at_once, may_wait, next}

bytes_of-cons : (frame : Frame) (frames : List Frame) → bytes_of (frame ∷ frames) ≡ frame.size + bytes_of frames
bytes_of-cons frame frames = sum_by-cons (λ (f : Frame). f.size) frame frames

bytes_of-push : (frames : List Frame) (frame : Frame) → bytes_of (frames ++ frame ∷ []) ≡ bytes_of frames + frame.size
bytes_of-push frames frame = sum_by-append (λ (f : Frame). f.size) frames (frame ∷ []) ∙ ap (λ n. bytes_of frames + n) (omega (arith, bytes_of-cons frame []))

-- a frame that may wait leaves the bytes that wait within their limit
keeping-within : (p : PortState) (frame : Frame) (to : Priority) → waiting_bytes p + frame.size ≤ p.bytes → IsWithinBytes (keeping p frame to).state
keeping-within p frame High fits = omega (arith, bytes_of-push p.high frame)
keeping-within p frame Low fits = omega (arith, bytes_of-push p.low frame)

next-within : (busy : Bool) (high low : List Frame) (bytes : ℕ) → bytes_of high + bytes_of low ≤ bytes →
    IsWithinBytes (next (record { busy = busy; high = high; low = low; bytes = bytes }) high low).state
next-within busy (x ∷ xs) low bytes within = omega (arith, bytes_of-cons x xs)
next-within busy [] (x ∷ xs) bytes within = omega (arith, bytes_of-cons x xs)
next-within busy [] [] bytes within = within

-- no event makes more bytes wait than may
pub stays_within : (p : PortState) (e : PortEvent) → IsWithinBytes p → IsWithinBytes (port.after p e)
stays_within p (Put frame to) within = go p.busy
  where
    wait : (b : Bool) → may_wait p frame ≡ b → IsWithinBytes (cond b (keeping p frame to) (dropping p)).state
    wait true fits = keeping-within p frame to (leb-true _ _ fits)
    wait false fits = within

    go : (b : Bool) → IsWithinBytes (cond b (cond (may_wait p frame) (keeping p frame to) (dropping p)) (at_once p frame)).state
    go true = wait (may_wait p frame) refl
    go false = within
stays_within p Free within = go p.busy
  where
    go : (b : Bool) → IsWithinBytes (cond b (next p p.high p.low) (still_idle p)).state
    go true = next-within p.busy p.high p.low p.bytes within
    go false = within
