-- What a port is asked to take from a regulator was held no longer than a wait.
use Rattle.std.proofs.Common.{◌≡◌, ℕ, ◌+◌, ◌≤◌, Option, Some, None, arith}
use Rattle.vlink.specs.declared.frame.Frame.{Frame}
use Rattle.bag_regulator.specs.declared.event.RegAnswer.{RegAnswer}
use Rattle.bag_regulator.specs.declared.event.RegAnswer.TheVariants as answer
use Rattle.output_port.specs.declared.event.Priority.{Priority}
use Rattle.output_port.specs.declared.event.PortEvent.{PortEvent}
use Rattle.output_port.specs.declared.event.PortEvent.TheVariants.{Put, Free}
use Rattle.port_bounds.specs.Frames.{PutFrame, link_of}
use Rattle.frame_ages.proofs.RegulatorSteps.{IsReleaseOf, OfReleased}
use Rattle.port_turns.proofs.RegulatorTurns.{LikeReleased, OfPutBy}

module _ (v wait : ℕ) where
  -- a frame of virtual link v is not held longer
  abbrev pub IsHeld : Priority → PutFrame → Type 0
  IsHeld r put = link_of put ≡ v → put.frame.released ≤ put.frame.offered + wait

  abbrev pub HeldBy : Option PortEvent → Type 0
  HeldBy o = OfPutBy v (λ frame. frame.released ≤ frame.offered + wait) o

  pub put-weaker : (P Q : Frame → Type 0) → ((frame : Frame) → P frame → Q frame) → (o : Option PortEvent) → OfPutBy v P o → OfPutBy v Q o
  put-weaker P Q h None k = tt
  put-weaker P Q h (Some Free) k = tt
  put-weaker P Q h (Some (Put frame r)) k = λ e. h frame (k e)

  none-released : (a : RegAnswer) (frame : Frame) → OfReleased (λ f. ⊥) a → LikeReleased v a frame → ⊥
  none-released (answer.Released f) frame h k = h
  none-released _ frame h k = k

  pub held-none : (a : RegAnswer) (o : Option PortEvent) → OfReleased (λ f. ⊥) a → OfPutBy v (LikeReleased v a) o → HeldBy o
  held-none a o h k = put-weaker (LikeReleased v a) (λ frame. frame.released ≤ frame.offered + wait) (λ frame l. absurd (none-released a frame h l)) o k

  one-released : (was : Frame) (t : ℕ) (a : RegAnswer) (frame : Frame) → t ≤ was.offered + wait → OfReleased (IsReleaseOf was t) a → LikeReleased v a frame → frame.released ≤ frame.offered + wait
  one-released was t (answer.Released f) frame l h k = let a = h.0 in let b = h.1 in let c = k.0 in let d = k.1 in omega arith
  one-released was t _ frame l h k = absurd k

  pub held-one : (was : Frame) (t : ℕ) (a : RegAnswer) (o : Option PortEvent) → t ≤ was.offered + wait → OfReleased (IsReleaseOf was t) a → OfPutBy v (LikeReleased v a) o → HeldBy o
  held-one was t a o l h k = put-weaker (LikeReleased v a) (λ frame. frame.released ≤ frame.offered + wait) (λ frame c. one-released was t a frame l h c) o k
