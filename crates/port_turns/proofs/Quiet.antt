-- An end system sends nothing for a frame that it receives, nor for one that its regulator drops.
use Rattle.std.proofs.Common.{ℕ, refl}
use Rattle.vlink.specs.declared.frame.Frame.{Frame}
use Rattle.vlink.specs.declared.note.Cause.TheVariants as cause
use Rattle.bag_regulator.specs.declared.event.RegEvent.{RegEvent}
use Rattle.bag_regulator.specs.declared.event.RegEvent.TheVariants.{Offer}
use Rattle.bag_regulator.specs.declared.event.RegAnswer.{RegAnswer}
use Rattle.bag_regulator.specs.declared.event.RegAnswer.TheVariants as answer
use Rattle.integrity.specs.Integrity.{integrity}
use Rattle.integrity.specs.declared.checking.Checked.{Checked}
use Rattle.integrity.specs.declared.checking.Checked.TheVariants as check
use Rattle.redundancy.specs.Redundancy.{redundancy}
use Rattle.redundancy.specs.declared.delivery.Delivery.{Delivery}
use Rattle.redundancy.specs.declared.delivery.Delivery.TheVariants as delivery
use Rattle.nodes.specs.declared.receiving.Receiving.{Receiving}
use Rattle.nodes.specs.rules.EndSystem.{check_of, checked, delivered, full, received_reply}
use Rattle.nodes.specs.laws.Replies.{IsQuiet, loss-quiet, silent-quiet}

pub received-quiet : (t : ℕ) (frame : Frame) (r : Receiving) → IsQuiet (received_reply t frame r)
received-quiet t frame r = go (integrity.out (check_of frame.net r) frame.number)
  where
    by-delivery : (d : Delivery) → IsQuiet (delivered t frame d)
    by-delivery delivery.Delivered = refl
    by-delivery delivery.Duplicate = loss-quiet cause.Duplicate frame

    go : (c : Checked) → IsQuiet (checked t frame r c)
    go check.Passed = by-delivery (redundancy.out r.redundancy (record { number = frame.number; at = t }))
    go check.Refused = loss-quiet cause.Integrity frame

pub full-quiet : (e : RegEvent) (a : RegAnswer) → IsQuiet (full e a)
full-quiet (Offer at sub frame) answer.Dropped = loss-quiet cause.QueueFull frame
full-quiet _ _ = silent-quiet
