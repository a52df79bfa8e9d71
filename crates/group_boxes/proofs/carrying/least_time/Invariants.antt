use Rattle.std.proofs.Common.{◌≡◌, map, flat_map, take}
use Rattle.virtual_time.specs.Law.{lowest, times_of}
use Rattle.vlink.specs.Order.{message_order}
use Rattle.group_boxes.proofs.carrying.least_time.Given as goal

abbrev pub invariant-loop-letters : goal.invariant-loop-letters
invariant-loop-letters l = l.earliest ≡ lowest l.fn.moment (times_of message_order (flat_map (λ box. box) (map (λ x. x.items) (take l.letters-index l.boxes))))
