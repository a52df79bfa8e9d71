use Rattle.std.proofs.Common.{◌≡◌, take}
use Rattle.virtual_time.specs.Law.{lowest, times_of}
use Rattle.vlink.specs.Order.{message_order}
use Rattle.group_boxes.proofs.carrying.earliest_of.Given as goal

abbrev pub invariant-loop-letter : goal.invariant-loop-letter
invariant-loop-letter l = l.earliest ≡ lowest l.fn.moment (times_of message_order (take l.letter-index l.letters))
