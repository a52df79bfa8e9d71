use Rattle.std.proofs.Common.{◌≡◌, take}
use Rattle.virtual_time.specs.Law.{lowest, times_of}
use Rattle.vlink.specs.Order.{message_order}
use Rattle.group_queues.proofs.handing.earliest_in.Given as goal

abbrev pub invariant-loop-place : goal.invariant-loop-place
invariant-loop-place l = l.earliest ≡ lowest l.fn.moment (times_of message_order (take l.place l.letters.items))
