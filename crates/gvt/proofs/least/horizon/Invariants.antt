use Rattle.std.proofs.Common.{◌≡◌, ◌+◌, take}
use Rattle.virtual_time.specs.Law.{lowest, times_of}
use Rattle.vlink.specs.Order.{message_order}
use Rattle.gvt.specs.Horizon.{all_letters}
use Rattle.gvt.proofs.least.horizon.Given as goal

abbrev pub invariant-loop-process : goal.invariant-loop-process
invariant-loop-process l =
    l.horizon ≡ lowest (lowest (l.floors.until + 1) l.floors.floors) (times_of message_order (all_letters (take l.process l.mail)))
