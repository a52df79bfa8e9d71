use Rattle.std.proofs.Common.{◌-◌, ◌++◌, map, drop}
use Rattle.virtual_time.specs.Law.{plus_of}
use Rattle.vlink.specs.Order.{message_order}
use Rattle.antimessages.specs.Counting.{HaveSameCounts}
use Rattle.process_steps.proofs.restoring.tally_back.Given as goal

abbrev pub invariant-loop-tallied : goal.invariant-loop-tallied
invariant-loop-tallied g l = HaveSameCounts message_order l.tally (map (λ e. plus_of e.message) (drop (l.all - l.tallied) l.done.items) ++ l.initial.tally)
