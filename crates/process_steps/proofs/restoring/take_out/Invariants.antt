use Rattle.std.proofs.Common.{◌≤◌, ◌++◌, List, map, drop}
use Rattle.vlink.specs.declared.message.Message.{Message}
use Rattle.virtual_time.specs.Law.{IsIn, plus_of, pluses, minuses}
use Rattle.vlink.specs.Order.{message_order}
use Rattle.vlink.specs.Letters.{Letter}
use Rattle.antimessages.specs.Counting.{HaveSameCounts}
use Rattle.process_steps.proofs.restoring.take_out.Given as goal

abbrev pub invariant-loop-taken : goal.invariant-loop-taken
invariant-loop-taken g l = (before : List Letter) →
    HaveSameCounts message_order l.initial.tally (map (λ e. plus_of e.message) (drop l.place l.done.items) ++ before) →
    ((m : Message) → IsIn message_order m (map (λ e. e.message) l.done.items) → minuses message_order m before ≤ pluses message_order m before) →
    HaveSameCounts message_order l.tally (map (λ e. plus_of e.message) (drop l.taken l.done.items) ++ before)
