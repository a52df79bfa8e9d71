use Rattle.std.proofs.Common.{◌≡◌, ◌+◌, map, take, drop}
use Rattle.vlink.specs.Order.{message_order}
use Rattle.process_queues.specs.Committing.{committable}
use Rattle.process_queues.specs.Queues.{with_done}
use Rattle.process_queues.proofs.committing.committable_of.Given as goal

abbrev pub invariant-loop-place : goal.invariant-loop-place
invariant-loop-place g l =
    committable message_order l.moment (with_done l.tally l.events.items) (take l.most (map (λ e. e.message) l.events.items))
    ≡ l.place + committable message_order l.moment (with_done l.tally l.events.items) (drop l.place (take l.most (map (λ e. e.message) l.events.items)))
