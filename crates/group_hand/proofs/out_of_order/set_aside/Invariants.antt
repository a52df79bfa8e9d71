use Rattle.std.proofs.Common.{List, ◌++◌, length}
use Rattle.vlink.specs.Order.{message_order}
use Rattle.group_queues.specs.DoneEvents.{DoneEvent, HasRoomFor}
use Rattle.group_hand.specs.Handling.{SetAside}
use Rattle.group_hand.proofs.out_of_order.set_aside.Given as goal

abbrev pub invariant-events : goal.invariant-events
invariant-events g l = record {
  aside : SetAside message_order l.message l.initial.done.events l.done.events l.aside.events;
  space : HasRoomFor l.done.events l.aside;
  again : (more : List (DoneEvent g.row.K.Denot)) → HasRoomFor more l.initial.done → HasRoomFor (more ++ l.aside.events) l.done;
}

abbrev pub decreases-events : goal.decreases-events
decreases-events g l = length l.done.events
