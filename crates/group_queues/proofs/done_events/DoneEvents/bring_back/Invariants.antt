use Rattle.std.proofs.Common.{◌≡◌, ◌++◌, length, reverse}
use Rattle.group_queues.specs.DoneEvents.{HasRoomFor}
use Rattle.group_queues.proofs.done_events.DoneEvents.bring_back.Given as goal

abbrev pub invariant-events : goal.invariant-events
invariant-events g l = record {
  done : l.self.events ++ reverse l.aside.events ≡ l.initial.self.events ++ reverse l.initial.aside.events;
  room : HasRoomFor l.aside.events l.self;
}

abbrev pub decreases-events : goal.decreases-events
decreases-events g l = length l.aside.events
