use Rattle.std.proofs.Common.{◌≡◌, ◌+◌, ◌++◌, take}
use Rattle.group_queues.proofs.done_events.send_all.Given as goal

abbrev pub invariant-loop-message : goal.invariant-loop-message
invariant-loop-message l = record {
  sent : l.sends.items ≡ l.initial.sends.items ++ take l.message-index l.messages;
  room : l.sends.room + l.message-index ≡ l.initial.sends.room;
}
