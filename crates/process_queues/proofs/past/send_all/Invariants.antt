use Rattle.std.proofs.Common.{◌≡◌, ◌+◌, ◌≤◌, ◌++◌, map, take, length, deque_len, deque_capacity}
use Rattle.virtual_time.specs.Law.{plus_of}
use Rattle.process_queues.proofs.past.send_all.Given as goal

abbrev pub invariant-loop-message : goal.invariant-loop-message
invariant-loop-message l = record {
  sent : l.sends.items ≡ l.initial.sends.items ++ take l.message-index l.messages;
  posted : l.outbox.letters ≡ l.initial.outbox.letters ++ map plus_of (take l.message-index l.messages);
  room : deque_len l.sends + length l.messages ≤ deque_capacity l.sends + l.message-index;
  outbox_room : length l.messages ≤ l.outbox.room + l.message-index;
}
