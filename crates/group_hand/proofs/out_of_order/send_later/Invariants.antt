use Rattle.std.proofs.Common.{◌≡◌, ◌+◌, ◌≤◌, length, map, take}
use Rattle.virtual_time.specs.Law.{plus_of}
use Rattle.group_hand.specs.Arriving.{WentOn}
use Rattle.group_hand.proofs.out_of_order.send_later.Given as goal

abbrev pub invariant-loop-place : goal.invariant-loop-place
invariant-loop-place g l = record {
  went : WentOn l.members (map plus_of (take l.place l.messages)) l.initial.letters l.letters;
  queue : l.letters.queue ≡ l.initial.letters.queue;
  extra : l.letters.extra ≡ l.initial.letters.extra;
  room : length l.messages ≤ l.letters.room + l.place;
}
