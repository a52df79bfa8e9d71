use Rattle.std.proofs.Common.{◌≡◌, ◌+◌, ◌≤◌, length, map, take}
use Rattle.virtual_time.specs.Law.{minus_of}
use Rattle.group_hand.specs.Arriving.{WentOn}
use Rattle.group_hand.proofs.settling.take_back_all.Given as goal

abbrev pub invariant-loop-place : goal.invariant-loop-place
invariant-loop-place g l = record {
  went : WentOn l.members (map minus_of (take l.place l.back.items)) l.initial.letters l.letters;
  queue : l.letters.queue ≡ l.initial.letters.queue;
  extra : l.letters.extra ≡ l.initial.letters.extra;
  room : length l.back.items ≤ l.letters.room + l.place;
}
