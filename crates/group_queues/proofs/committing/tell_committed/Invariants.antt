use Rattle.std.proofs.Common.{◌≡◌, ◌+◌, ◌≤◌, ◌++◌, take}
use Rattle.group_queues.specs.Sealing.{words_of}
use Rattle.group_queues.proofs.committing.tell_committed.Given as goal

abbrev pub invariant-loop-place : goal.invariant-loop-place
invariant-loop-place g l = record {
  words : l.block.words ≡ l.initial.block.words ++ words_of (take l.place l.done.events);
  keeps : l.block.keeps ≡ l.initial.block.keeps;
  room : l.count ≤ l.block.room + l.place;
}
