use Rattle.std.proofs.Common.{◌≡◌, ◌+◌, ◌-◌, ◌≤◌, ◌++◌, map, drop, reverse}
use Rattle.virtual_time.specs.Law.{minus_of}
use Rattle.process_steps.proofs.taking_back.take_back.Given as goal

abbrev pub invariant-loop-taken : goal.invariant-loop-taken
invariant-loop-taken l = record {
  posted : l.outbox.letters ≡ l.initial.outbox.letters ++ map minus_of (reverse (drop (l.all - l.taken) l.sends.items));
  room : l.count ≤ l.outbox.room + l.taken;
  room_left : l.initial.outbox.room ≤ l.outbox.room + l.taken;
}
