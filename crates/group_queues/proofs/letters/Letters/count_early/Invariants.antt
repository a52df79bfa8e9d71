use Rattle.std.proofs.Common.{◌≡◌, All, take}
use Rattle.group_queues.specs.DoneEvents.{messages_of, sent_in, noted_in}
use Rattle.group_queues.specs.Sealing.{CanCommit}
use Rattle.group_queues.proofs.letters.Letters.count_early.Given as goal

abbrev pub invariant-loop-count : goal.invariant-loop-count
invariant-loop-count g l = record {
  early : All (CanCommit l.moment l.self) (take l.count (messages_of l.done.events));
  sent : l.sent ≡ sent_in (take l.count l.done.events);
  noted : l.noted ≡ noted_in (take l.count l.done.events);
}
