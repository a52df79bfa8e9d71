use Rattle.std.proofs.Common.{◌≡◌, ◌+◌, ◌-◌, take, reverse}
use Rattle.process_queues.specs.Past.{sent_since}
use Rattle.process_queues.proofs.past.Past.sent_since.Given as goal

abbrev pub invariant-loop-undone : goal.invariant-loop-undone
invariant-loop-undone g l = l.sent + sent_since l.message (reverse (take (l.events - l.undone) l.self.done)) ≡ sent_since l.message (reverse l.self.done)
