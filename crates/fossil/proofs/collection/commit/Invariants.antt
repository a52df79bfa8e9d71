use Rattle.std.proofs.Common.{◌≡◌, ◌+◌, ◌≤◌}
use Rattle.reverse.specs.Rules.{rules_of}
use Rattle.process_queues.specs.Queues.{Does}
use Rattle.fossil.specs.Committed.{committed_times}
use Rattle.fossil.proofs.collection.commit.Given as goal

abbrev pub invariant-loop-committed : goal.invariant-loop-committed
invariant-loop-committed g l = record {
  committed : Does (rules_of g.R.Reversible.plain) g.R.Reversible.is_value
      (λ opening. committed_times (rules_of g.R.Reversible.plain) l.committed) l.fn.process.queues l.process.queues;
  room : l.count ≤ l.process.committed_room + l.committed;
  none : l.committed ≡ 0 → l.process.queues ≡ l.fn.process.queues;
  tray : l.process.queues.tray ≡ l.fn.process.queues.tray;
  left : l.process.queues.left ≡ l.fn.process.queues.left;
  outbox : l.process.queues.outbox ≡ l.fn.process.queues.outbox;
}
