use Rattle.std.proofs.Common.{List, [], deque_len}
use Rattle.vlink.specs.declared.message.Message.{Message}
use Rattle.virtual_time.specs.Law.{sent, rowed}
use Rattle.reverse.specs.Rules.{rules_of}
use Rattle.process_queues.specs.Past.{Rows, IsPastOf}
use Rattle.process_queues.proofs.past.Past.undo_all.Given as goal

abbrev pub invariant-loop-event : goal.invariant-loop-event
invariant-loop-event g l = record {
  left : (start : _) (ms : List Message) (earlier : Rows) → IsPastOf (rules_of g.R.Reversible.plain) g.R.Reversible.is_value start ms earlier l.fn.self →
      (ns : List Message) × IsPastOf (rules_of g.R.Reversible.plain) g.R.Reversible.is_value start ns []
      (record { state = l.actor; done = l.done.items; sends = sent (rules_of g.R.Reversible.plain) start ns; rows = rowed (rules_of g.R.Reversible.plain) start ns });
  some : (start : _) × (ms : List Message) × (earlier : Rows) × IsPastOf (rules_of g.R.Reversible.plain) g.R.Reversible.is_value start ms earlier l.fn.self;
}

abbrev pub decreases-loop-event : goal.decreases-loop-event
decreases-loop-event g l = deque_len l.done
