use Rattle.std.proofs.Common.{◌≤◌, length, reverse}
use Rattle.vlink.specs.declared.message.Message.{Message}
use Rattle.virtual_time.specs.Law.{Part}
use Rattle.reverse.specs.Rules.{rules_of}
use Rattle.process_queues.specs.Past.{Rows, BelongsTo, sent_since}
use Rattle.process_queues.proofs.Rolls.{Rolls}
use Rattle.process_queues.proofs.past.Past.roll_back.Given as goal

abbrev pub invariant-loop-self : goal.invariant-loop-self
invariant-loop-self g l = record {
  rolls : (opening : _) (there : Rows) (part : Part Message _) → BelongsTo (rules_of g.R.Reversible.plain) g.R.Reversible.is_value opening there part l.initial.self →
      Rolls (rules_of g.R.Reversible.plain) g.R.Reversible.is_value opening there l.message (record part { outbox = l.initial.outbox.letters }) l.self l.outbox.letters;
  some : (opening : _) × (there : Rows) × (part : Part Message _) × BelongsTo (rules_of g.R.Reversible.plain) g.R.Reversible.is_value opening there part l.initial.self;
  room : sent_since l.message (reverse l.self.done) ≤ l.outbox.room;
  fewer : length l.self.done ≤ length l.initial.self.done;
}

abbrev pub decreases-loop-self : goal.decreases-loop-self
decreases-loop-self g l = length l.self.done
