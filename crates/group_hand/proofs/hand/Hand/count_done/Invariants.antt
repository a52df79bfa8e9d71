use Rattle.std.proofs.Common.{length}
use Rattle.reverse.specs.Rules.{rules_of}
use Rattle.group_hand.proofs.FrontWaits.{CountedBeside}
use Rattle.group_hand.proofs.hand.Hand.count_done.Given as goal

abbrev pub invariant-messages : goal.invariant-messages
invariant-messages g l = CountedBeside (rules_of g.R.Reversible.plain) g.R.Reversible.is_value l.initial.self l.self

abbrev pub decreases-messages : goal.decreases-messages
decreases-messages g l = length l.self.flow.queue
