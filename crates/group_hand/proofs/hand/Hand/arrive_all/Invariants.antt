use Rattle.std.proofs.Common.{◌+◌, length, []}
use Rattle.reverse.specs.Rules.{rules_of}
use Rattle.group_queues.specs.Block.{AddsLetters}
use Rattle.group_hand.specs.Hands.{DoesSent}
use Rattle.group_queues.specs.DoneEvents.{sent_in}
use Rattle.group_hand.proofs.hand.Hand.arrive_all.Given as goal

abbrev pub invariant-letters : goal.invariant-letters
invariant-letters g l = DoesSent (rules_of g.R.Reversible.plain) g.R.Reversible.is_value l.initial.self [] l.self [] × AddsLetters l.initial.self.flow.words l.self.flow.words

abbrev pub decreases-letters : goal.decreases-letters
decreases-letters g l = length l.self.flow.tray + sent_in l.self.done
