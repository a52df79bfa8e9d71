use Rattle.std.proofs.Common.{◌+◌, ◌≤◌, length, drop}
use Rattle.reverse.specs.Rules.{rules_of}
use Rattle.group_hand.specs.Passing.{GoesOn}
use Rattle.group_hand.proofs.members.send_all.Given as goal

abbrev pub invariant-loop-place : goal.invariant-loop-place
invariant-loop-place g l = record {
  went : GoesOn (rules_of g.R.Reversible.plain) g.R.Reversible.is_value l.members l.messages l.initial.letters l.messages l.letters (drop l.place l.messages);
  room : length l.messages ≤ l.letters.room + l.place;
}
