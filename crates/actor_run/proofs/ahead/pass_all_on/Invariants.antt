use Rattle.std.proofs.Common.{◌≤◌, take}
use Rattle.reverse.specs.Rules.{rules_of}
use Rattle.actor_run.specs.RunningAhead.{HavePassed, is_marked}
use Rattle.actor_run.proofs.ahead.pass_all_on.Given as goal

abbrev pub invariant-loop-message : goal.invariant-loop-message
invariant-loop-message g l = record {
  passed : HavePassed (rules_of g.A.Reversible.plain) (is_marked l.ahead) l.initial.actors l.initial.waiting (take l.message-index l.messages) l.actors l.waiting;
  few : l.events ≤ l.message-index;
}
