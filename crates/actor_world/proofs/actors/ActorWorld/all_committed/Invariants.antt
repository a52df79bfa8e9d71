use Rattle.std.proofs.Common.{◌<◌, ℕ, get_or}
use Rattle.reverse.specs.Rules.{rules_of}
use Rattle.process_queues.specs.Queues.{InHand}
use Rattle.actor_world.proofs.Reading.{HasNoneDone}
use Rattle.actor_world.proofs.actors.ActorWorld.all_committed.Given as goal

abbrev pub invariant-loop-process : goal.invariant-loop-process
invariant-loop-process g l =
    (k : ℕ) (d : InHand g.row.R.Denot g.row.R-Record.Denot) → k < l.process-index →
    HasNoneDone (rules_of g.R.Reversible.plain) g.R.Reversible.is_value (get_or l.process-items k d).queues
