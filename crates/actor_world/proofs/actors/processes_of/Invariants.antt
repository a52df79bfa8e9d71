use Rattle.std.proofs.Common.{map}
use Rattle.reverse.specs.Rules.{rules_of}
use Rattle.process_queues.specs.Queues.{InHand}
use Rattle.actor_world.specs.Worlds.{AreOpened}
use Rattle.actor_world.proofs.actors.processes_of.Given as goal

abbrev pub invariant-loop-actor : goal.invariant-loop-actor
invariant-loop-actor g l = record {
  can : (goal.iterator-loop-actor g).can_next l.actor-iterator;
  ends : (goal.iterator-loop-actor g).is_finite l.actor-iterator;
  made : AreOpened (rules_of g.R.Reversible.plain) g.R.Reversible.is_value l.yielded (map (λ (process : InHand g.row.R.Denot g.row.R-Record.Denot). process.queues) l.processes.items);
}
