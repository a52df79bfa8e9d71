use Rattle.worker_pool.specs.Runs.{IsOfWorld}
use Rattle.worker_pool.proofs.Places.{AreBelow}
use Rattle.worker_pool.proofs.ending.Unlocked.are_of_world.Given as goal

abbrev pub invariant-loop-place : goal.invariant-loop-place
invariant-loop-place g l = AreBelow (IsOfWorld g.J.NetworkRun.plan g.J.NetworkRun.owners l.self.exchange.steps) l.self.groups.items l.place
