use Rattle.worker_pool.proofs.Ended.{HasGoneBy}
use Rattle.worker_pool.proofs.Places.{AreBelow}
use Rattle.worker_pool.proofs.ending.Unlocked.have_gone_by.Given as goal

abbrev pub invariant-loop-place : goal.invariant-loop-place
invariant-loop-place g l = AreBelow (HasGoneBy l.own l.end) l.self.groups.items l.place
