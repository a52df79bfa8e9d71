use Rattle.worker_pool.proofs.EndedTables.{AreCountedOf}
use Rattle.worker_pool.proofs.ending.Unlocked.tables.Given as goal

abbrev pub invariant-loop-place : goal.invariant-loop-place
invariant-loop-place g l = AreCountedOf g.J.NetworkRun.plan g.J.NetworkRun.owners l.own.items l.end l.place l.tables
