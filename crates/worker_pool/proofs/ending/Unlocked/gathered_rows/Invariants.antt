use Rattle.worker_pool.proofs.Ended.{AreCommittedOf}
use Rattle.worker_pool.proofs.ending.Unlocked.gathered_rows.Given as goal

abbrev pub invariant-loop-place : goal.invariant-loop-place
invariant-loop-place g l = AreCommittedOf g.J.NetworkRun.plan g.J.NetworkRun.owners l.self.exchange.steps l.place l.rows.items
