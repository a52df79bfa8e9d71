use Rattle.process_queues.proofs.Passing.{err-on-ok}
use Rattle.process_queues.proofs.process.Process.reserve_post.Goals as goal

pub returns-in_err-reserve-clause-room : goal.returns-in_err-reserve-clause-room
returns-in_err-reserve-clause-room g c = err-on-ok _ _ c.from_residual.result c.from_residual.ensures.1
