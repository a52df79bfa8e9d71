use Rattle.process_queues.proofs.Passing.{err-on-ok}
use Rattle.process_queues.proofs.process.Process.reserve_letters.Goals as goal

pub invariant_of-self : goal.invariant_of-self
invariant_of-self g c = rw c.reserve.ensures.items c.self.invariant

pub invariant_of-self-2 : goal.invariant_of-self-2
invariant_of-self-2 g c = rw c.reserve.ensures.items c.self.invariant

pub returns-in_err-reserve-clause-room : goal.returns-in_err-reserve-clause-room
returns-in_err-reserve-clause-room g c = err-on-ok _ _ c.from_residual.result c.from_residual.ensures.1
