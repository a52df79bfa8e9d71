use Rattle.std.proofs.Common.{refl, take}
use Rattle.antimessages.specs.Mailing.{letters_for}
use Rattle.process_queues.proofs.Standing.{delivered_all-stands, keeps}
use Rattle.process_queues.proofs.Passing.{err-if-ok}
use Rattle.process_queues.proofs.process.Process.collect.Goals as goal

pub invariant_of-self : goal.invariant_of-self
invariant_of-self g c = rw c.reserve.ensures.items c.self.invariant

pub returns-clause-delivered : goal.returns-clause-delivered
returns-clause-delivered g c = λ opening part h.
    let k = rw (← c.self.view_is) at h in
    delivered_all-stands (take c.min-count.result (letters_for c.args.process c.args.mail.now)) k (rw (c.collect_letters.ensures.tray, c.reserve.ensures.items) refl)

pub invariant_of-self-2 : goal.invariant_of-self-2
invariant_of-self-2 g c = keeps c.self.view_is c.self.invariant (returns-clause-delivered g c) (λ opening part h s. c.self.invariant.3)

pub returns-in_err-reserve-clause-delivered : goal.returns-in_err-reserve-clause-delivered
returns-in_err-reserve-clause-delivered g c = err-if-ok _ _ c.from_residual.result c.from_residual.ensures.1

pub returns-in_err-reserve-clause-count : goal.returns-in_err-reserve-clause-count
returns-in_err-reserve-clause-count g c = err-if-ok _ _ c.from_residual.result c.from_residual.ensures.1

pub returns-in_err-reserve-clause-queues : goal.returns-in_err-reserve-clause-queues
returns-in_err-reserve-clause-queues g c = err-if-ok _ _ c.from_residual.result c.from_residual.ensures.1

pub returns-in_err-reserve-clause-left : goal.returns-in_err-reserve-clause-left
returns-in_err-reserve-clause-left g c = err-if-ok _ _ c.from_residual.result c.from_residual.ensures.1
