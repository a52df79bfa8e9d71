use Rattle.std.proofs.Common.{refl}
use Rattle.virtual_time.specs.Law.{delivered}
use Rattle.process_queues.proofs.Standing.{delivered-stands}
use Rattle.process_queues.proofs.Passing.{err-on-ok}
use Rattle.process_queues.proofs.process.Process.deliver.Goals as goal

pub invariant_of-self : goal.invariant_of-self
invariant_of-self g c = rw c.reserve.ensures.items c.self.invariant

pub invariant_of-self-2 : goal.invariant_of-self-2
invariant_of-self-2 g c =
    let i = c.self.invariant in
    (i.0, delivered c.args.letter i.1, delivered-stands i.2 c.args.letter (rw (c.push_back_reserved.ensures.items, c.reserve.ensures.items) refl), i.3)

pub returns-in_err-reserve-clause-delivered : goal.returns-in_err-reserve-clause-delivered
returns-in_err-reserve-clause-delivered g c = err-on-ok _ _ c.from_residual.result c.from_residual.ensures.1

pub returns-in_err-reserve-clause-tray : goal.returns-in_err-reserve-clause-tray
returns-in_err-reserve-clause-tray g c = err-on-ok _ _ c.from_residual.result c.from_residual.ensures.1

pub returns-in_err-reserve-clause-room : goal.returns-in_err-reserve-clause-room
returns-in_err-reserve-clause-room g c = err-on-ok _ _ c.from_residual.result c.from_residual.ensures.1
