use Rattle.process_queues.proofs.Passing.{err-on-ok}
use Rattle.process_queues.proofs.past.Past.handle.Goals as goal

pub returns-in_err-make_room-clause-handled : goal.returns-in_err-make_room-clause-handled
returns-in_err-make_room-clause-handled g c = err-on-ok _ _ c.from_residual.result c.from_residual.ensures.1

pub returns-in_err-make_room-clause-sent : goal.returns-in_err-make_room-clause-sent
returns-in_err-make_room-clause-sent g c = err-on-ok _ _ c.from_residual.result c.from_residual.ensures.1

pub returns-in_err-make_room-clause-valid : goal.returns-in_err-make_room-clause-valid
returns-in_err-make_room-clause-valid g c = err-on-ok _ _ c.from_residual.result c.from_residual.ensures.1
