use Rattle.process_queues.proofs.Passing.{err-if-ok, err-on-ok}
use Rattle.process_queues.proofs.arriving.undo_since.Goals as goal

pub returns-in_err-reserve-clause-rolled : goal.returns-in_err-reserve-clause-rolled
returns-in_err-reserve-clause-rolled g c = err-on-ok _ _ c.from_residual.result c.from_residual.ensures.1

pub returns-in_err-reserve-clause-posted : goal.returns-in_err-reserve-clause-posted
returns-in_err-reserve-clause-posted g c = err-on-ok _ _ c.from_residual.result c.from_residual.ensures.1

pub returns-in_err-reserve-clause-counts : goal.returns-in_err-reserve-clause-counts
returns-in_err-reserve-clause-counts g c = err-on-ok _ _ c.from_residual.result c.from_residual.ensures.1

pub returns-in_err-reserve-clause-count : goal.returns-in_err-reserve-clause-count
returns-in_err-reserve-clause-count g c = err-if-ok _ _ c.from_residual.result c.from_residual.ensures.1

pub returns-in_err-count_again-clause-rolled : goal.returns-in_err-count_again-clause-rolled
returns-in_err-count_again-clause-rolled g c = err-on-ok _ _ c.from_residual-in_err-count_again.result c.from_residual-in_err-count_again.ensures.1

pub returns-in_err-count_again-clause-posted : goal.returns-in_err-count_again-clause-posted
returns-in_err-count_again-clause-posted g c = err-on-ok _ _ c.from_residual-in_err-count_again.result c.from_residual-in_err-count_again.ensures.1

pub returns-in_err-count_again-clause-counts : goal.returns-in_err-count_again-clause-counts
returns-in_err-count_again-clause-counts g c = err-on-ok _ _ c.from_residual-in_err-count_again.result c.from_residual-in_err-count_again.ensures.1

pub returns-in_err-count_again-clause-count : goal.returns-in_err-count_again-clause-count
returns-in_err-count_again-clause-count g c = err-if-ok _ _ c.from_residual-in_err-count_again.result c.from_residual-in_err-count_again.ensures.1
