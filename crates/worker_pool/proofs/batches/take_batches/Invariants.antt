use Rattle.worker_pool.proofs.batches.take_batches.Given as goal

abbrev pub invariant-loop-batch : goal.invariant-loop-batch
invariant-loop-batch g l = (goal.iterator-loop-batch g).can_next l.batch-iterator
