use Rattle.group_end.specs.Together.{OnlyRowsLeft}
use Rattle.worker_pool.proofs.desk.TraceLock.give_segments.Given as goal

abbrev pub invariant-loop : goal.invariant-loop
invariant-loop g l = OnlyRowsLeft l.fn.group l.group
