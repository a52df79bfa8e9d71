use Rattle.std.proofs.Common.{sym, subst}
use Rattle.network.specs.Words.{process_count}
use Rattle.group_exchange.specs.Keeps.{AreGrouped}
use Rattle.worker_pool.proofs.ending.Unlocked.end.Goals as goal

pub returns-clause-ended : goal.returns-clause-ended
returns-clause-ended g c = record {
  finished = c.in_ok-finish.ensures.finished;
  grouped = subst (λ n. AreGrouped (process_count g.J.NetworkRun.plan) n g.J.NetworkRun.owners) (sym c.finish.ensures.all) c.are_of_world.ensures.grouped;
  each = c.are_of_world.ensures.each;
}
