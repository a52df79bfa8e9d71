use Rattle.timewarp.proofs.replaying.Replay.new.Goals as goal

pub returns-in_err-world-clause-safe : goal.returns-in_err-world-clause-safe
returns-in_err-world-clause-safe c = c.world_law.ensures.safe

pub returns-in_err-world-clause-rises : goal.returns-in_err-world-clause-rises
returns-in_err-world-clause-rises c = c.world_law.ensures.rises

pub returns-in_err-world-clause-never_undone : goal.returns-in_err-world-clause-never_undone
returns-in_err-world-clause-never_undone c = c.world_law.ensures.never_undone

pub returns-in_err-world-clause-whole : goal.returns-in_err-world-clause-whole
returns-in_err-world-clause-whole c = c.world_law.ensures.whole

pub returns-in_err-world-clause-balances : goal.returns-in_err-world-clause-balances
returns-in_err-world-clause-balances c = c.world_law.ensures.counts

pub returns-clause-safe : goal.returns-clause-safe
returns-clause-safe c = c.world_law.ensures.safe

pub returns-clause-rises : goal.returns-clause-rises
returns-clause-rises c = c.world_law.ensures.rises

pub returns-clause-never_undone : goal.returns-clause-never_undone
returns-clause-never_undone c = c.world_law.ensures.never_undone

pub returns-clause-whole : goal.returns-clause-whole
returns-clause-whole c = c.world_law.ensures.whole

pub returns-clause-balances : goal.returns-clause-balances
returns-clause-balances c = c.world_law.ensures.counts
