use Rattle.turns.proofs.Told.{no-memory, no-workers}
use Rattle.turns.proofs.workers.work_all.Goals as goal

pub returns-then-common-eq0-clause-told : goal.returns-then-common-eq0-clause-told
returns-then-common-eq0-clause-told g c = no-workers g.F.Refusal.rank g.F.Refusal.is_memory g.F.Refusal.is_unstarted c.args.common.now.workers c.if-common-eq0.true

pub returns-in_default-clause-told : goal.returns-in_default-clause-told
returns-in_default-clause-told g c = no-memory g.F.Refusal.rank g.F.Refusal.is_memory g.F.Refusal.is_unstarted c.args.common.now.workers c.memory.result c.memory.ensures
