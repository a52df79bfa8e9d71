use Rattle.plan_waits.proofs.HeldLemmas.{held-lists, held-periods}
use Rattle.plan_waits.proofs.waits_law.Goals as goal

pub returns-clause-lists : goal.returns-clause-lists
returns-clause-lists c = λ L N size O p vl S. held-lists c.args.network.now c.accepted_law.ensures L N size O p vl S

pub returns-clause-periods : goal.returns-clause-periods
returns-clause-periods c = λ L N size O p vl S late steady. held-periods c.args.network.now c.accepted_law.ensures L N size O p vl S late steady
