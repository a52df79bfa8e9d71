use Rattle.std.proofs.Common.{rules}
use Rattle.group_queues.proofs.Early.{before-first}
use Rattle.group_queues.proofs.committing.is_early.Goals as goal

pub returns-then-lt-clause-before : goal.returns-then-lt-clause-before
returns-then-lt-clause-before c = λ _.
    let law = c.order_law.ensures in
    before-first (record { irreflexive = law.irreflexive; transitive = law.transitive; total = law.total; by_time = law.by_time }) c.args.message.now c.args.limit c.args.first.now (search rules) c.requires.1
