use Rattle.trace_segments.proofs.InOrderLemmas.{batch-is, batches-are, begins, whole, by-group, by-process}
use Rattle.trace_segments.proofs.interval_laws.batches_in_order_law.Goals as goal

pub returns-clause-batch : goal.returns-clause-batch
returns-clause-batch c = let o = c.message_order_law.ensures in batch-is o.total o.exact o.by_time

pub returns-clause-batches : goal.returns-clause-batches
returns-clause-batches c = let o = c.message_order_law.ensures in batches-are o.total o.exact o.by_time

pub returns-clause-beginning : goal.returns-clause-beginning
returns-clause-beginning c = let o = c.message_order_law.ensures in begins o.total o.exact o.by_time

pub returns-clause-whole : goal.returns-clause-whole
returns-clause-whole c = let o = c.message_order_law.ensures in whole o.total o.exact o.by_time

pub returns-clause-by_group : goal.returns-clause-by_group
returns-clause-by_group c = let o = c.message_order_law.ensures in by-group o.total o.exact o.by_time

pub returns-clause-by_process : goal.returns-clause-by_process
returns-clause-by_process c = let o = c.message_order_law.ensures in by-process o.total o.exact o.by_time
