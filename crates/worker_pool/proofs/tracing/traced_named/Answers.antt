use Rattle.worker_pool.proofs.Told.{before-memory}
use Rattle.worker_pool.proofs.tracing.traced_named.Goals as goal

pub returns-in_default-clause-told : goal.returns-in_default-clause-told
returns-in_default-clause-told g c = before-memory _
