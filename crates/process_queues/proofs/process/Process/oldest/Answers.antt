use Rattle.std.proofs.Common.{◌∙◌}
use Rattle.process_queues.proofs.Reading.{oldest-stands}
use Rattle.process_queues.proofs.process.Process.oldest.Goals as goal

pub returns : goal.returns
returns g c opening part h = let k = rw (← c.self.view_is) at h in c.oldest_time.ensures ∙ oldest-stands k
