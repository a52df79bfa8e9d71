use Rattle.port_bounds.proofs.WaitLemmas.{waits}
use Rattle.port_bounds.proofs.waits.waits_law.Goals as goal

pub returns : goal.returns
returns c = record { waits = waits }
