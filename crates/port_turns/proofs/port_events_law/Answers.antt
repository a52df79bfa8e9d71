use Rattle.port_turns.proofs.Asking.{node-asks}
use Rattle.port_turns.proofs.port_events_law.Goals as goal

pub returns : goal.returns
returns c = record { asked = node-asks }
