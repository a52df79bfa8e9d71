use Rattle.port_turns.proofs.PortTimers.{are_ports_on_time}
use Rattle.port_turns.proofs.port_timer_law.Goals as goal

pub returns : goal.returns
returns c = record { on_time = λ x L p q inside N idle n. are_ports_on_time x p q inside N idle L n }
