use Rattle.element_bounds.proofs.TraceLemmas.{same}
use Rattle.element_bounds.proofs.port_trace.port_trace_law.Goals as goal

pub returns : goal.returns
returns c = record { same = same }
