use Rattle.port_bounds.proofs.HighLemmas as high
use Rattle.port_bounds.proofs.LowLemmas as low
use Rattle.port_bounds.proofs.delays.delays_law.Goals as goal

pub returns : goal.returns
returns c = record { high = high.bounded; low = low.bounded; backlog = low.backlog }
