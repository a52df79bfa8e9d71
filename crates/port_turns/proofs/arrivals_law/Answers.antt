use Rattle.port_turns.proofs.Arriving.{arrivals-serial}
use Rattle.port_turns.proofs.SerialPuts.{traces-serial}
use Rattle.port_turns.proofs.arrivals_law.Goals as goal

pub returns-clause-serial : goal.returns-clause-serial
returns-clause-serial c = λ x L p q k r j inside line_inside N outlet line W n. arrivals-serial x L p q k r j inside line_inside N outlet line W n

pub returns-clause-traces : goal.returns-clause-traces
returns-clause-traces c = λ x L p q k r j inside line_inside switch_inside N outlet line W switch is i byte_ns slower port priority n.
    traces-serial x L p q k r j inside line_inside switch_inside N outlet line W switch is i byte_ns slower port priority n
