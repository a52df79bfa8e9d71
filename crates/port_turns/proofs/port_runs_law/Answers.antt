use Rattle.port_turns.proofs.PortRuns.{are_ports_served}
use Rattle.port_turns.proofs.Releasing.{source-traces-paced}
use Rattle.port_turns.proofs.Traces.{traces-metered, traces-paced}
use Rattle.port_turns.proofs.port_runs_law.Goals as goal

pub returns-clause-served : goal.returns-clause-served
returns-clause-served c = λ x L p q inside N outlet is same n. are_ports_served x p q L inside N outlet is same n

pub returns-clause-paced : goal.returns-clause-paced
returns-clause-paced c = λ x L p q v inside N transit goes least counting byte_ns port priority n sizes. traces-paced byte_ns q v x L N p inside transit goes least counting port priority n sizes

pub returns-clause-metered : goal.returns-clause-metered
returns-clause-metered c = λ x L p q v inside N transit goes bytes byte_ns port priority n. traces-metered byte_ns q v x L N p inside transit goes bytes port priority n

pub returns-clause-source_paced : goal.returns-clause-source_paced
returns-clause-source_paced c = source-traces-paced
