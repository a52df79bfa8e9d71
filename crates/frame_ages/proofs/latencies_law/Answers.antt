use Rattle.frame_ages.proofs.LatencyLemmas.{latency-bounded}
use Rattle.frame_ages.proofs.latencies_law.Goals as goal

pub returns : goal.returns
returns c = record { bounded = λ x L N size O v source to wait most inside held comes n row here place vl latency is note. latency-bounded x L N size O v n source to wait most held comes row here place vl latency is note }
