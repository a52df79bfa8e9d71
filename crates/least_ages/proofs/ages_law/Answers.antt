use Rattle.least_ages.proofs.LeastLemmas.{ages}
use Rattle.least_ages.proofs.DeliveryLemmas.{delivered-timely}
use Rattle.least_ages.proofs.ages_law.Goals as goal

pub returns : goal.returns
returns c = record {
  ages = λ x L N size O v h earlier R n. ages x L N size O v n h earlier R;
  deliveries = λ x L N size O v source to wait most least inside held comes n row there place vl latency is e.
      delivered-timely x L N size O v n source to wait most least held comes row there place vl latency is e;
}
