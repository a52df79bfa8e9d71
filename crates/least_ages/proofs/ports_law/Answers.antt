use Rattle.least_ages.proofs.BacklogLemmas.{bytes-bounded, roomy}
use Rattle.least_ages.proofs.ports_law.Goals as goal

pub returns : goal.returns
returns c = record {
  bytes = λ x L N size O p q outlet inside is bytes bound n. bytes-bounded x L N size O p q outlet inside is n bytes bound;
  roomy = λ x L N size O p q outlet inside is room n. roomy x L N size O p q outlet inside is n room;
}
