use Rattle.element_bounds.proofs.MeterLemmas.{passages-metered}
use Rattle.element_bounds.proofs.PassageLemmas.{passages-paced}
use Rattle.element_bounds.proofs.passages.passages_law.Goals as goal

pub returns : goal.returns
returns c = record { paced = passages-paced; metered = passages-metered }
