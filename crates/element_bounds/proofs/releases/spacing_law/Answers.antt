use Rattle.element_bounds.proofs.ReleaseLemmas.{releases-paced, spaced}
use Rattle.element_bounds.proofs.releases.spacing_law.Goals as goal

pub returns-clause-apart : goal.returns-clause-apart
returns-clause-apart c = spaced

pub returns-clause-paced : goal.returns-clause-paced
returns-clause-paced c = releases-paced
