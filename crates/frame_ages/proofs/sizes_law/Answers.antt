use Rattle.frame_ages.proofs.SizeLemmas.{all-sized}
use Rattle.frame_ages.proofs.sizes_law.Goals as goal

pub returns : goal.returns
returns c = record { sized = all-sized }
