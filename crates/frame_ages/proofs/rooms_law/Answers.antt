use Rattle.frame_ages.proofs.KeptLemmas.{frames-kept}
use Rattle.frame_ages.proofs.rooms_law.Goals as goal

pub returns : goal.returns
returns c = record { kept = λ x L N size O p inside room n row here place vl bytes note. frames-kept x L N size O p inside n room row here place vl bytes note }
