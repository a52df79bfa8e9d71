use Rattle.sub_waits.proofs.SubLemmas.{subs-held}
use Rattle.sub_waits.proofs.subs_law.Goals as goal

pub returns : goal.returns
returns c = λ x L N size O p v bag depth sub inside is period jitter early I long short. subs-held x L N size O p v bag depth sub inside is period jitter early I long short
