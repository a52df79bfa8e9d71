use Rattle.frame_ages.proofs.HeldLemmas.{lists-held, periods-held}
use Rattle.frame_ages.proofs.waits_law.Goals as goal

pub returns-clause-lists : goal.returns-clause-lists
returns-clause-lists c = λ x L N size O p v bag depth sub inside is. lists-held x size O p v bag depth sub inside is L N

pub returns-clause-periods : goal.returns-clause-periods
returns-clause-periods c = λ x L N size O p v bag depth inside is period jitter early I long. periods-held x L N size O p v bag depth inside is period jitter early I long
