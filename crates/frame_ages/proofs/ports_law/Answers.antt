use Rattle.frame_ages.proofs.GivenLemmas.{highs-in-time, lows-in-time}
use Rattle.frame_ages.proofs.ports_law.Goals as goal

pub returns-clause-high : goal.returns-clause-high
returns-clause-high c = λ x L N size O p q outlet inside is delay h n. highs-in-time x L N size O p q outlet inside is n delay h

pub returns-clause-low : goal.returns-clause-low
returns-clause-low c = λ x L N size O p q outlet inside is v delay h n. lows-in-time x L N size O p q outlet inside is n v delay h
