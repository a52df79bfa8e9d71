use Rattle.traffic.proofs.OwnLemmas.{as_before}
use Rattle.traffic.proofs.law.own_law.Goals as goal

pub returns : goal.returns
returns c = record { same = λ seed until link source plain. as_before link plain seed until source }
