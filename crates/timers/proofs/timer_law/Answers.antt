use Rattle.timers.proofs.TimerLemmas.{are_on_time}
use Rattle.timers.proofs.timer_law.Goals as goal

pub returns : goal.returns
returns g c = record { on_time = λ f L p inside mine w fits T n. are_on_time f L p inside mine w fits T n }
