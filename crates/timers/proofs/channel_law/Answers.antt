use Rattle.timers.proofs.ChannelLemmas.{are_received}
use Rattle.timers.proofs.channel_law.Goals as goal

pub returns : goal.returns
returns g c = record { in_order = λ f L p r is C n. are_received f L p r is C n }
