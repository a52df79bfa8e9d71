use Rattle.std.proofs.Common.{◌≡◌, ◌<◌, ◌≤◌}
use Rattle.reverse.proofs.Members.{in-all}
use Rattle.reverse.proofs.rules.actor_rules_law.Goals as goal

pub returns-clause-sender : goal.returns-clause-sender
returns-clause-sender g c s e m i = in-all _ c.order_law.ensures (λ m. m.sender ≡ g.R.Actor.number s) m _ (g.met.R.Actor.own_sends s e) i

pub returns-clause-later : goal.returns-clause-later
returns-clause-later g c s e m p i = in-all _ c.order_law.ensures (λ m. e.time < m.time) m _ (g.met.R.Actor.later_sends s e p) i

pub returns-clause-in_time : goal.returns-clause-in_time
returns-clause-in_time g c s e m i = in-all _ c.order_law.ensures (λ m. m.time ≤ g.R.Actor.end s) m _ (g.met.R.Actor.timely_sends s e) i
