use Rattle.network.proofs.LimitLemmas.{until-within}
use Rattle.network.proofs.network.Network.until.Goals as goal

pub returns-clause-least : goal.returns-clause-least
returns-clause-least c = (until-within _ c.self.invariant.0).0

pub returns-clause-greatest : goal.returns-clause-greatest
returns-clause-greatest c = (until-within _ c.self.invariant.0).1
