use Rattle.std.proofs.Common.{subst}
use Rattle.network.specs.Words.{IsAccepted}
use Rattle.network.proofs.RisingLemmas.{ids-rise}
use Rattle.network.proofs.network.Network.vl_count.Goals as goal

pub returns-clause-rising : goal.returns-clause-rising
returns-clause-rising c = ids-rise c.args.self.now (subst IsAccepted c.self.view_is c.self.invariant.0)
