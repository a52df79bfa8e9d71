use Rattle.std.proofs.Common.{subst}
use Rattle.network.specs.Words.{IsAccepted}
use Rattle.network.proofs.BuildLemmas.{few-streams}
use Rattle.network.proofs.LimitLemmas.{all-streams-read}
use Rattle.network.proofs.network.Network.streams.Goals as goal

pub returns-clause-few : goal.returns-clause-few
returns-clause-few c = few-streams c.args.self.now (subst IsAccepted c.self.view_is c.self.invariant.0)

pub returns-clause-limits : goal.returns-clause-limits
returns-clause-limits c = all-streams-read c.args.self.now (subst IsAccepted c.self.view_is c.self.invariant.0)
