use Rattle.std.proofs.Common.{subst}
use Rattle.nodes.specs.Words.{simulation_of}
use Rattle.group_exchange.specs.Effects.{CanDoMore}
use Rattle.worker_pool.proofs.UsedUp.{uses-up}
use Rattle.worker_pool.proofs.ending.Unlocked.finish.Goals as goal

pub end-requires-clause-laws : goal.end-requires-clause-laws
end-requires-clause-laws g c = c.until_of-until.ensures.laws

pub end-requires-clause-until : goal.end-requires-clause-until
end-requires-clause-until g c = c.until_of-until.ensures.until

pub new-requires-clause-numbers : goal.new-requires-clause-numbers
new-requires-clause-numbers g c = λ e. uses-up g.J.NetworkRun.plan g.J.NetworkRun.owners (c.end.ensures.used_up cc)

pub new-requires-clause-many : goal.new-requires-clause-many
new-requires-clause-many g c = λ e. subst (CanDoMore (simulation_of g.J.NetworkRun.plan)) c.self.invariant (c.end.ensures.long cc)
