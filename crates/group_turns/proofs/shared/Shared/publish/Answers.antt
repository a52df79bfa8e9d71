use Rattle.std.proofs.Common.{◌∙◌, Err, ap, subst}
use Rattle.nodes.specs.Words.{simulation_of}
use Rattle.group_exchange.specs.Effects.{CanDoMore}
use Rattle.group_turns.proofs.Limit.{publish-limit}
use Rattle.group_turns.proofs.shared.Shared.publish.Goals as goal

pub invariant_of-self : goal.invariant_of-self
invariant_of-self g c =
    publish-limit (simulation_of g.J.NetworkRun.plan) g.J.NetworkRun.owners c.self.inside.inner c.publish.new.exchange c.publish.result
    c.publish.ensures.ok c.publish.ensures.unchanged
    ∙ c.self.invariant

pub new-requires-clause-many : goal.new-requires-clause-many
new-requires-clause-many g c = λ e. subst (CanDoMore (simulation_of g.J.NetworkRun.plan)) c.self.invariant (c.in-Err.ensures.long (ap (λ z. Err z) e))
