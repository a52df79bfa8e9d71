use Rattle.std.proofs.Common.{◌∙◌, Err, ap, subst}
use Rattle.nodes.specs.Words.{simulation_of}
use Rattle.group_exchange.specs.Effects.{CanDoMore}
use Rattle.group_turns.proofs.Limit.{collect-limit}
use Rattle.group_turns.proofs.shared.Shared.collect.Goals as goal

pub invariant_of-self : goal.invariant_of-self
invariant_of-self g c =
    collect-limit (simulation_of g.J.NetworkRun.plan) g.J.NetworkRun.owners c.self.inside.inner c.args.group.now c.collect.new.exchange c.collect.new.group c.collect.result
    c.collect.ensures.ok c.collect.ensures.unchanged
    ∙ c.self.invariant

pub new-requires-clause-many : goal.new-requires-clause-many
new-requires-clause-many g c = λ e. subst (CanDoMore (simulation_of g.J.NetworkRun.plan)) c.self.invariant (c.in-Err.ensures.long (ap (λ z. Err z) e))
