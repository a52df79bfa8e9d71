use Rattle.std.proofs.Common.{◌∙◌, Err, ap, subst}
use Rattle.nodes.specs.Words.{simulation_of}
use Rattle.group_exchange.specs.Effects.{CanDoMore}
use Rattle.group_turns.proofs.Limit.{post-limit}
use Rattle.group_turns.proofs.shared.Shared.post.Goals as goal

pub invariant_of-self : goal.invariant_of-self
invariant_of-self g c =
    post-limit (simulation_of g.J.NetworkRun.plan) g.J.NetworkRun.owners c.self.inside.inner c.args.group.now c.post.new.exchange c.post.new.group c.post.result
    c.post.ensures.ok c.post.ensures.unchanged
    ∙ c.self.invariant

pub new-requires-clause-many : goal.new-requires-clause-many
new-requires-clause-many g c = λ e. subst (CanDoMore (simulation_of g.J.NetworkRun.plan)) c.self.invariant (c.in-Err.ensures.long (ap (λ z. Err z) e))
