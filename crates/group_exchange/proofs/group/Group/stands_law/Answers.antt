use Rattle.std.proofs.Common.{◌<◌, sym, ◌∙◌, subst}
use Rattle.group_exchange.proofs.Owners.{of-within}
use Rattle.group_exchange.proofs.InWorld.{cleared, done-there, in-time, waits-there}
use Rattle.group_exchange.proofs.group.Group.stands_law.Goals as goal

pub returns-clause-laws : goal.returns-clause-laws
returns-clause-laws g c = c.actor_law.ensures g.J.GroupRun.setting c.self.invariant.0.laid

pub returns-clause-inside : goal.returns-clause-inside
returns-clause-inside g c =
    let h = c.self.invariant.0 in
    rw (sym c.self.view_is) (λ p o. subst (λ n. p < n) h.grouped.each (of-within g.J.GroupRun.owners _ p o))

pub returns-clause-by : goal.returns-clause-by
returns-clause-by g c = rw (sym c.self.view_is) c.self.invariant.0.by

pub returns-clause-waits : goal.returns-clause-waits
returns-clause-waits g c =
    let h = c.self.invariant.0 in
    let L = c.actor_law.ensures g.J.GroupRun.setting h.laid in
    rw (sym c.self.view_is) (λ p o m e. waits-there g.R.Reversible.plain L.order g.R.Reversible.is_value g.J.GroupRun.setting _ c.self.inside.hand h.stands _ h.ours p o m e)

pub returns-clause-done : goal.returns-clause-done
returns-clause-done g c =
    let h = c.self.invariant.0 in
    let L = c.actor_law.ensures g.J.GroupRun.setting h.laid in
    rw (sym c.self.view_is) (λ p o m e. done-there g.R.Reversible.plain L.order g.R.Reversible.is_value g.J.GroupRun.setting _ c.self.inside.hand h.stands _ h.ours p o m e)

pub returns-clause-in_time : goal.returns-clause-in_time
returns-clause-in_time g c =
    let h = c.self.invariant.0 in
    let L = c.actor_law.ensures g.J.GroupRun.setting h.laid in
    rw (sym c.self.view_is) (λ m i. in-time g.R.Reversible.plain L.order g.R.Reversible.is_value g.J.GroupRun.setting _ c.self.inside.hand h.stands m i)

pub returns-clause-cleared : goal.returns-clause-cleared
returns-clause-cleared g c =
    let h = c.self.invariant.0 in
    let L = c.actor_law.ensures g.J.GroupRun.setting h.laid in
    rw (sym c.self.view_is) (λ none p o. cleared g.R.Reversible.plain L.order g.R.Reversible.is_value g.J.GroupRun.setting _ c.self.inside.hand h.stands _ h.ours none p o)
