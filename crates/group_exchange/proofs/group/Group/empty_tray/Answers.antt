use Rattle.std.proofs.Common.{sym, ap, ◌∙◌}
use Rattle.group_queues.specs.Block.{runs_in}
use Rattle.group_exchange.proofs.Ran.{goes-letters}
use Rattle.group_exchange.proofs.RowsKept.{rows-does}
use Rattle.group_exchange.proofs.Timely.{runs-letters}
use Rattle.group_exchange.proofs.Told.{does}
use Rattle.group_exchange.proofs.group.Group.empty_tray.Goals as goal

pub invariant_of-self : goal.invariant_of-self
invariant_of-self g c =
    let h = c.self.invariant.0 in
    let L = c.actor_law.ensures g.J.GroupRun.setting h.laid in
    let d = c.arrive_all.ensures.did in
    let t = does h L c.arrive_all.new.self d in (
      t.holds,
      c.self.invariant.1,
      d.keeps ∙ c.self.invariant.2,
      c.self.invariant.3,
      c.self.invariant.4,
      rows-does h c.self.invariant.5 L c.arrive_all.new.self d d.rows,
    )

pub returns-clause-goes : goal.returns-clause-goes
returns-clause-goes g c =
    let h = c.self.invariant.0 in
    let L = c.actor_law.ensures g.J.GroupRun.setting h.laid in
    rw (sym c.self.view_is) (λ limit. goes-letters h L c.arrive_all.new.self c.self.inside.gone c.arrive_all.ensures.did c.arrive_all.ensures.words limit)

pub returns-clause-counted : goal.returns-clause-counted
returns-clause-counted g c = runs-letters _ _ c.arrive_all.ensures.words ∙ ap (λ z. runs_in z.held.flow.words) c.self.view_is
