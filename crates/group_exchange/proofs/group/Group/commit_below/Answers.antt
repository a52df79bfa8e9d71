use Rattle.std.proofs.Common.{◌≤◌, All, OnOk, ap, sym, ◌∙◌, subst, arith}
use Rattle.vlink.specs.declared.message.Message.{Message}
use Rattle.vlink.specs.Order.{message_order}
use Rattle.virtual_time.proofs.Lists.{times-append}
use Rattle.group_queues.specs.DoneEvents.{messages_of}
use Rattle.group_exchange.specs.Views.{is_of}
use Rattle.group_exchange.proofs.Below.{all-late}
use Rattle.group_exchange.proofs.Going.{each-inside}
use Rattle.group_exchange.proofs.Ran.{ends-commits}
use Rattle.group_exchange.proofs.RowsKept.{rows-again, rows-committed}
use Rattle.group_exchange.proofs.Told.{commits}
use Rattle.group_exchange.proofs.group.Group.commit_below.Goals.{in-Ok, in-Err}
use Rattle.group_exchange.proofs.group.Group.commit_below.Goals as goal

pub invariant_of-self : goal.invariant_of-self
invariant_of-self g c =
    let h = c.self.invariant.0 in
    let k = c.self.invariant.5 in
    let L = c.actor_law.ensures g.J.GroupRun.setting h.laid in
    let seen = rw (sym c.self.view_is) at c.requires.seen in
    let d = rw seen at c.commit_below.ensures.did in
    let new = c.commit_below.new.self in
    let t = commits h L new d in (
      t.holds,
      c.self.invariant.1,
      d.keeps ∙ c.self.invariant.2,
      c.self.invariant.3,
      c.self.invariant.4,
      elim c.match-commit_below.branch [
        | in-Ok w ↦ (
            let s = rw seen at w.in-Ok.ensures.sealed in
            rows-committed L.order h.stands h.ours k new s.0 s.1 s.2 s.3
            (all-late g.R.Reversible.plain L.order g.R.Reversible.is_value g.J.GroupRun.setting _ new t.holds.stands (is_of g.J.GroupRun.owners c.self.inside.number) t.holds.ours
            c.self.inside.standing.seen t.holds.safe (rw seen at w.in-Ok.ensures.left)))
        | in-Err w ↦ (let a = w.in-Err.ensures.unchanged in rows-again k new (ap (λ z. z.rows) a) (ap (λ z. z.done) a) c.self.inside.standing.seen (omega arith))
      ],
    )

pub returns-clause-ends : goal.returns-clause-ends
returns-clause-ends g c =
    let h = c.self.invariant.0 in
    let seen = rw (sym c.self.view_is) at c.requires.seen in
    let d = rw seen at c.commit_below.ensures.did in
    rw (sym c.self.view_is) (ends-commits h (c.actor_law.ensures g.J.GroupRun.setting h.laid) c.commit_below.new.self c.self.inside.gone d c.commit_below.ensures.words)

pub returns-clause-below : goal.returns-clause-below
returns-clause-below g c =
    let h = c.self.invariant.0 in
    let L = c.actor_law.ensures g.J.GroupRun.setting h.laid in
    let seen = rw (sym c.self.view_is) at c.requires.seen in
    let t = commits h L c.commit_below.new.self (rw seen at c.commit_below.ensures.did) in
    elim c.match-commit_below.branch [
      | in-Ok w ↦ rw (sym c.self.view_is) (subst (λ z. OnOk z (All (λ (m : Message). c.self.inside.standing.seen ≤ m.time) (messages_of c.commit_below.new.self.done))) (sym w.result-is)
          (all-late g.R.Reversible.plain L.order g.R.Reversible.is_value g.J.GroupRun.setting _ c.commit_below.new.self t.holds.stands (is_of g.J.GroupRun.owners c.self.inside.number) t.holds.ours
          c.self.inside.standing.seen t.holds.safe (rw seen at w.in-Ok.ensures.left)))
      | in-Err w ↦ subst (λ z. OnOk z (All (λ (m : Message). c.args.self.now.seen ≤ m.time) (messages_of c.commit_below.new.self.done))) (sym w.result-is) tt
    ]

pub returns-clause-in_time : goal.returns-clause-in_time
returns-clause-in_time g c =
    let h = c.self.invariant.0 in
    let L = c.actor_law.ensures g.J.GroupRun.setting h.laid in
    let seen = rw (sym c.self.view_is) at c.requires.seen in
    let t = commits h L c.commit_below.new.self (rw seen at c.commit_below.ensures.did) in
    each-inside L.order (λ (m : Message). m.time ≤ g.J.GroupRun.setting.until) c.commit_below.new.self.flow.queue
    (λ y i. t.holds.stands.in_time y (let a = times-append message_order L.order y c.commit_below.new.self.flow.queue (messages_of c.commit_below.new.self.done) in omega arith))
