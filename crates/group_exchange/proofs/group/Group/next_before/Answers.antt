use Rattle.std.proofs.Common.{◌≤◌, All, IfNone, ap, sym, ◌∙◌, subst, arith}
use Rattle.std.proofs.lemmas.List.Elements.{All-nil}
use Rattle.vlink.specs.declared.message.Message.{Message}
use Rattle.group_exchange.proofs.Again.{group-as-before}
use Rattle.group_exchange.proofs.Ends.{group_at}
use Rattle.group_exchange.proofs.Going.{none-early, when-none}
use Rattle.group_exchange.proofs.Holding.{holds-again}
use Rattle.group_exchange.proofs.RowsKept.{rows-again}
use Rattle.group_exchange.proofs.group.Group.next_before.Goals.{in-Some, in-None}
use Rattle.group_exchange.proofs.group.Group.next_before.Goals as goal

pub invariant_of-self : goal.invariant_of-self
invariant_of-self g c =
    let a = c.next.ensures.same in (
      holds-again c.self.invariant.0 c.next.new.self (ap (λ z. z.members) a) (ap (λ z. z.flow.words) a)
          (λ v s. c.hand_law.ensures.as_before c.self.inside.hand c.next.new.self a g.J.GroupRun.setting v s),
      c.self.invariant.1,
      ap (λ z. z.flow.keeps) a ∙ c.self.invariant.2,
      c.self.invariant.3,
      c.self.invariant.4,
      rows-again c.self.invariant.5 c.next.new.self (ap (λ z. z.rows) a) (ap (λ z. z.done) a) c.self.inside.standing.seen (omega arith),
    )

pub returns-clause-stood : goal.returns-clause-stood
returns-clause-stood g c = rw (sym c.self.view_is) (group-as-before (group_at c.self.inside.number c.self.inside.hand c.self.inside.standing c.self.inside.gone) c.next.new.self c.next.ensures.same)

pub returns-clause-idle : goal.returns-clause-idle
returns-clause-idle g c =
    let L = c.actor_law.ensures g.J.GroupRun.setting c.self.invariant.0.laid in
    let P : Message → Type 0 = λ m. c.args.limit ≤ m.time in
    let old = c.self.inside.hand.flow.queue in
    let new = c.next.new.self.flow.queue in
    let all = subst (λ h. All P h.flow.queue) (sym c.next.ensures.same) in
    elim c.match-next.branch [
      | in-Some w ↦ subst (λ z. IfNone z (All P new)) (sym w.result-is)
          (when-none w.receiver_before.result (c.args.limit ≤ w.in-Some.message.time) (All P new) (λ late. all (none-early L.order c.args.limit w.in-Some.message old w.in-Some.ensures.first late))
          w.receiver_before.ensures)
      | in-None w ↦ subst (λ z. IfNone z (All P new)) (sym w.result-is) (all (subst (All P) (sym w.in-None.ensures.none) (All-nil P)))
    ]
