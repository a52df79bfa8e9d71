use Rattle.std.proofs.Common.{ap, ◌∙◌, arith}
use Rattle.group_exchange.proofs.Holding.{holds-again}
use Rattle.group_exchange.proofs.RowsKept.{rows-again}
use Rattle.group_exchange.proofs.group.Group.next_time.Goals as goal

pub invariant_of-self : goal.invariant_of-self
invariant_of-self g c =
    let a = c.next_time.ensures.same in (
      holds-again c.self.invariant.0 c.next_time.new.self (ap (λ z. z.members) a) (ap (λ z. z.flow.words) a)
          (λ v s. c.hand_law.ensures.as_before c.self.inside.hand c.next_time.new.self a g.J.GroupRun.setting v s),
      c.self.invariant.1,
      ap (λ z. z.flow.keeps) a ∙ c.self.invariant.2,
      c.self.invariant.3,
      c.self.invariant.4,
      rows-again c.self.invariant.5 c.next_time.new.self (ap (λ z. z.rows) a) (ap (λ z. z.done) a) c.self.inside.standing.seen (omega arith),
    )
