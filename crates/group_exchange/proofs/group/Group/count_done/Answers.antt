use Rattle.std.proofs.Common.{ap, ◌∙◌, arith}
use Rattle.group_exchange.proofs.Holding.{holds-again}
use Rattle.group_exchange.proofs.RowsKept.{rows-again}
use Rattle.group_exchange.proofs.group.Group.count_done.Goals as goal

pub invariant_of-self : goal.invariant_of-self
invariant_of-self g c =
    let e = c.count_done.ensures.others in
    let new = c.count_done.new.self in (
      holds-again c.self.invariant.0 new (ap (λ z. z.members) e) (ap (λ z. z.flow.words) e) (λ v s. c.count_done.ensures.stands g.J.GroupRun.setting v s),
      c.self.invariant.1,
      ap (λ z. z.flow.keeps) e ∙ c.self.invariant.2,
      c.self.invariant.3,
      c.self.invariant.4,
      rows-again c.self.invariant.5 new (ap (λ z. z.rows) e) (ap (λ z. z.done) e) c.self.inside.standing.seen (omega arith),
    )
