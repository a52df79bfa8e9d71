use Rattle.std.proofs.Common.{ap, ◌∙◌, arith}
use Rattle.group_exchange.proofs.Holding.{holds-again}
use Rattle.group_exchange.proofs.RowsKept.{rows-gone}
use Rattle.group_exchange.proofs.group.Group.let_rows_go.Goals as goal

pub invariant_of-self : goal.invariant_of-self
invariant_of-self g c =
    let h = c.self.invariant.0 in
    let k = c.self.invariant.5 in
    let was = c.self.inside.hand.rows in
    let now = c.let_rows_go-refused.new.self in
    let told = c.let_rows_go-refused.ensures.gone in
    let same = c.let_rows_go-refused.ensures.rows in
    let rows = ap (λ z. z.rows) same ∙ ap (λ n. record was { left = n }) told.1 in
    let greatest = c.later_of-self-inside.ensures in (
      holds-again h now (ap (λ z. z.members) same) (ap (λ z. z.flow.words) same) (c.let_rows_go-refused.ensures.stands g.J.GroupRun.setting),
      c.self.invariant.1,
      ap (λ z. z.flow.keeps) same ∙ c.self.invariant.2,
      c.self.invariant.3,
      c.self.invariant.4,
      rows-gone k now told.0 c.args.moment rows (ap (λ z. z.done) same) told.2 told.3 c.later_of-self-inside.result (omega (arith, greatest)) (omega (arith, greatest)),
    )
