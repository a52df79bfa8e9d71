use Rattle.std.proofs.Common.{sym, arith}
use Rattle.process_exchange.proofs.Listed.{steps-few}
use Rattle.process_exchange.proofs.exchange.Exchange.entry_at.Goals as goal

pub returns-clause-told : goal.returns-clause-told
returns-clause-told g c = rw (sym c.self.view_is) c.get.ensures

pub returns-clause-few : goal.returns-clause-few
returns-clause-few g c =
    let fewer = steps-few c.self.inside.journal.entries c.args.at _ c.get.ensures in
    omega (arith, fewer, c.self.invariant.2.count_is, c.self.invariant.0, c.self.invariant.1)
