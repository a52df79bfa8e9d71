use Rattle.vlink.proofs.order.total_order_law.Goals as goal

pub returns : goal.returns
returns g c = g.met.T.Ord.total
