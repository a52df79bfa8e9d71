use Rattle.std.proofs.Common.{refl}
use Rattle.vlink.proofs.order.frame_order_law.Goals as goal

pub returns : goal.returns
returns c = λ f g. rw (c.net_order_law.ensures f.net g.net) refl
