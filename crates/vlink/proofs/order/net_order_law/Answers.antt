use Rattle.std.proofs.Common.{◌≡◌, refl}
use Rattle.vlink.specs.declared.frame.Net.{Net}
use Rattle.vlink.specs.declared.frame.Net.TheVariants.{A, B}
use Rattle.vlink.specs.contracts.frame.NetOrd.TheImpl.{ghosts}
use Rattle.vlink.specs.Order.{net_cmp}
use Rattle.vlink.proofs.order.net_order_law.Goals as goal

net-is : (a b : Net) → ghosts.cmp a b ≡ net_cmp a b
net-is A A = refl
net-is A B = refl
net-is B A = refl
net-is B B = refl

pub returns : goal.returns
returns c = net-is
