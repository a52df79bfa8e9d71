use Rattle.std.proofs.Common.{◌≡◌, refl, subst}
use Rattle.std.specs.Cmp.{IsTotalOrder}
use Rattle.vlink.specs.declared.message.Message.{Message}
use Rattle.vlink.specs.contracts.message.MessageOrd.TheImpl.{ghosts}
use Rattle.vlink.specs.contracts.message.BodyOrd.TheImpl as bodies
use Rattle.vlink.specs.declared.message.Body.{Body}
use Rattle.vlink.specs.Order.{body_cmp, message_cmp}
use Rattle.vlink.proofs.OrderLemmas.{message_cmp-equal, message_cmp-earlier}
use Rattle.vlink.proofs.order.message_order_law.Goals as goal

written : ((b c : Body) → (bodies.ghosts).cmp b c ≡ body_cmp b c) → (a b : Message) → ghosts.cmp a b ≡ message_cmp a b
unfolding message_cmp
written h a b = rw (h a.body b.body) refl

pub returns-clause-written : goal.returns-clause-written
returns-clause-written c = written c.body_order_law.ensures

pub returns-clause-total : goal.returns-clause-total
returns-clause-total c = subst IsTotalOrder (λ i a b. written c.body_order_law.ensures a b i) c.total_order_law.ensures

pub returns-clause-exact : goal.returns-clause-exact
returns-clause-exact c = message_cmp-equal

pub returns-clause-by_time : goal.returns-clause-by_time
returns-clause-by_time c = message_cmp-earlier
