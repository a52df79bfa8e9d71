-- Which of two messages comes first, where they are of one moment.
use Rattle.std.proofs.Common.{◌≡◌, ◌<◌, true, refl, sym, Less, Equal}
use Rattle.std.specs.Cmp.{nat_cmp_is}
use Rattle.vlink.specs.declared.message.Message.{Message}
use Rattle.vlink.specs.Order.{message_cmp, message_order}

-- the one with the lesser receiver
pub receiver-tells : (a b : Message) → a.time ≡ b.time → a.receiver < b.receiver → message_order.less a b ≡ true
unfolding message_cmp
receiver-tells a b t r = rw (sym (nat_cmp_is a.time b.time Equal t)) (rw (sym (nat_cmp_is a.receiver b.receiver Less r)) refl)
