-- The order of occurrences is total if that of messages is.
use Rattle.std.specs.declared.cmp.Ordering.{Ordering}
use Rattle.std.specs.Cmp.{IsTotalOrder, on_total, then_total, nat_cmp_total}
use Rattle.vlink.specs.declared.message.Message.{Message}
use Rattle.antimessages.specs.Occurrences.{occurrences_by}

pub occurrences_total : {order : Message → Message → Ordering} → IsTotalOrder order → IsTotalOrder (occurrences_by order)
occurrences_total t = then_total (on_total (λ o. o.message) t) (on_total (λ o. o.ordinal) nat_cmp_total)
