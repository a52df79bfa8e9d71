use Rattle.std.proofs.Common.{◌∷◌, ap, subst}
use Rattle.vlink.specs.Order.{message_order}
use Rattle.virtual_time.specs.Law.{plus_of}
use Rattle.antimessages.specs.Counting.{HaveSameCounts}
use Rattle.antimessages.proofs.Agreeing.{added-same_counts}
use Rattle.group_queues.proofs.letters.Letters.count_again.Goals as goal

pub returns-clause-extra : goal.returns-clause-extra
returns-clause-extra c =
    let m = c.args.message.now in
    let law = c.order_law.ensures in
    subst (λ z. HaveSameCounts message_order c.add.new.self (plus_of m ∷ z)) (ap (λ z. z.extra) c.self.view_is)
    (added-same_counts message_order (record { irreflexive = law.irreflexive; transitive = law.transitive; total = law.total; by_time = law.by_time }) (plus_of m) c.add.new.self c.self.inside.extra
    c.in_ok-add.ensures.count c.in_ok-add.ensures.others)
