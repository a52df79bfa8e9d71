use Rattle.std.proofs.Common.{◌∷◌, List, subst, ap}
use Rattle.vlink.specs.Letters.{Letter}
use Rattle.vlink.specs.Order.{message_order}
use Rattle.antimessages.specs.Counting.{HaveSameCounts}
use Rattle.antimessages.proofs.Agreeing.{added-same_counts}
use Rattle.group_queues.proofs.letters.Letters.tally.Goals as goal

pub returns-clause-counts : goal.returns-clause-counts
returns-clause-counts c =
    subst (λ (xs : List Letter). HaveSameCounts message_order c.add.new.self (c.args.letter.now ∷ xs)) (ap (λ z. z.extra) c.self.view_is)
    (added-same_counts message_order c.order_law.ensures c.args.letter.now c.add.new.self c.self.inside.extra c.in_ok-add.ensures.count c.in_ok-add.ensures.others)
