use Rattle.std.proofs.Common.{◌∷◌, ◌++◌, map, drop, subst, ◌∙◌}
use Rattle.virtual_time.specs.Law.{plus_of}
use Rattle.vlink.specs.Order.{message_order}
use Rattle.antimessages.specs.Counting.{HaveSameCounts}
use Rattle.antimessages.proofs.Agreeing.{added-same_counts, same_counts-cons}
use Rattle.process_steps.proofs.restoring.tally_all.Goals as goal

pub returns-in-Ok-clause-counts : goal.returns-in-Ok-clause-counts
returns-in-Ok-clause-counts g c =
    let l = c.args.letter in
    let old = c.tally_back-tallied.new.tally in
    let rest = map (λ e. plus_of e.message) (drop c.args.place c.args.done.now.items) ++ c.args.tally.now in
    let added : HaveSameCounts message_order c.add.new.self (l ∷ old) = added-same_counts message_order c.order_law.ensures l c.add.new.self old c.in-Ok.ensures.count c.in-Ok.ensures.others in
    let counts : HaveSameCounts message_order old rest =
    subst (λ i. HaveSameCounts message_order old (map (λ e. plus_of e.message) (drop i c.args.done.now.items) ++ c.args.tally.now)) c.if-tallied-place.false c.tally_back-tallied.ensures.counts in
    λ m. added m ∙ same_counts-cons message_order l old rest counts m
