use Rattle.std.proofs.Common.{map, flat_map, take, ap, sym, ◌∙◌}
use Rattle.virtual_time.specs.Law.{lowest, times_of}
use Rattle.vlink.specs.Order.{message_order}
use Rattle.group_boxes.proofs.Lists.{boxes-more}
use Rattle.group_boxes.proofs.carrying.least_time.Goals as goal

pub loop-letters-preserved : goal.loop-letters-preserved
loop-letters-preserved c =
    c.earliest_of-earliest.ensures ∙
    (ap (λ d. lowest d (times_of message_order c.deref.result.now)) c.loop-letters.invariant ∙
    (ap (λ ls. lowest (lowest c.args.moment (times_of message_order (flat_map (λ box. box) (map (λ x. x.items) (take c.loop-letters.letters-index c.args.boxes.now))))) (times_of message_order ls)) c.deref.ensures.value ∙
    sym (boxes-more (λ x. x.items) c.args.moment c.args.boxes.now c.loop-letters.letters-index c.letters-item.result c.loop-letters-test.true c.letters-item.is)))
