use Rattle.std.proofs.Common.{◌∙◌, ap, min, sym, take_all}
use Rattle.vlink.specs.Order.{message_order}
use Rattle.virtual_time.specs.Law.{lowest, times_of}
use Rattle.group_boxes.proofs.Lists.{times-more}
use Rattle.group_turns.proofs.letters.least_ns.Goals as goal

pub loop-letter-preserved : goal.loop-letter-preserved
loop-letter-preserved c =
    c.earlier-least_ns.ensures ∙ (ap (λ t. min t c.loop-letter.least_ns) c.ns.ensures.value ∙ (ap (min c.letter-item.result.message.time) c.loop-letter.invariant
    ∙ sym (times-more 18446744073709551615 c.args.letters.now c.loop-letter.letter-index c.letter-item.result c.loop-letter-test.true c.letter-item.is)))

pub returns : goal.returns
returns c =
    c.loop-letter.invariant ∙ ap (λ ls. lowest 18446744073709551615 (times_of message_order ls))
    (take_all c.loop-letter.letter-index c.args.letters.now c.loop-letter-test.false)
