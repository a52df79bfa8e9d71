use Rattle.std.proofs.Common.{slice_get, option_map, [], refl, ap, ◌∙◌, take_all}
use Rattle.virtual_time.specs.Law.{lowest, times_of}
use Rattle.vlink.specs.Order.{message_order}
use Rattle.group_boxes.proofs.Lists.{floor-more, none-falls}
use Rattle.group_exchange.proofs.collecting.lower_floor.Goals as goal

pub loop-letter-init : goal.loop-letter-init
loop-letter-init c = record { floor = none-falls message_order _ [] refl; others = λ q n. refl; groups = refl; until = refl }

pub loop-letter-preserved : goal.loop-letter-preserved
loop-letter-preserved c =
    let old = c.loop-letter.invariant in
    record {
      floor = floor-more c.args.letters.now c.loop-letter.letter-index c.letter-item.result c.loop-letter-test.true c.letter-item.is _ _ _ old.floor c.lower.ensures.lowered;
      others = λ q n. c.lower.ensures.others q n ∙ old.others q n;
      groups = c.lower.ensures.processes ∙ old.groups;
      until = c.lower.ensures.until ∙ old.until;
    }

pub returns-clause-floor : goal.returns-clause-floor
returns-clause-floor c =
    c.loop-letter.invariant.floor ∙ ap (λ ls. option_map (λ d. lowest d (times_of message_order ls)) (slice_get c.args.floors.now.floors c.args.group))
    (take_all c.loop-letter.letter-index c.args.letters.now c.loop-letter-test.false)
