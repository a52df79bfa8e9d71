use Rattle.std.proofs.Common.{arith}
use Rattle.group_boxes.proofs.Lists.{times-more}
use Rattle.group_boxes.proofs.carrying.earliest_of.Goals as goal

pub loop-letter-preserved : goal.loop-letter-preserved
loop-letter-preserved c =
    let more = times-more c.args.moment c.args.letters.now c.loop-letter.letter-index c.letter-item.result c.loop-letter-test.true c.letter-item.is in
    omega (arith, c.earlier-earliest.ensures)
