use Rattle.nodes.proofs.MakingLemmas.{made-more}
use Rattle.nodes.proofs.finding.numbers_of.Goals as goal

pub loop-entry-preserved : goal.loop-entry-preserved
loop-entry-preserved g c =
    made-more g.T.Numbered.number c.args.entries.now c.loop-entry.entry-index c.entry-item.result _ c.loop-entry.numbers.items c.push.new.self.items c.loop-entry-test.true c.entry-item.is c.loop-entry.invariant
    c.in_ok-push.ensures.items c.number.ensures
