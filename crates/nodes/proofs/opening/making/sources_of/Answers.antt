use Rattle.nodes.specs.Words.{source_met}
use Rattle.nodes.proofs.MakingLemmas.{made-more}
use Rattle.nodes.proofs.opening.making.sources_of.Goals as goal

pub loop-met-preserved : goal.loop-met-preserved
loop-met-preserved c =
    made-more source_met c.args.meetings.now c.loop-met.met-index c.met-item.result _ c.loop-met.sources.items c.push.new.self.items c.loop-met-test.true c.met-item.is c.loop-met.invariant
    c.in_ok-push.ensures.items (λ j. record { end = c.end_of.ensures j; regulator = c.in_ok-regulator_of.ensures j })
