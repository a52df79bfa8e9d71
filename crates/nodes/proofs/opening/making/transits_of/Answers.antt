use Rattle.std.proofs.Common.{◌∙◌}
use Rattle.nodes.specs.Words.{transit_met}
use Rattle.nodes.proofs.MakingLemmas.{made-more}
use Rattle.nodes.proofs.opening.making.transits_of.Goals as goal

pub loop-met-preserved : goal.loop-met-preserved
loop-met-preserved c =
    let m = c.met-item.result in
    made-more (transit_met c.args.departing.now) c.args.arriving.now c.loop-met.met-index m _ c.loop-met.transits.items c.push.new.self.items c.loop-met-test.true c.met-item.is c.loop-met.invariant
    c.in_ok-push.ensures.items (λ j. record {
      vl = m.link.id;
      smax = m.link.smax;
      input = m.first;
      priority = c.port_priority.ensures j;
      outputs = (c.new.ensures ∙ c.ports_among.ensures) j;
      account = c.account_of.ensures j;
    })
