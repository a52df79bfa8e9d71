use Rattle.nodes.specs.Words.{opening}
use Rattle.network_actors.proofs.StatesLemmas.{states-more}
use Rattle.network_actors.proofs.opening.nodes_of.Goals as goal

pub loop-process-preserved : goal.loop-process-preserved
loop-process-preserved c =
    states-more c.loop-process.process (opening c.args.network.now) c.loop-process.nodes.items c.push.new.self.items c.in_ok-new.field-0 c.loop-process.invariant c.in_ok-push.ensures.items c.in_ok-new.ensures
