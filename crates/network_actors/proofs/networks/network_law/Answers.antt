use Rattle.network_actors.specs.Networks.{setting_of}
use Rattle.network_actors.proofs.networks.network_law.Goals as goal

pub returns : goal.returns
returns c = c.actor_law.ensures (setting_of c.args.network.now) c.layout_law.ensures
