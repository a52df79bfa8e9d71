use Rattle.network_actors.proofs.NetworkLemmas.{of-network, laid-out}
use Rattle.network_actors.proofs.networks.layout_law.Goals as goal

pub returns : goal.returns
returns c =
    let plan = c.args.network.now in
    let O = c.actor_rules_law.ensures.order in
    laid-out plan O c.accepted_law.ensures (c.offers_law.ensures.laws _ (of-network plan O))
