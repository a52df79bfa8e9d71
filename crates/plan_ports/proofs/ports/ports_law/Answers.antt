use Rattle.plan_ports.proofs.OwnPorts.{own-ports}
use Rattle.plan_ports.proofs.Ways.{all-lead, line-way}
use Rattle.plan_ports.proofs.ports.ports_law.Goals as goal

pub returns : goal.returns
returns c =
    let plan = c.args.network.now in
    let accepted = c.accepted_law.ensures in
    let own = own-ports plan accepted in
    record { own = own; lead = all-lead plan; ways = λ k line read. line-way plan accepted own k line read }
