use Rattle.std.proofs.Common.{◌≤◌, arith}
use Rattle.vlink.specs.declared.time.TheConstants.{LATEST_NS}
use Rattle.plan_numbers.proofs.Networks.{never}
use Rattle.plan_numbers.proofs.numbers_law.Goals as goal

pub returns : goal.returns
returns c =
    let plan = c.args.network.now in
    let until : plan.until ≤ LATEST_NS =
    let a = c.until-until.ensures.value in
    let b = c.until-until.ensures.greatest in
    omega arith
    in
    λ few k from_first.
    never plan c.network_law.ensures c.layout_law.ensures.placed c.offered_law.ensures.nodes c.ports_law.ensures.lead c.ports_law.ensures.ways c.links_law.ensures.transits c.links_law.ensures.empty
    until few k
