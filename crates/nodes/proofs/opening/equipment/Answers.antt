use Rattle.std.proofs.Common.{◌≡◌, ◌-◌, ◌≤◌, length, arith}
use Rattle.nodes.proofs.OpeningLemmas.{line-made}
use Rattle.nodes.proofs.opening.equipment.Goals as goal

pub line-requires : goal.line-requires
line-requires c = omega (arith, c.requires, c.line_count-lines.ensures.links)

pub returns : goal.returns
returns c =
    let plan = c.args.network.now in
    let place = c.from-2.result - c.node_count-nodes.result in
    let behind : length plan.nodes ≤ c.args.process = omega arith in
    let is : place ≡ c.args.process - length plan.nodes = omega arith in
    line-made plan c.args.process place c.in_ok-line.field-0 behind is c.in_ok-line.ensures
