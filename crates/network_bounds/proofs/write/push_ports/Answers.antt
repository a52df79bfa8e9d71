use Rattle.std.proofs.Common.{[], refl}
use Rattle.network_bounds.proofs.TextLemmas.{all-put, none-put, port-put}
use Rattle.network_bounds.proofs.write.push_ports.Goals as goal

pub loop-line-init : goal.loop-line-init
loop-line-init c = ([], none-put c.args.out.now, refl)

pub loop-line-preserved : goal.loop-line-preserved
loop-line-preserved c =
    port-put c.args.network.now c.args.bounds.now c.args.out.now c.loop-line.out c.push_port.new.out c.loop-line.line _ c.loop-line-test.true c.in_ok-push_port.ensures c.loop-line.invariant

pub returns : goal.returns
returns c = all-put c.args.network.now c.args.bounds.now c.args.out.now c.loop-line.out c.loop-line.line c.loop-line-test.false c.loop-line.invariant
