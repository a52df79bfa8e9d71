use Rattle.std.proofs.Common.{◌+◌, take, sym, subst, take_all, arith}
use Rattle.network.specs.Words.{lines_of}
use Rattle.network_bounds.specs.Delays.{AreBounds, IsBound}
use Rattle.network_bounds.specs.Sizes.{sizes_by}
use Rattle.network_bounds.proofs.TextLemmas.{bounds-more, port-there}
use Rattle.network_bounds.proofs.write.bounds_of.Goals as goal

pub loop-line-preserved : goal.loop-line-preserved
loop-line-preserved c =
    let plan = c.args.network.now in
    let known = sizes_by plan c.args.known.now in
    let there = port-there known plan c.loop-line.line c.in_ok-port.port c.in_ok-port.ensures in
    subst (λ items. AreBounds known plan (take (c.loop-line.line + 1) (lines_of plan)) items) (sym c.in_ok-push.ensures.items)
    (bounds-more known plan c.loop-line.line there.0 c.loop-line.bounds.items c.of.result there.1 c.loop-line.invariant
    (subst (λ port. IsBound port c.of.result) (sym there.2) c.of.ensures))

pub returns : goal.returns
returns c =
    subst (λ lines. AreBounds (sizes_by c.args.network.now c.args.known.now) c.args.network.now lines c.loop-line.bounds.items)
    (take_all c.loop-line.line (lines_of c.args.network.now) (omega (arith, c.loop-line-test.false, c.line_count-line-end.ensures.value))) c.loop-line.invariant
