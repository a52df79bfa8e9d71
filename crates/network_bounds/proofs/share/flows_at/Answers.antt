use Rattle.std.proofs.Common.{◌≡◌, ◌≤◌, [], drop, length, subst, ap, ◌∙◌}
use Rattle.std.proofs.lemmas.List.{drop_all}
use Rattle.network_bounds.specs.Mixing.{PortPlan}
use Rattle.network_bounds.proofs.ShareLemmas.{AreTogether, all-there}
use Rattle.network_bounds.proofs.share.flows_at.Goals as goal

pub returns : goal.returns
returns c =
    let port = c.args.port.now in
    let same : c.deref-passing-items.result.now ≡ port.passings = c.deref-passing-items.ensures.value ∙ ap (λ (p : PortPlan). p.passings) c.port.view_is in
    let past : length port.passings ≤ c.loop-passing.passing-index = subst (λ ps. length ps ≤ c.loop-passing.passing-index) same c.loop-passing-test.false in
    let none : drop c.loop-passing.passing-index port.passings ≡ [] = drop_all c.loop-passing.passing-index port.passings past in
    all-there port c.args.by_gap c.args.input c.args.is_high c.loop-passing.share
    (subst (λ rest. AreTogether port c.args.by_gap c.args.input c.args.is_high c.loop-passing.share rest) none c.loop-passing.invariant)
