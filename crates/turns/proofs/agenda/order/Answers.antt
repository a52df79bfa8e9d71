use Rattle.std.proofs.Common.{rules, ap, arith}
use Rattle.std.proofs.lemmas.List.Sorted.{IsNonDecreasingBy-from_sort_by_key}
use Rattle.turns.specs.declared.agenda.Own.{Own}
use Rattle.turns.proofs.Order.{early-more, late-behind}
use Rattle.turns.proofs.agenda.order.Goals as goal

pub returns-then-index-limit_ns-clause-order : goal.returns-then-index-limit_ns-clause-order
returns-then-index-limit_ns-clause-order g c =
    IsNonDecreasingBy-from_sort_by_key (λ (o : Own _ _). o.first_ns) c.sort_unstable_by_key.new.self.items c.sort_unstable_by_key.ensures.sorted (λ a r q k. search rules)

pub returns-then-index-limit_ns-clause-others : goal.returns-then-index-limit_ns-clause-others
returns-then-index-limit_ns-clause-others g c =
    let xs = c.sort_unstable_by_key.new.self.items in
    let at = ap (λ (o : Own _ _). o.first_ns) c.index.ensures in
    late-behind (λ (o : Own _ _). o.first_ns) c.args.limit_ns c.loop-place.place xs c.index.result.now
    (IsNonDecreasingBy-from_sort_by_key (λ (o : Own _ _). o.first_ns) xs c.sort_unstable_by_key.ensures.sorted (λ a r q k. search rules))
    (omega (arith, c.loop-place-test.true, c.len-place-end.ensures)) (omega (arith, at, c.if-index-limit_ns.true))

pub loop-place-preserved : goal.loop-place-preserved
loop-place-preserved g c =
    let at = ap (λ (o : Own _ _). o.first_ns) c.index.ensures in
    early-more (λ (o : Own _ _). o.first_ns) c.args.limit_ns c.loop-place.place c.sort_unstable_by_key.new.self.items c.index.result.now
    (omega (arith, c.loop-place-test.true, c.len-place-end.ensures)) (omega (arith, at, c.if-index-limit_ns.false)) c.loop-place.invariant

pub returns-clause-order : goal.returns-clause-order
returns-clause-order g c =
    IsNonDecreasingBy-from_sort_by_key (λ (o : Own _ _). o.first_ns) c.sort_unstable_by_key.new.self.items c.sort_unstable_by_key.ensures.sorted (λ a r q k. search rules)
