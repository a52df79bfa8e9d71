use Rattle.std.proofs.Common.{◌≡◌, suc, ◌+◌, ◌-◌, length, map, slice_index_or, sym, ap, ◌∙◌, subst, arith}
use Rattle.std.proofs.lemmas.List.{take_all}
use Rattle.vlink.specs.Order.{message_order}
use Rattle.virtual_time.specs.Law.{before}
use Rattle.process_queues.proofs.Before.{firsts, before-all, before-less}
use Rattle.process_queues.proofs.late.done_before.Goals as goal

pub loop-late-init : goal.loop-late-init
loop-late-init g c =
    ap (λ es. length (before message_order c.args.message.now (map (λ e. e.message) es)))
    (sym (take_all _ c.args.done.now.items (let l = c.len-events.ensures in omega arith)))

pub returns-then-is_before : goal.returns-then-is_before
returns-then-is_before g c =
    let e = c.index.result.now in
    let l = c.len-events.ensures in
    let t = c.loop-late-test.true in
    let i = c.loop-late.invariant in
    let all = before-all c.order_law.ensures c.args.message.now c.args.done.now.items (c.len-events.result - c.loop-late.late) (c.len-events.result - 1 - c.loop-late.late)
    e (omega arith) (omega arith) c.index.ensures c.requires (sym c.if-is_before.ensures) in
    omega arith

pub loop-late-preserved : goal.loop-late-preserved
loop-late-preserved g c =
    let done = c.args.done.now.items in
    let e = c.index.result.now in
    let l = c.len-events.ensures in
    let t = c.loop-late-test.true in
    let k = c.len-events.result - (c.loop-late.late + 1) in
    let place : c.len-events.result - 1 - c.loop-late.late ≡ k = omega arith in
    let next : c.len-events.result - c.loop-late.late ≡ suc k = omega arith in
    c.loop-late.invariant ∙
    before-less c.order_law.ensures c.args.message.now done (c.len-events.result - c.loop-late.late) k e next (omega arith)
    (subst (λ i. e ≡ slice_index_or done i e) place c.index.ensures) (sym c.if-is_before.ensures)

pub returns : goal.returns
returns g c =
    let t = c.loop-late-test.false in
    let none : c.len-events.result - c.loop-late.late ≡ 0 = omega arith in
    sym (c.loop-late.invariant ∙ ap (λ n. length (before message_order c.args.message.now (firsts n c.args.done.now.items))) none)
