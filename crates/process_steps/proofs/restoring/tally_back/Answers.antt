use Rattle.std.proofs.Common.{◌≡◌, suc, ◌+◌, ◌-◌, ◌++◌, map, drop, slice_index_or, sym, ap, subst, arith}
use Rattle.std.proofs.lemmas.List.{drop_all}
use Rattle.virtual_time.specs.Law.{plus_of}
use Rattle.vlink.specs.Order.{message_order}
use Rattle.antimessages.specs.Counting.{signed_count, HaveSameCounts}
use Rattle.antimessages.proofs.Agreeing.{added-same_counts}
use Rattle.process_steps.proofs.Tallied.{tallied-next}
use Rattle.process_steps.proofs.restoring.tally_back.Goals as goal

pub loop-tallied-init : goal.loop-tallied-init
loop-tallied-init g c = λ m.
    ap (λ es. signed_count message_order m (map (λ e. plus_of e.message) es ++ c.args.tally.now)) (sym (drop_all _ c.args.done.now.items (let l = c.len-all.ensures in omega arith)))

pub loop-tallied-preserved : goal.loop-tallied-preserved
loop-tallied-preserved g c =
    let done = c.args.done.now.items in
    let e = c.index.result.now in
    let old = c.loop-tallied.tally in
    let k = c.len-all.result - (c.loop-tallied.tallied + 1) in
    let l = c.len-all.ensures in
    let t = c.loop-tallied-test.true in
    let place : c.len-all.result - 1 - c.loop-tallied.tallied ≡ k = omega arith in
    let next : c.len-all.result - c.loop-tallied.tallied ≡ suc k = omega arith in
    tallied-next done k e (omega arith) (subst (λ i. e ≡ slice_index_or done i e) place c.index.ensures) c.args.tally.now old c.add.new.self
    (added-same_counts message_order c.order_law.ensures (plus_of e.message) c.add.new.self old c.in-Ok.ensures.count c.in-Ok.ensures.others)
    (subst (λ i. HaveSameCounts message_order old (map (λ e. plus_of e.message) (drop i done) ++ c.args.tally.now)) next c.loop-tallied.invariant)
