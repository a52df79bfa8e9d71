use Rattle.std.proofs.Common.{arith}
use Rattle.process_queues.specs.Queues.{with_done}
use Rattle.process_queues.proofs.Beside.{one-at}
use Rattle.process_queues.proofs.Places.{commits-from}
use Rattle.process_queues.proofs.committing.committable_of.Goals as goal

pub returns-then-not-is_committable : goal.returns-then-not-is_committable
returns-then-not-is_committable g c =
    let m = c.min-limit.ensures in
    let l = c.len.ensures in
    let t = c.loop-place-test.true in
    let i = c.loop-place.invariant in
    let es = c.args.events.now.items in
    let can = c.if-not-is_committable.ensures (with_done c.args.tally.now es)
    (one-at c.order_law.ensures c.args.tally.now es c.requires c.loop-place.place c.index.result.now (omega arith) c.index.ensures) in
    let z = commits-from (λ e. e.message) c.args.moment (with_done c.args.tally.now es) es c.args.most c.loop-place.place c.index.result.now
    (omega arith) (omega arith) c.index.ensures _ can in
    omega arith

pub loop-place-preserved : goal.loop-place-preserved
loop-place-preserved g c =
    let m = c.min-limit.ensures in
    let l = c.len.ensures in
    let t = c.loop-place-test.true in
    let i = c.loop-place.invariant in
    let es = c.args.events.now.items in
    let can = c.if-not-is_committable.ensures (with_done c.args.tally.now es)
    (one-at c.order_law.ensures c.args.tally.now es c.requires c.loop-place.place c.index.result.now (omega arith) c.index.ensures) in
    let z = commits-from (λ e. e.message) c.args.moment (with_done c.args.tally.now es) es c.args.most c.loop-place.place c.index.result.now
    (omega arith) (omega arith) c.index.ensures _ can in
    omega arith
