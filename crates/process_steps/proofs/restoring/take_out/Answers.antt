use Rattle.std.proofs.Common.{◌++◌, map, ap, ◌∙◌, arith}
use Rattle.std.proofs.lemmas.List.{drop_all}
use Rattle.virtual_time.specs.Law.{plus_of}
use Rattle.vlink.specs.Order.{message_order}
use Rattle.antimessages.specs.Counting.{signed_count}
use Rattle.process_steps.proofs.Tallied.{taken-next}
use Rattle.process_steps.proofs.restoring.take_out.Goals as goal

pub loop-taken-preserved : goal.loop-taken-preserved
loop-taken-preserved g c = λ before counts not_owed.
    let l = c.len-taken-end.ensures in
    let t = c.loop-taken-test.true in
    taken-next c.order_law.ensures c.args.done.now.items c.loop-taken.taken c.index.result.now (omega arith) c.index.ensures before c.loop-taken.tally c.take_present.new.self
    (c.loop-taken.invariant before counts not_owed) (not_owed c.index.result.now.message) c.take_present.ensures.present

pub returns : goal.returns
returns g c = λ before is_tally counts not_owed.
    let l = c.len-taken-end.ensures in
    let t = c.loop-taken-test.false in
    c.counts_law.ensures.told before is_tally (λ m. c.loop-taken.invariant before counts not_owed m ∙
    ap (λ es. signed_count message_order m (map (λ e. plus_of e.message) es ++ before)) (drop_all c.loop-taken.taken c.args.done.now.items (omega arith)))
