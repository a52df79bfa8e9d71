use Rattle.std.proofs.Common.{◌++◌, ◌∷◌, [], take, get_or, sym, ap, ◌∙◌, arith, append_assoc}
use Rattle.group_queues.specs.declared.block.Word.TheVariants.{Committed}
use Rattle.group_queues.specs.Sealing.{words_of}
use Rattle.group_queues.proofs.Forgetting.{as-seen, seen-at, word-next}
use Rattle.group_queues.proofs.committing.tell_committed.Goals as goal

pub offset_bounds-events-place : goal.offset_bounds-events-place
offset_bounds-events-place g c =
    let all = as-seen c.done.inside.events.items c.done.inside.sends.items c.done.inside.rows.items c.args.done.now.events c.as_slice-events.result.now (ap (λ z. z.events) c.done.view_is)
    c.as_slice-events.ensures in
    omega (arith, all, c.loop-place-test.true, c.requires.enough)

pub bounds-events-place : goal.bounds-events-place
bounds-events-place g c =
    let all = as-seen c.done.inside.events.items c.done.inside.sends.items c.done.inside.rows.items c.args.done.now.events c.as_slice-events.result.now (ap (λ z. z.events) c.done.view_is)
    c.as_slice-events.ensures in
    omega (arith, all, c.loop-place-test.true, c.requires.enough)

pub bounds-events-place-in-loop-place : goal.bounds-events-place-in-loop-place
bounds-events-place-in-loop-place g c =
    let all = as-seen c.done.inside.events.items c.done.inside.sends.items c.done.inside.rows.items c.args.done.now.events c.as_slice-events.result.now (ap (λ z. z.events) c.done.view_is)
    c.as_slice-events.ensures in
    omega (arith, all, c.loop-place-test.true, c.requires.enough)

pub loop-place-preserved : goal.loop-place-preserved
loop-place-preserved g c =
    let known = c.loop-place.invariant in
    let ds = c.args.done.now.events in
    let k = c.loop-place.place in
    let m = (get_or c.as_slice-events.result.now c.loop-place.place c.index-events-place.result).message in
    let all = as-seen c.done.inside.events.items c.done.inside.sends.items c.done.inside.rows.items ds c.as_slice-events.result.now (ap (λ z. z.events) c.done.view_is) c.as_slice-events.ensures in
    let at = seen-at c.done.inside.events.items c.done.inside.sends.items c.done.inside.rows.items ds c.as_slice-events.result.now k c.index-events-place.result
    (ap (λ z. z.events) c.done.view_is) c.as_slice-events.ensures (omega (arith, all, c.loop-place-test.true, c.requires.enough)) in
    record {
      words = c.push_reserved.ensures.words ∙ (ap (λ z. z ++ Committed m.receiver ∷ []) known.words ∙
          (append_assoc c.args.block.now.words (words_of (take k ds)) (Committed m.receiver ∷ []) ∙ ap (λ z. c.args.block.now.words ++ z) (sym (word-next k ds m at))));
      keeps = c.push_reserved.ensures.keeps ∙ known.keeps;
      room = let a = c.push_reserved.ensures.room in let b = known.room in omega (arith, a, b);
    }
