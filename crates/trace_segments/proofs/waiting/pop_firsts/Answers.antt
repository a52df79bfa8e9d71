use Rattle.std.proofs.Common.{drop, ap, ◌∙◌, arith, length-set, slice_set}
use Rattle.std.proofs.lemmas.List.Edits.{map_over_more}
use Rattle.trace_segments.proofs.waiting.pop_firsts.Goals as goal

pub loop-place-preserved : goal.loop-place-preserved
loop-place-preserved c =
    let items = c.loop-place.waiting.items in
    let place = c.loop-place.place in
    record {
      as_many = length-set items place c.pop_first.new.self ∙ c.loop-place.invariant.as_many;
      popped = ap (slice_set items place) c.pop_first.ensures
          ∙ map_over_more (drop 1) c.args.waiting.now.items items place c.index_mut.result.now (omega arith) c.loop-place.invariant.popped c.index_mut.ensures.value;
    }
