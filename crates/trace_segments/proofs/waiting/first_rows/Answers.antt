use Rattle.std.proofs.Common.{◌++◌, ◌∙◌, ap, sym, take, flat_map, take_all}
use Rattle.trace_segments.specs.Words.{first_of}
use Rattle.trace_segments.proofs.WritingLemmas.{flat_map-more}
use Rattle.trace_segments.proofs.waiting.first_rows.Goals as goal

pub loop-segments-preserved : goal.loop-segments-preserved
loop-segments-preserved c =
    let waiting = c.args.waiting.now in
    let i = c.loop-segments.segments-index in
    c.in_ok-extend_from_slice.ensures.items
    ∙ ap (λ rows. rows ++ c.first.result.now) c.loop-segments.invariant
    ∙ ap (λ rows. flat_map first_of (take i waiting) ++ rows) c.first.ensures
    ∙ sym (flat_map-more first_of waiting i c.segments-item.result c.loop-segments-test.true c.segments-item.is)

pub returns : goal.returns
returns c =
    c.loop-segments.invariant ∙ ap (flat_map first_of) (take_all c.loop-segments.segments-index c.args.waiting.now c.loop-segments-test.false)
