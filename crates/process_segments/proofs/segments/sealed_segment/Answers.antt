use Rattle.std.proofs.Common.{◌≡◌, ◌∙◌, ◌↔◌, ◌+◌, ap, Option, IsSome, IfSome}
use Rattle.std.proofs.lemmas.Option.{IfSome_then}
use Rattle.std.proofs.lemmas.Result.{IfOk-weaker}
use Rattle.trace_segments.specs.Words.{cut, HasInterval, SegmentRows, segment_of}
use Rattle.process_segments.specs.Segments.{IsIntervalSealed, IsSegmentOfRun}
use Rattle.process_segments.proofs.SegmentRows.{segment-at, some-at}
use Rattle.process_segments.proofs.segments.sealed_segment.Goals as goal

pub returns-clause-own : goal.returns-clause-own
returns-clause-own g c =
    IfOk-weaker c.cut.result (λ (segment : Option SegmentRows). IfSome segment (λ p. p ≡ segment_of 0 c.number.result c.args.k c.args.until c.rows_between-rows.result.now))
    (λ segment. IfSome segment (λ p. (p.run ≡ 0) × (p.process ≡ c.args.held.now.number)))
    (λ segment h. IfSome_then segment h (λ p is. (ap (λ (z : SegmentRows). z.run) is, ap (λ (z : SegmentRows). z.process) is ∙ c.number.ensures.number)))
    c.cut.ensures.segment

pub returns-clause-ends : goal.returns-clause-ends
returns-clause-ends g c =
    IfOk-weaker c.cut.result (λ (segment : Option SegmentRows). IfSome segment (λ p. p ≡ segment_of 0 c.number.result c.args.k c.args.until c.rows_between-rows.result.now))
    (λ segment. IfSome segment (λ p. (p.from ≡ cut c.args.until c.args.k) × (p.to ≡ cut c.args.until (c.args.k + 1))))
    (λ segment h. IfSome_then segment h (λ p is. (ap (λ (z : SegmentRows). z.from) is, ap (λ (z : SegmentRows). z.to) is)))
    c.cut.ensures.segment

pub returns-clause-segment : goal.returns-clause-segment
returns-clause-segment g c =
    let plan = g.J.NetworkRun.plan in
    let held = c.args.held.now in
    let good = c.is_committed_before.ensures.0 c.if-not-is_committed_before.false in
    IfOk-weaker c.cut.result (λ (segment : Option SegmentRows). IfSome segment (λ p. p ≡ segment_of 0 c.number.result c.args.k c.args.until c.rows_between-rows.result.now))
    (λ segment. IfSome segment (IsSegmentOfRun plan held.number c.args.k))
    (λ segment h. IfSome_then segment h (segment-at plan c.args.k c.args.until c.cut-from.result c.cut-to.result c.requires.until
    c.cut-from.ensures c.cut-to.ensures held.number c.number.result c.number.ensures.number c.rows_between-rows.result.now
    (c.rows_between-rows.ensures.whole good.0 good.1)))
    c.cut.ensures.segment

pub returns-clause-some : goal.returns-clause-some
returns-clause-some g c =
    let plan = g.J.NetworkRun.plan in
    let held = c.args.held.now in
    let good = c.is_committed_before.ensures.0 c.if-not-is_committed_before.false in
    IfOk-weaker c.cut.result (λ (segment : Option SegmentRows). IsSome segment ↔ HasInterval c.args.until c.args.k) (λ segment. IsSome segment ↔ IsIntervalSealed plan c.args.k held)
    (λ segment. some-at plan c.args.k c.args.until c.cut-from.result c.cut-to.result c.requires.until
    c.cut-from.ensures c.cut-to.ensures held c.requires.there good (IsSome segment))
    c.cut.ensures.some
