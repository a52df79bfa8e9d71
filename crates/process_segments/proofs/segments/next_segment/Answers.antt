use Rattle.std.proofs.Common.{◌≡◌, ◌∙◌, ◌+◌, sym, ap, subst, Option, IfSome}
use Rattle.trace_segments.specs.Words.{cut, HasInterval, SegmentRows}
use Rattle.process_segments.proofs.SegmentRows.{none-sealed, gone-with}
use Rattle.process_segments.proofs.segments.next_segment.Goals as goal

pub returns-in_default-2-clause-some : goal.returns-in_default-2-clause-some
returns-in_default-2-clause-some g c =
    let plan = g.J.NetworkRun.plan in
    let k = c.in-Some.k in
    let inside = subst (λ until. HasInterval until k) c.requires.until c.in-Some.ensures.some.0 in
    let next = sym c.gone_before.ensures ∙ c.in-Some.ensures.some.1 ∙ ap (λ until. cut until k) c.requires.until in (
      λ e. absurd cc,
      λ S. absurd (none-sealed plan c.args.held.now k inside next (λ s. let some = c.in_ok-segment.ensures.some.1 s in cc) S.0 S.1),
    )

pub returns-clause-given : goal.returns-clause-given
returns-clause-given g c =
    let held = c.args.held.now in
    let until = c.args.until in
    let k = c.in-Some.k in
    let ends = (subst (λ (segment : Option SegmentRows). IfSome segment (λ p. (p.from ≡ cut until k) × (p.to ≡ cut until (k + 1)))) c.in-Some-2.is c.in_ok-segment.ensures.ends).1 in
    gone-with g.J.NetworkRun.plan held until k c.to.result c.in-Some-2.segment.to c.let_rows_go.new.self (sym c.gone_before.ensures ∙ c.in-Some.ensures.some.1) c.to.ensures ends c.let_rows_go.ensures
