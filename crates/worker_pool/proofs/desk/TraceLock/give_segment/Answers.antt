use Rattle.std.proofs.Common.{◌≡◌, ◌<◌, length, sym, subst, Option, IfSome}
use Rattle.trace_segments.specs.Words.{SegmentRows}
use Rattle.worker_pool.specs.Segments.{IsGroupSegmentOfRun, IsNextGroupSegment}
use Rattle.worker_pool.proofs.desk.TraceLock.give_segment.Goals as goal

pub take-requires-clause-run : goal.take-requires-clause-run
take-requires-clause-run g c =
    let number = c.args.group.now.number in
    (subst (λ (segment : Option SegmentRows). IfSome segment (λ p. (p.run ≡ 0) × (p.process ≡ number))) c.in-Some.is c.in_ok-segment.ensures.own).0

pub take-requires-clause-group : goal.take-requires-clause-group
take-requires-clause-group g c =
    let number = c.args.group.now.number in
    let named = (subst (λ (segment : Option SegmentRows). IfSome segment (λ p. (p.run ≡ 0) × (p.process ≡ number))) c.in-Some.is c.in_ok-segment.ensures.own).1 in
    subst (λ n. n < length g.J.NetworkRun.names) (sym named) c.number-number.ensures.within

pub take-requires-clause-of_run : goal.take-requires-clause-of_run
take-requires-clause-of_run g c =
    let plan = g.J.NetworkRun.plan in
    let owners = g.J.NetworkRun.owners in
    let group = c.args.group.now in
    let named = (subst (λ (segment : Option SegmentRows). IfSome segment (λ p. (p.run ≡ 0) × (p.process ≡ group.number))) c.in-Some.is c.in_ok-segment.ensures.own).1 in
    let next = subst (λ (segment : Option SegmentRows). IfSome segment (IsNextGroupSegment plan owners group)) c.in-Some.is c.in_ok-segment.ensures.segment in
    (next.interval, subst (λ n. IsGroupSegmentOfRun plan owners n next.interval c.in-Some.segment) (sym named) next.rows)
