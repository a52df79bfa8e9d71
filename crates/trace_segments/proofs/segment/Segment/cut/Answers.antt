use Rattle.std.proofs.Common.{◌+◌, refl}
use Rattle.trace_segments.specs.Words.{cut}
use Rattle.trace_segments.proofs.IntervalLemmas.{within-at}
use Rattle.trace_segments.proofs.segment.Segment.cut.Goals as goal

pub returns-clause-segment : goal.returns-clause-segment
returns-clause-segment c =
    let until = c.args.until in
    let k = c.args.k in
    rw (c.in_ok-rows.ensures, c.cut-from.ensures, c.cut-to.ensures, within-at c.args.process (cut until k) (cut until (k + 1)) c.args.rows.now) refl
