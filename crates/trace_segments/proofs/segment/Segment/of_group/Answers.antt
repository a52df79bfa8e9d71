use Rattle.std.proofs.Common.{refl}
use Rattle.trace_segments.proofs.segment.Segment.of_group.Goals as goal

pub returns-clause-segment : goal.returns-clause-segment
returns-clause-segment c = rw (c.in_ok-rows.ensures, c.cut-from.ensures, c.cut-to.ensures) refl
