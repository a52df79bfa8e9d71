use Rattle.std.proofs.Common.{take, flat_map}
use Rattle.trace_segments.specs.Words.{trace_line, Adds}
use Rattle.trace_segments.proofs.trace.push_rows.Given as goal

abbrev pub invariant-loop-row : goal.invariant-loop-row
invariant-loop-row l = Adds l.initial.out l.out (flat_map (trace_line l.network) (take l.row-index l.rows))
