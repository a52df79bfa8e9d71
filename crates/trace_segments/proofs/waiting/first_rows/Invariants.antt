use Rattle.std.proofs.Common.{◌≡◌, take, flat_map}
use Rattle.trace_segments.specs.Words.{first_of}
use Rattle.trace_segments.proofs.waiting.first_rows.Given as goal

abbrev pub invariant-loop-segments : goal.invariant-loop-segments
invariant-loop-segments l = l.rows.items ≡ flat_map first_of (take l.segments-index l.waiting)
