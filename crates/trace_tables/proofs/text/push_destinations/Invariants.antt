use Rattle.std.proofs.Common.{map, take, flat_map}
use Rattle.trace_tables.specs.Destinations.{destination}
use Rattle.trace_tables.specs.Text.{destination_line}
use Rattle.trace_segments.specs.Words.{Adds}
use Rattle.trace_tables.proofs.text.push_destinations.Given as goal

abbrev pub invariant-loop-place : goal.invariant-loop-place
invariant-loop-place l = Adds l.initial.out l.out (flat_map (destination_line l.network l.table.entries) (map (destination l.vl) (take l.place-index l.places)))
