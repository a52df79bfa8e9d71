use Rattle.std.proofs.Common.{take, flat_map}
use Rattle.trace_tables.specs.Destinations.{destinations_in}
use Rattle.trace_tables.specs.Text.{destination_line}
use Rattle.trace_segments.specs.Words.{Adds}
use Rattle.trace_tables.proofs.text.push_latencies.Given as goal

abbrev pub invariant-loop-vl : goal.invariant-loop-vl
invariant-loop-vl l = Adds l.initial.out l.out (flat_map (destination_line l.network l.table.entries) (destinations_in (take l.vl l.network.vls)))
