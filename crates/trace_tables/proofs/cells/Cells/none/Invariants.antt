use Rattle.std.proofs.Common.{◌≡◌, [], map, take}
use Rattle.trace_tables.specs.Cells.{cell_of, starts_from}
use Rattle.trace_tables.specs.Destinations.{destinations_in}
use Rattle.trace_tables.proofs.cells.Cells.none.Given as goal

abbrev pub invariant-loop-vl : goal.invariant-loop-vl
invariant-loop-vl l = record {
  starts : l.starts.items ≡ starts_from 0 (take l.vl l.network.vls);
  cells : l.cells.items ≡ map (cell_of []) (destinations_in (take l.vl l.network.vls));
}
