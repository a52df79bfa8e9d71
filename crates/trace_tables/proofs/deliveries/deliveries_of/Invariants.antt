use Rattle.std.proofs.Common.{◌≡◌, List, [], take}
use Rattle.vlink.specs.Letters.{Row}
use Rattle.trace_tables.specs.Cells.{cells_of}
use Rattle.trace_tables.specs.Destinations.{destinations_in, with_destinations}
use Rattle.trace_tables.proofs.deliveries.deliveries_of.Given as goal

abbrev pub invariant-loop-vl : goal.invariant-loop-vl
invariant-loop-vl l = (rows : List Row) → l.cells ≡ cells_of l.network.vls rows → l.table.entries ≡ with_destinations rows [] (destinations_in (take l.vl l.network.vls))
