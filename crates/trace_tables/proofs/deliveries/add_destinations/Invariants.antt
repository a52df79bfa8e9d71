use Rattle.std.proofs.Common.{◌≡◌, List, map, take}
use Rattle.vlink.specs.Letters.{Row}
use Rattle.trace_tables.specs.Cells.{AreCellsFrom}
use Rattle.trace_tables.specs.Destinations.{destination, with_destinations}
use Rattle.trace_tables.proofs.deliveries.add_destinations.Given as goal

abbrev pub invariant-loop-at : goal.invariant-loop-at
invariant-loop-at l =
    (rows : List Row) → AreCellsFrom rows l.start (map (destination l.vl) l.places) l.cells →
    l.table.entries ≡ with_destinations rows l.initial.table.entries (map (destination l.vl) (take l.at l.places))
