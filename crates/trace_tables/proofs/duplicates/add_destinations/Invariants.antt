use Rattle.std.proofs.Common.{◌≡◌, List, map, take}
use Rattle.vlink.specs.Letters.{Row}
use Rattle.trace_tables.specs.Cells.{with_duplicates, AreCellsFrom}
use Rattle.trace_tables.specs.Destinations.{destination}
use Rattle.trace_tables.proofs.duplicates.add_destinations.Given as goal

abbrev pub invariant-loop-at : goal.invariant-loop-at
invariant-loop-at l =
    (rows : List Row) → AreCellsFrom rows l.start (map (destination l.vl) l.places) l.cells →
    l.drops.entries ≡ with_duplicates l.network rows l.initial.drops.entries (map (destination l.vl) (take l.at l.places))
