use Rattle.std.proofs.Common.{◌≡◌, List, take}
use Rattle.vlink.specs.Letters.{Row}
use Rattle.trace_tables.specs.Cells.{cells_of, with_duplicates}
use Rattle.trace_tables.specs.Destinations.{destinations_in}
use Rattle.trace_tables.proofs.duplicates.add_duplicates.Given as goal

abbrev pub invariant-loop-vl : goal.invariant-loop-vl
invariant-loop-vl l =
    (rows : List Row) → l.cells ≡ cells_of l.network.vls rows →
    l.drops.entries ≡ with_duplicates l.network rows l.initial.drops.entries (destinations_in (take l.vl l.network.vls))
