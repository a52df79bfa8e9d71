use Rattle.std.proofs.Common.{List, ◌++◌, take}
use Rattle.vlink.specs.Letters.{Row}
use Rattle.trace_tables.specs.SoFar.{AreInTables}
use Rattle.trace_tables.proofs.so_far.count_each.Given as goal

abbrev pub invariant-loop-row : goal.invariant-loop-row
invariant-loop-row l =
    (earlier : List Row) → AreInTables l.network earlier l.initial.cells l.initial.drops.entries →
    AreInTables l.network (earlier ++ take l.row-index l.rows) l.cells l.drops.entries
