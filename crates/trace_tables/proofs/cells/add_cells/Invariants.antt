use Rattle.std.proofs.Common.{◌≡◌, ◌++◌, [], map, take}
use Rattle.vlink.specs.declared.frame.VlId.{VlId}
use Rattle.trace_tables.specs.Cells.{cell_of}
use Rattle.trace_tables.specs.Destinations.{destination}
use Rattle.trace_tables.proofs.cells.add_cells.Given as goal

abbrev pub invariant-loop : goal.invariant-loop
invariant-loop l = (vl : VlId) → l.cells.items ≡ l.initial.cells.items ++ map (cell_of []) (map (destination vl) (take l.counter l.places))
