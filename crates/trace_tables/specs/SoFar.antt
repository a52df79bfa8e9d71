-- The tables of rows so far, while more rows come.
use Rattle.std.specs.Prelude.{ℕ, ◌≡◌, ◌≤◌, ◌^◌, length, List, ◌++◌}
use Rattle.vlink.specs.Letters.{Row}
use Rattle.network.specs.Words.{Plan}
use Rattle.trace_tables.specs.declared.loss.Loss.{Loss}
use Rattle.trace_tables.specs.Cells.{CellLists, cells_of, other_drops}

-- the cells of destinations, and the losses that are counted in no cell; of how many rows; and rows that are kept to be counted later
pub record SoFarLists : Type 0 where
  pub cells : CellLists
  pub drops : List (Loss × ℕ)
  pub counted : ℕ
  pub rest : List Row

-- what the rows tell is counted
pub record AreInTables (plan : Plan) (rows : List Row) (cells : CellLists) (drops : List (Loss × ℕ)) : Type 0 where
  pub at_destinations : cells ≡ cells_of plan.vls rows
  pub elsewhere : drops ≡ other_drops plan rows

-- the rows so far: the first of them are counted, which are at most 2 ^ 63, and the rest of them is kept
pub record IsSoFar (plan : Plan) (tables : SoFarLists) (rows : List Row) : Type 0 where
  pub first : List Row
  pub split : rows ≡ first ++ tables.rest
  pub many : tables.counted ≡ length first
  pub few : length first ≤ 2 ^ 63
  pub counts : AreInTables plan first tables.cells tables.drops
