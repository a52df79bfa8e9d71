use Rattle.std.specs.List.{AllZip}
use Rattle.toml.specs.View.{view}
use Rattle.network_rows.specs.Rows.{MeansRow}
use Rattle.network_rows.proofs.read_row.rows_of_values.Given as goal

-- the rows of the values so far
abbrev pub invariant-loop-value : goal.invariant-loop-value
invariant-loop-value g l = AllZip (λ v row. MeansRow g.R.ReadRow.means (view v) row) l.yielded l.rows.items
