use Rattle.std.proofs.Common.{◌≡◌, ◌++◌, map, take}
use Rattle.run_rows.proofs.row_tables.tell_rows.Given as goal

abbrev pub invariant-loop-row : goal.invariant-loop-row
invariant-loop-row l = map (λ s. s.value) l.all.items ≡ map (λ s. s.value) l.initial.all.items ++ take l.row-index l.rows
