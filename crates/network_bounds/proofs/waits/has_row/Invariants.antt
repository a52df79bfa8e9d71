use Rattle.std.proofs.Common.{◌≡◌, ◌==◌, drop}
use Rattle.std.specs.List.{list_any}
use Rattle.network_bounds.proofs.waits.has_row.Given as goal

abbrev pub invariant-loop-row : goal.invariant-loop-row
invariant-loop-row l = list_any (λ s. s.vl.0 == l.id.0) (drop l.row-index l.rows) ≡ list_any (λ s. s.vl.0 == l.id.0) l.rows
