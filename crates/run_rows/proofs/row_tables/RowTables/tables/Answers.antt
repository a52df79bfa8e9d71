use Rattle.std.proofs.Common.{◌∙◌, map, sym, ap, subst}
use Rattle.network.specs.Words.{Plan}
use Rattle.trace_tables.specs.SoFar.{IsSoFar}
use Rattle.trace_tables.specs.Tables.{tables_of}
use Rattle.run_rows.proofs.Counting.{known-so-far}
use Rattle.run_rows.proofs.row_tables.RowTables.tables.Goals as goal

pub tables-requires : goal.tables-requires
tables-requires g c =
    let rows = map (λ s. s.value) c.self.inside.rows.items in
    (rows, subst (λ p. IsSoFar p c.self.inside.tables rows) (sym c.requires) (known-so-far g.J.NetworkRun.plan c.self.inside.tables rows c.self.invariant))

pub returns : goal.returns
returns g c =
    let plan = g.J.NetworkRun.plan in
    let rows = map (λ s. s.value) c.self.inside.rows.items in
    let so_far = subst (λ p. IsSoFar p c.self.inside.tables rows) (sym c.requires) (known-so-far plan c.self.inside.tables rows c.self.invariant) in
    c.in_ok-tables.ensures rows so_far ∙ (ap (λ (p : Plan). tables_of p rows) c.requires ∙ ap (tables_of plan) c.self.view_is)
