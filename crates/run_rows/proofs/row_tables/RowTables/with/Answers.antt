use Rattle.std.proofs.Common.{List, map, refl, sym, subst}
use Rattle.vlink.specs.Letters.{Row}
use Rattle.trace_tables.specs.SoFar.{IsSoFar}
use Rattle.run_rows.proofs.Counting.{known-so-far, counts-in}
use Rattle.run_rows.proofs.row_tables.RowTables.with.Goals as goal

pub count-requires : goal.count-requires
count-requires g c =
    let rows = map (λ s. s.value) c.self.inside.rows.items in
    (rows, subst (λ p. IsSoFar p c.self.inside.tables rows) (sym c.requires) (known-so-far g.J.NetworkRun.plan c.self.inside.tables rows c.self.invariant))

pub invariant_of-result : goal.invariant_of-result
invariant_of-result g c =
    let plan = g.J.NetworkRun.plan in
    let rows = map (λ s. s.value) c.self.inside.rows.items in
    let so_far = known-so-far plan c.self.inside.tables rows c.self.invariant in
    ∣ subst (λ (all : List Row). IsSoFar plan c.count.new.self all) (sym c.in_ok-tell_rows.ensures)
    (counts-in plan c.args.network.now c.requires c.args.rows.now c.args.rows.now refl c.self.inside.tables c.count.new.self c.in_ok-count.ensures rows so_far) ∣₁
