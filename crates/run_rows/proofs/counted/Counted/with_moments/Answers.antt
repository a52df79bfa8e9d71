use Rattle.std.proofs.Common.{List, sym, subst}
use Rattle.vlink.specs.Letters.{Row}
use Rattle.run_rows.specs.Counts.{moment_at, AreCountedBefore}
use Rattle.run_rows.proofs.CountedRun.{none-counted}
use Rattle.run_rows.proofs.counted.Counted.with_moments.Goals as goal

pub invariant_of-result : goal.invariant_of-result
invariant_of-result g c =
    let plan = g.J.NetworkRun.plan in
    let owners = g.J.NetworkRun.owners in
    let own = c.args.own.items in
    let end = c.default.result in
    record {
      of_run = ∣ subst (λ (rows : List Row). AreCountedBefore plan (moment_at owners own end) rows) (sym c.in_ok-none.ensures)
          (none-counted plan owners own end c.default.ensures c.requires.first) ∣₁;
    }
