use Rattle.std.proofs.Common.{◌∙◌, sym}
use Rattle.run_rows.proofs.CountedRun.{rows-known}
use Rattle.run_rows.proofs.counted.Counted.take_of_group.Goals as goal

pub invariant_of-self-2 : goal.invariant_of-self-2
invariant_of-self-2 g c =
    let old = c.args.self.now in
    record {
      of_run = rows-known g.J.NetworkRun.plan c.args.network.now g.J.NetworkRun.owners c.requires.network c.rows_law.ensures c.batches_in_order_law.ensures.beginning old.own.items
          old.end c.args.group c.args.to c.requires.listed c.requires.later old.tables old.of_run c.in-Some.tables (sym c.take.ensures.value ∙ c.in-Some.is) c.args.rows.now
          c.in_ok-tables.tables c.requires.of_group c.in_ok-tables.ensures;
    }
