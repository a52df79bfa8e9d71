use Rattle.std.proofs.Common.{◌≡◌, ◌∙◌, [], sym, arith, eqb-true}
use Rattle.std.proofs.lemmas.List.{nil_from_length}
use Rattle.run_rows.proofs.CountedRun.{batch-known}
use Rattle.run_rows.proofs.counted.Counted.take.Goals as goal

pub invariant_of-self-2 : goal.invariant_of-self-2
invariant_of-self-2 g c =
    let old = c.args.self.now in
    let batch = c.args.batch.now in
    let empty = eqb-true _ _ (sym c.is_empty.ensures ∙ c.if-not-is_empty.false) in
    let none : old.own.items ≡ [] = nil_from_length old.own.items (let all = old.own.ok.0 in omega arith) in
    record {
      of_run = batch-known g.J.NetworkRun.plan c.args.network.now g.J.NetworkRun.owners c.requires c.rows_law.ensures c.batches_in_order_law.ensures.beginning old.own.items none
          old.end old.tables old.of_run c.in-Some.tables (sym c.take.ensures.value ∙ c.in-Some.is) batch.batch batch.of_run (omega arith)
          c.rows.result.now c.in-Ok.tables c.rows.ensures c.in-Ok.ensures c.to-self.result c.to-self.ensures;
    }
