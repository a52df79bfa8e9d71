use Rattle.std.proofs.Common.{◌∙◌, ap, sym, subst}
use Rattle.network.specs.Words.{Plan, process_count}
use Rattle.group_exchange.specs.Keeps.{AreGrouped}
use Rattle.group_exchange.specs.Rows.{rows_of_group}
use Rattle.run_rows.specs.Traces.{HasLawfulRows}
use Rattle.worker_pool.proofs.GatheredRun.{none-gathered}
use Rattle.worker_pool.proofs.desk.Desk.new.Goals as goal

pub invariant_of-result : goal.invariant_of-result
invariant_of-result g c =
    let plan = g.J.NetworkRun.plan in
    let owners = g.J.NetworkRun.owners in
    let start = c.args.start.now in
    let groups = start.grouping.groups in
    record {
      of_run = ∣ none-gathered plan owners _ _ _ (sym start.each) (c.until.ensures.value ∙ ap (λ (p : Plan). p.until) start.planned)
          (subst (λ n. AreGrouped (process_count plan) n owners) (sym start.each) (subst (λ (p : Plan). AreGrouped (process_count p) groups owners) start.planned start.grouped.grouped))
          (λ rows r. c.segments_of_rows_law.ensures.none _ _ _ (λ n. rows_of_group owners n rows)) c.in_ok-gather.gather c.in_ok-gather.ensures ∣₁;
      lawful = ∣ subst HasLawfulRows start.planned c.rows_law.ensures ∣₁;
      known = tt;
    }
