use Rattle.std.proofs.Common.{◌≡◌, ◌∙◌, ℕ, ◌+◌, List, length, sym, ap, subst, arith, Option, IfSome}
use Rattle.vlink.specs.Letters.{Row}
use Rattle.virtual_time.specs.Law.{Laws}
use Rattle.network.specs.Words.{Plan, process_count}
use Rattle.group_exchange.specs.Keeps.{AreGrouped}
use Rattle.actor_run.proofs.Errors.{ok-weaker}
use Rattle.trace_tables.specs.Tables.{TableLists, tables_of}
use Rattle.seqsim.specs.Networks.{AreRowsOf}
use Rattle.nodes.specs.Words.{simulation_of}
use Rattle.run_rows.specs.Counts.{moment_at, moment_of, AreCountedBefore}
use Rattle.run_rows.specs.Traces.{HasLawfulRows}
use Rattle.worker_pool.proofs.Ended.{in-run, some-rows}
use Rattle.worker_pool.proofs.EndedTables.{AreCountedOf, none-of-groups, one-of-groups, all-of-groups}
use Rattle.worker_pool.proofs.GroupRows.{AreOfGroup}
use Rattle.worker_pool.proofs.Places.{read-at}
use Rattle.worker_pool.proofs.ending.Unlocked.tables.Goals as goal

pub loop-place-init : goal.loop-place-init
loop-place-init g c =
    let plan = g.J.NetworkRun.plan in
    let owners = g.J.NetworkRun.owners in
    let own = c.args.counted.own.items in
    none-of-groups plan owners own c.args.counted.end c.in-Some.tables
    (subst (λ (tables : Option (List Row)). ∥ IfSome tables (AreCountedBefore plan (moment_at owners own c.args.counted.end)) ∥₁) c.in-Some.is c.args.counted.of_run)

pub rows_between-requires : goal.rows_between-requires
rows_between-requires g c =
    let group = c.index-group.result.now in
    let n = c.loop-place.place in
    let at = read-at c.args.self.now.groups.items n group (omega arith) c.index-group.ensures in
    let low = c.requires.counted n group at in
    let moment = c.moment_of-from.ensures in
    let same = ap (λ own. moment_of own c.args.counted.end n) c.as_slice.ensures.value in
    omega arith

pub loop-place-preserved : goal.loop-place-preserved
loop-place-preserved g c =
    let plan = g.J.NetworkRun.plan in
    let owners = g.J.NetworkRun.owners in
    let own = c.args.counted.own.items in
    let end = c.args.counted.end in
    let n = c.loop-place.place in
    let items = c.args.self.now.groups.items in
    let group = c.index-group.result.now in
    let rows = c.rows_between.result.now in
    let from : c.moment_of-from.result ≡ moment_of own end n = c.moment_of-from.ensures ∙ ap (λ z. moment_of z end n) c.as_slice.ensures.value in
    let at = read-at items n group (omega arith) c.index-group.ensures in
    let behind : c.of_known-behind.result ≡ plan.until + 1 = (let until = ap (λ (p : Plan). p.until) c.args.self.now.planned in omega arith) in
    subst (AreCountedOf plan owners own end (n + 1)) (sym c.in_ok-tables.ensures)
    (one-of-groups plan owners own end (subst HasLawfulRows c.args.self.now.planned c.rows_law.ensures) c.batches_in_order_law.ensures.beginning n
    c.loop-place.tables c.loop-place.invariant rows
    (subst (λ (z : ℕ). AreOfGroup plan owners n z (plan.until + 1) rows) from
    (subst (λ (to : ℕ). AreOfGroup plan owners n c.moment_of-from.result to rows) behind
    (in-run plan owners c.args.self.now.exchange.steps items c.requires.ended n group at c.moment_of-from.result c.of_known-behind.result rows behind c.rows_between.ensures.whole))))

pub returns : goal.returns
returns g c =
    let plan = g.J.NetworkRun.plan in
    let owners = g.J.NetworkRun.owners in
    let own = c.args.counted.own.items in
    let end = c.args.counted.end in
    let steps = c.args.self.now.exchange.steps in
    let items = c.args.self.now.groups.items in
    let L = subst (λ z. Laws (simulation_of z)) c.args.self.now.planned c.network_law.ensures in
    let W = c.headline_law.ensures.whole (simulation_of plan) L steps c.requires.ended.finished in
    let some = some-rows plan owners steps items c.requires.ended W in
    let rows = c.loop-place.tables in
    let each = all-of-groups plan owners own end (subst HasLawfulRows c.args.self.now.planned c.rows_law.ensures)
    (c.tables_by_place_law.ensures.by_place plan) c.loop-place.place
    (subst (λ n. AreGrouped (process_count plan) n owners) (let e : length items ≡ c.loop-place.place = omega arith in e) c.requires.ended.grouped) c.loop-place.tables c.loop-place.invariant in
    record {
      whole = ok-weaker (λ (t : TableLists). t ≡ tables_of plan rows) (λ t. (run : List Row) × AreRowsOf plan run × (t ≡ tables_of plan run))
          (λ t e. (some.0, some.1, e ∙ each some.0 some.1)) c.tables.result c.tables.ensures;
      each = ok-weaker (λ (t : TableLists). t ≡ tables_of plan rows) (λ t. (run : List Row) → AreRowsOf plan run → t ≡ tables_of plan run)
          (λ t e run r. e ∙ each run r) c.tables.result c.tables.ensures;
    }
