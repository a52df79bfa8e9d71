use Rattle.std.proofs.Common.{◌≡◌, ◌∙◌, ◌≤◌, ◌^◌, List, [], length, Result, Ok, Err, IfOk, OnOk, refl, ap, subst, arith}
use Rattle.actor_run.specs.declared.fault.SimFault.{SimFault}
use Rattle.vlink.specs.Letters.{Row}
use Rattle.vlink.specs.declared.message.Message.{Message}
use Rattle.virtual_time.specs.Law.{Laws}
use Rattle.network.specs.Words.{Plan}
use Rattle.traffic.specs.Offers.{offers_of}
use Rattle.nodes.specs.Words.{simulation_of}
use Rattle.trace_tables.specs.Tables.{TableLists, tables_of}
use Rattle.seqsim.specs.Networks.{AreRowsOf, setting_of}
use Rattle.network_actors.proofs.NetworkLemmas.{opened}
use Rattle.seq_tables.proofs.RowLemmas.{same-rows}
use Rattle.actor_run.proofs.Handling.{started}
use Rattle.actor_run.proofs.Errors.{err-on-ok, passed-short}
use Rattle.seq_tables.proofs.running.run_tables.Goals as goal

pub count_all-requires : goal.count_all-requires
count_all-requires g c =
    let plan = c.args.network.now in
    started (simulation_of plan).rules (setting_of plan) c.in_ok-nodes.nodes.items c.in_ok-offers.offers.items c.in_ok-waiting.waiting []
    (opened plan _ _ _ _ refl refl c.in_ok-nodes.ensures c.in_ok-offers.ensures) c.in_ok-waiting.ensures.offered refl

-- tables of rows of the run are those of all such rows
abbrev AreTablesOfSome : Plan → TableLists → Type 0
AreTablesOfSome plan tables = (rows : List Row) × AreRowsOf plan rows × (tables ≡ tables_of plan rows)

abbrev AreTablesOfEach : Plan → TableLists → Type 0
AreTablesOfEach plan tables = (rows : List Row) → AreRowsOf plan rows → tables ≡ tables_of plan rows

each-of : (plan : Plan) → Laws (simulation_of plan) → (result : Result TableLists SimFault) → IfOk result (AreTablesOfSome plan) → IfOk result (AreTablesOfEach plan)
each-of plan L (Ok tables) some = λ rows r. some.2 ∙ ap (tables_of plan) (same-rows plan L some.0 rows some.1 r)
each-of plan L (Err fault) some = some

pub returns-clause-each : goal.returns-clause-each
returns-clause-each g c = each-of c.args.network.now c.network_law.ensures c.count_all.result c.count_all.ensures.whole

-- the offers are those that stand in memory, so they are few
are-few : (plan : Plan) (here offers : List Message) → here ≡ offers → offers ≡ offers_of plan → length here ≤ 2 ^ 60 → length (offers_of plan) ≤ 2 ^ 60
are-few plan here offers e f l = subst (λ ms. length ms ≤ 2 ^ 60) (e ∙ f) l

-- and no process lacks numbers
pub returns-clause-exhausted : goal.returns-clause-exhausted
returns-clause-exhausted g c = λ e.
    let lacks = c.count_all.ensures.exhausted e in
    c.numbers_law.ensures (are-few c.args.network.now _ _ c.as_slice.ensures.value c.in_ok-offers.ensures c.few_law.ensures) lacks.0 (omega arith) lacks.1

has-numbers : {X : Type 0} (r : Result X SimFault) (Y : Type 0) → Y → OnOk r Y
has-numbers (Ok x) Y y = y
has-numbers (Err e) Y y = tt

pub returns-clause-numbers : goal.returns-clause-numbers
returns-clause-numbers g c = has-numbers c.count_all.result _ (c.numbers_law.ensures (are-few c.args.network.now _ _ c.as_slice.ensures.value c.in_ok-offers.ensures c.few_law.ensures))

pub returns-in_err-offers-clause-exhausted : goal.returns-in_err-offers-clause-exhausted
returns-in_err-offers-clause-exhausted g c = λ e. passed-short c.from_residual.result c.from_residual.ensures.1 refl e

pub returns-in_err-offers-clause-numbers : goal.returns-in_err-offers-clause-numbers
returns-in_err-offers-clause-numbers g c = err-on-ok _ _ c.from_residual.result c.from_residual.ensures.1

pub returns-in_err-nodes-clause-exhausted : goal.returns-in_err-nodes-clause-exhausted
returns-in_err-nodes-clause-exhausted g c = λ e. passed-short c.from_residual-in_err-nodes.result c.from_residual-in_err-nodes.ensures.1 refl e

pub returns-in_err-nodes-clause-numbers : goal.returns-in_err-nodes-clause-numbers
returns-in_err-nodes-clause-numbers g c = err-on-ok _ _ c.from_residual-in_err-nodes.result c.from_residual-in_err-nodes.ensures.1

pub returns-in_err-waiting-clause-exhausted : goal.returns-in_err-waiting-clause-exhausted
returns-in_err-waiting-clause-exhausted g c = λ e. passed-short c.from_residual-in_err-waiting.result c.from_residual-in_err-waiting.ensures.1 c.in_err-waiting.ensures.memory e

pub returns-in_err-waiting-clause-numbers : goal.returns-in_err-waiting-clause-numbers
returns-in_err-waiting-clause-numbers g c = err-on-ok _ _ c.from_residual-in_err-waiting.result c.from_residual-in_err-waiting.ensures.1
