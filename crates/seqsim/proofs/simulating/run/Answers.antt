use Rattle.std.proofs.Common.{◌≡◌, Err, refl}
use Rattle.std.proofs.lemmas.Result.{err_from_is_err_and}
use Rattle.actor_run.specs.declared.fault.SimFault.TheVariants.{Exhausted}
use Rattle.network_actors.specs.Networks.{setting_of}
use Rattle.network_actors.proofs.NetworkLemmas.{opened}
use Rattle.actor_run.proofs.Errors.{err-on-ok, passed-short}
use Rattle.seqsim.proofs.simulating.run.Goals as goal

pub run_actors-requires : goal.run_actors-requires
run_actors-requires g c = (
  setting_of c.args.network.now,
  opened c.args.network.now _ _ _ _ c.deref_mut.ensures.value c.deref.ensures.value c.in_ok-nodes.ensures c.in_ok-offers.ensures,
  c.network_law.ensures,
)

pub returns-in_err-rows-clause-exhausted : goal.returns-in_err-rows-clause-exhausted
returns-in_err-rows-clause-exhausted g c = λ e.
    let p = err_from_is_err_and c.from_residual-in_err-rows.result c.from_residual-in_err-rows.ensures.1 in
    let q : p.0 ≡ c.in_err-rows.field-0.0 = p.2 in
    let w : c.run_actors.result ≡ Err c.in_err-rows.field-0.0 = c.in_err-rows.was in
    let k : c.run_actors.result ≡ Err Exhausted = cc in
    c.run_actors.ensures.exhausted k (setting_of c.args.network.now)
    (opened c.args.network.now _ _ _ _ c.deref_mut.ensures.value c.deref.ensures.value c.in_ok-nodes.ensures c.in_ok-offers.ensures)
    c.network_law.ensures

pub returns-clause-whole : goal.returns-clause-whole
returns-clause-whole g c =
    let (n, ended, rows, states) = c.in_ok-rows.ensures.whole (setting_of c.args.network.now)
    (opened c.args.network.now _ _ _ _ c.deref_mut.ensures.value c.deref.ensures.value c.in_ok-nodes.ensures c.in_ok-offers.ensures) c.network_law.ensures in
    (n, ended, rows)

pub returns-clause-numbers : goal.returns-clause-numbers
returns-clause-numbers g c =
    c.in_ok-rows.ensures.numbers (setting_of c.args.network.now)
    (opened c.args.network.now _ _ _ _ c.deref_mut.ensures.value c.deref.ensures.value c.in_ok-nodes.ensures c.in_ok-offers.ensures) c.network_law.ensures

pub returns-in_err-offers-clause-exhausted : goal.returns-in_err-offers-clause-exhausted
returns-in_err-offers-clause-exhausted g c = λ e. passed-short c.from_residual.result c.from_residual.ensures.1 refl e

pub returns-in_err-offers-clause-numbers : goal.returns-in_err-offers-clause-numbers
returns-in_err-offers-clause-numbers g c = err-on-ok _ _ c.from_residual.result c.from_residual.ensures.1

pub returns-in_err-nodes-clause-exhausted : goal.returns-in_err-nodes-clause-exhausted
returns-in_err-nodes-clause-exhausted g c = λ e. passed-short c.from_residual-in_err-nodes.result c.from_residual-in_err-nodes.ensures.1 refl e

pub returns-in_err-nodes-clause-numbers : goal.returns-in_err-nodes-clause-numbers
returns-in_err-nodes-clause-numbers g c = err-on-ok _ _ c.from_residual-in_err-nodes.result c.from_residual-in_err-nodes.ensures.1

pub returns-in_err-rows-clause-numbers : goal.returns-in_err-rows-clause-numbers
returns-in_err-rows-clause-numbers g c = err-on-ok _ _ c.from_residual-in_err-rows.result c.from_residual-in_err-rows.ensures.1

pub returns-in_err-tables-clause-exhausted : goal.returns-in_err-tables-clause-exhausted
returns-in_err-tables-clause-exhausted g c = λ e. passed-short c.from_residual-in_err-tables.result c.from_residual-in_err-tables.ensures.1 refl e

pub returns-in_err-tables-clause-numbers : goal.returns-in_err-tables-clause-numbers
returns-in_err-tables-clause-numbers g c = err-on-ok _ _ c.from_residual-in_err-tables.result c.from_residual-in_err-tables.ensures.1
