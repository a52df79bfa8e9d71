use Rattle.std.proofs.Common.{◌≡◌, ◌∙◌, Bool, List, [], ap, length, refl, subst, sym}
use Rattle.vlink.specs.declared.message.Message.{Message}
use Rattle.network.specs.Words.{Plan}
use Rattle.nodes.specs.Words.{NodeState, simulation_of}
use Rattle.runs_ahead.specs.Standing.{RunAhead}
use Rattle.actor_run.specs.Running.{StandsAt}
use Rattle.actor_run.specs.RunningAhead.{is_marked}
use Rattle.trace_tables.specs.Tables.{tables_of}
use Rattle.seqsim.specs.Networks.{setting_of}
use Rattle.actor_run.proofs.Errors.{passed-on, passed-short}
use Rattle.seq_tables.specs.Lines.{starts_of}
use Rattle.seq_tables.proofs.running.count_all.Goals as goal

-- the run stands where its nodes are read
stands : (plan : Plan) (nodes read : List NodeState) (waiting : List Message) → read ≡ nodes → StandsAt (simulation_of plan) 0 nodes waiting [] →
    StandsAt (simulation_of plan) 0 read waiting []
stands plan nodes read waiting same s = subst (λ (states : List NodeState). StandsAt (simulation_of plan) 0 states waiting []) (sym same) s

-- and lines run ahead where the marks are read
runs : (plan : Plan) (marks read : List Bool) → read ≡ marks → RunAhead (simulation_of plan) (is_marked marks) (starts_of plan) → RunAhead (simulation_of plan) (is_marked read) (starts_of plan)
runs plan marks read same r = subst (λ (ms : List Bool). RunAhead (simulation_of plan) (is_marked ms) (starts_of plan)) (sym same) r

pub handle_all_ahead-requires-clause-marks : goal.handle_all_ahead-requires-clause-marks
handle_all_ahead-requires-clause-marks g c =
    ap length c.deref.ensures.value ∙ (c.in_ok-ahead.ensures.count ∙ (sym c.requires.states.count ∙ sym (ap length c.deref_mut.ensures.value)))

pub handle_all_ahead-requires-clause-rows : goal.handle_all_ahead-requires-clause-rows
handle_all_ahead-requires-clause-rows g c = c.in_ok-counted.ensures.none

pub handle_all_ahead-requires-clause-opens : goal.handle_all_ahead-requires-clause-opens
handle_all_ahead-requires-clause-opens g c =
    let plan = c.args.network.now in (
      setting_of plan,
      c.network_law.ensures,
      starts_of plan,
      runs plan c.in_ok-ahead.ahead.items c.deref.result.now c.deref.ensures.value (c.lines_ahead_law.ensures c.in_ok-ahead.ahead.items c.in_ok-ahead.ensures),
      stands plan c.args.nodes.items c.deref_mut.result.now c.args.waiting c.deref_mut.ensures.value c.requires,
    )

pub returns-in_err-handle_all_ahead-clause-exhausted : goal.returns-in_err-handle_all_ahead-clause-exhausted
returns-in_err-handle_all_ahead-clause-exhausted g c = λ e.
    let plan = c.args.network.now in
    let k = passed-on c.from_residual-in_err-handle_all_ahead.result c.from_residual-in_err-handle_all_ahead.ensures.1 c.in_err-handle_all_ahead.was e in
    c.handle_all_ahead.ensures.exhausted k (setting_of plan) c.network_law.ensures (starts_of plan)
    (runs plan c.in_ok-ahead.ahead.items c.deref.result.now c.deref.ensures.value (c.lines_ahead_law.ensures c.in_ok-ahead.ahead.items c.in_ok-ahead.ensures))
    (stands plan c.args.nodes.items c.deref_mut.result.now c.args.waiting c.deref_mut.ensures.value c.requires)

pub into_tables-requires : goal.into_tables-requires
into_tables-requires g c =
    let plan = c.args.network.now in
    let whole = c.in_ok-handle_all_ahead.ensures.whole (setting_of plan) c.network_law.ensures (starts_of plan)
    (runs plan c.in_ok-ahead.ahead.items c.deref.result.now c.deref.ensures.value (c.lines_ahead_law.ensures c.in_ok-ahead.ahead.items c.in_ok-ahead.ensures))
    (stands plan c.args.nodes.items c.deref_mut.result.now c.args.waiting c.deref_mut.ensures.value c.requires) in
    (whole.0, whole.1)

pub returns-clause-whole : goal.returns-clause-whole
returns-clause-whole g c =
    let plan = c.args.network.now in
    let (rows, taken, (n, ended, seen, states)) = c.in_ok-handle_all_ahead.ensures.whole (setting_of plan) c.network_law.ensures (starts_of plan)
    (runs plan c.in_ok-ahead.ahead.items c.deref.result.now c.deref.ensures.value (c.lines_ahead_law.ensures c.in_ok-ahead.ahead.items c.in_ok-ahead.ensures))
    (stands plan c.args.nodes.items c.deref_mut.result.now c.args.waiting c.deref_mut.ensures.value c.requires) in (
      rows,
      (n, ended, seen),
      c.in_ok-into_tables.ensures rows taken
          ∙ ap (λ plan. tables_of plan rows) (c.in_ok-handle_all_ahead.ensures.purpose ∙ c.in_ok-counted.ensures.network),
    )

pub returns-in_err-ahead-clause-exhausted : goal.returns-in_err-ahead-clause-exhausted
returns-in_err-ahead-clause-exhausted g c = λ e. passed-short c.from_residual.result c.from_residual.ensures.1 refl e

pub returns-in_err-counted-clause-exhausted : goal.returns-in_err-counted-clause-exhausted
returns-in_err-counted-clause-exhausted g c = λ e. passed-short c.from_residual-in_err-counted.result c.from_residual-in_err-counted.ensures.1 refl e

pub returns-in_err-into_tables-clause-exhausted : goal.returns-in_err-into_tables-clause-exhausted
returns-in_err-into_tables-clause-exhausted g c = λ e. passed-short c.from_residual-in_err-into_tables.result c.from_residual-in_err-into_tables.ensures.1 refl e
