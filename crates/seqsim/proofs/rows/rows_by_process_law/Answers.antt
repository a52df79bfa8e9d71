use Rattle.std.proofs.Common.{refl, sym, subst, arith}
use Rattle.nodes.specs.Words.{simulation_of}
use Rattle.trace_segments.specs.Words.{gathered, AreInMessageOrder}
use Rattle.seqsim.proofs.CommittedRows.{rows-gathered, rows-all}
use Rattle.network_actors.proofs.OneThreadRows.{one-ordered}
use Rattle.seqsim.proofs.RowsByProcess.{ordered-rows, ordered-committed}
use Rattle.seqsim.proofs.rows.rows_by_process_law.Goals as goal

pub returns-clause-in_order : goal.returns-clause-in_order
returns-clause-in_order c rows r =
    subst AreInMessageOrder (sym r.2) (one-ordered (simulation_of c.args.network.now) c.network_law.ensures c.message_order_law.ensures.total (λ a b. refl) (λ m. refl) r.0)

pub returns-clause-by_process : goal.returns-clause-by_process
returns-clause-by_process c n ended rows up here =
    let f = simulation_of c.args.network.now in (
      n,
      ended,
      ordered-rows f c.network_law.ensures c.message_order_law.ensures.total (λ a b. refl) (λ m. refl) c.rows_by_place_law.ensures.by_event c.rows_by_place_law.ensures.events
          n rows rows up (λ m. refl) here,
    )

pub returns-clause-gathered : goal.returns-clause-gathered
returns-clause-gathered c steps rows_of each =
    let f = simulation_of c.args.network.now in
    rows-all f c.network_law.ensures steps (gathered f.processes rows_of) (rows-gathered f c.network_law.ensures steps rows_of each f.processes (omega arith))

pub returns-clause-finished : goal.returns-clause-finished
returns-clause-finished c steps finished rows ordered committed up same =
    let f = simulation_of c.args.network.now in
    let whole = c.headline_law.ensures.whole f c.network_law.ensures steps finished in (
      whole.event_count,
      whole.none_waits,
      ordered-committed f c.network_law.ensures c.message_order_law.ensures.total (λ a b. refl) (λ m. refl) c.rows_by_place_law.ensures.by_event c.rows_by_place_law.ensures.events
          steps whole rows ordered committed up same,
    )
