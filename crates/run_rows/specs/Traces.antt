-- The trace of a run of a network, and what it is made of: batches, and what is written. Their rows are those of the one-thread run. Times
-- are in ns.
use Rattle.std.specs.Prelude.{◌≡◌, ℕ, ◌+◌, ◌≤◌, Bool, true, false, cond, List, [], Option, All}
use Rattle.std.specs.Io.KnownBytes.{append_known}
use Rattle.virtual_time.specs.Law.{rows_at}
use Rattle.vlink.specs.Letters.{Row}
use Rattle.network.specs.Words.{Plan, process_count}
use Rattle.trace_segments.specs.Words.{rows_within, rows_before, AreInMessageOrder, AreAtReceivers, BatchRows, IsBeginning, trace_text}
use Rattle.trace_writer.specs.WrittenTrace.{WrittenTrace}
use Rattle.network_actors.specs.Networks.{AreRowsOf}

-- rows in message order, each of the process that received its message, none of a process that the network lacks, and none later than the
-- end of the run
pub record AreLawfulRows (plan : Plan) (rows : List Row) : Type 0 where
  pub ordered : AreInMessageOrder rows
  pub received : AreAtReceivers rows
  pub none_outside : (p : ℕ) → process_count plan ≤ p → rows_at p rows ≡ []
  pub in_time : All (λ row. row.message.time ≤ plan.until) rows

-- such are the rows of the one-thread run of the network
abbrev pub HasLawfulRows : Plan → Type 0
HasLawfulRows plan = (rows : List Row) → AreRowsOf plan rows → AreLawfulRows plan rows

-- the batch has the rows of the run in its interval
pub record IsBatchOfRun (plan : Plan) (batch : BatchRows) : Type 0 where
  pub ordered : batch.from ≤ batch.to
  pub rows_are : (rows : List Row) → AreRowsOf plan rows → batch.rows ≡ rows_within batch.from batch.to rows

-- what is written of the trace of these rows: nothing before the first batch, and then that of the rows before the end of the last one
abbrev pub text_before : Plan → Bool → ℕ → List Row → List ℕ
text_before plan begun end rows = cond begun (trace_text plan (rows_before end rows)) []

-- the trace is that of the run, where its sink had taken `start` and had so many failures before. Where the sink has not failed, it took
-- the text of all batches; where it failed, a beginning of the whole text
pub record IsTraceOfRun (plan : Plan) (start : Option (List ℕ)) (failures : ℕ) (trace : WrittenTrace) : Type 0 where
  pub plan_is : trace.plan ≡ plan
  pub opening : trace.begun ≡ false → trace.end ≡ 0
  pub sound : trace.broken ≡ false → (rows : List Row) → AreRowsOf plan rows →
      trace.taken ≡ append_known start (text_before plan trace.begun trace.end rows)
  pub broken : trace.broken ≡ true → (rows : List Row) → AreRowsOf plan rows → IsBeginning start trace.taken (trace_text plan rows)
  pub failures_are : trace.failures ≡ cond trace.broken (failures + 1) failures
