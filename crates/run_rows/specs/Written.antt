-- What was written of the trace of a run.
use Rattle.std.specs.Prelude.{◌≡◌, ◌≢◌, ℕ, ◌+◌, List, Option, Some, None, Result, Ok, Err, OnOk, IfErr, ⊤}
use Rattle.std.specs.Io.KnownBytes.{append_known}
use Rattle.vlink.specs.Letters.{Row}
use Rattle.network.specs.Words.{Plan}
use Rattle.trace_segments.specs.declared.fault.OutFault.TheVariants.{Device}
use Rattle.trace_segments.specs.declared.segment_fault.SegmentFault.{SegmentFault}
use Rattle.trace_segments.specs.declared.segment_fault.SegmentFault.TheVariants.{Stranger, OutOfMemory}
use Rattle.trace_segments.specs.declared.trace_fault.TraceFault.{TraceFault}
use Rattle.trace_segments.specs.declared.trace_fault.TraceFault.TheVariants.{Segment, Out}
use Rattle.trace_segments.specs.Words.{IsBeginning, trace_text}
use Rattle.network_actors.specs.Networks.{AreRowsOf}

-- a segment or a batch is missing, or comes twice
abbrev pub IsPlaceFault : SegmentFault → Type 0
IsPlaceFault fault = (fault ≢ Stranger) × (fault ≢ OutOfMemory)

-- why the trace of a run is not whole: that, or its text did not go out
abbrev pub IsFaultOfTrace : TraceFault → Type 0
IsFaultOfTrace fault = (fault ≢ Segment Stranger) × (fault ≢ Segment OutOfMemory)

-- how the writing of a trace went, where no write failed at its end: the fault of a batch; where there is none, that of a segment; where there is
-- none either, how the end went
abbrev pub outcome_of : Result ⊤ TraceFault → Option SegmentFault → Result ⊤ TraceFault → Result ⊤ TraceFault
outcome_of (Err fault) segment end = Err fault
outcome_of (Ok _) (Some fault) end = Err (Segment fault)
outcome_of (Ok _) None end = end

-- the writing of a run's trace went so, where its sink had taken `start` and `failed` writes had failed there before, and now has taken
-- `taken`, and `failures` writes failed
pub record IsWritten (plan : Plan) (start : Option (List ℕ)) (failed : ℕ) (written : Result ⊤ TraceFault) (taken : Option (List ℕ)) (failures : ℕ) : Type 0 where
  -- where it went well, the sink took the whole trace of the rows of the one-thread run
  pub whole : OnOk written ((rows : List Row) → AreRowsOf plan rows → taken ≡ append_known start (trace_text plan rows))
  -- in any case it took a beginning of it
  pub beginning : (rows : List Row) → AreRowsOf plan rows → IsBeginning start taken (trace_text plan rows)
  -- just one write failed, where the fault says so; none, where it says otherwise, or it went well
  pub device : IfErr written (λ fault. fault ≡ Out Device → failures ≡ failed + 1)
  pub kept : IfErr written (λ fault. fault ≢ Out Device → failures ≡ failed)
  pub went_well : OnOk written (failures ≡ failed)
  pub fault : IfErr written IsFaultOfTrace
