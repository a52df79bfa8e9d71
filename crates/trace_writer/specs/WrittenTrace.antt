-- A trace that is written batch by batch. Times are in ns.
use Rattle.std.specs.Prelude.{ℕ, ◌+◌, ◌==◌, ◌&&◌, cond, not, nat_lt, Bool, List, Option, Some, None}
use Rattle.network.specs.Words.{Plan, process_count}
use Rattle.trace_segments.specs.declared.fault.OutFault.TheVariants.{Device}
use Rattle.trace_segments.specs.declared.segment_fault.SegmentFault.TheVariants.{Gap, Double}
use Rattle.trace_segments.specs.declared.trace_fault.TraceFault.{TraceFault}
use Rattle.trace_segments.specs.declared.trace_fault.TraceFault.TheVariants.{Segment, Out}
use Rattle.trace_segments.specs.Words.{BatchRows}

-- the trace of a network, as far as it is written: what its sink took and how many writes failed there, whether the first line is
-- written, where the last batch ended (0 before the first), and whether the sink failed
pub record WrittenTrace : Type 0 where
  pub plan : Plan
  pub taken : Option (List ℕ)
  pub failures : ℕ
  pub begun : Bool
  pub end : ℕ
  pub broken : Bool

-- why a batch is refused, if it is: the sink failed earlier, or the batch begins before the end of the last one, or behind it
abbrev pub batch_fault : WrittenTrace → BatchRows → Option TraceFault
batch_fault trace batch =
    cond trace.broken (Some (Out Device)) (
    cond (nat_lt batch.from trace.end) (Some (Segment Double)) (
    cond (nat_lt trace.end batch.from) (Some (Segment Gap)) None))

-- no batch comes of a network without a process: its first line is still to be written
abbrev pub lacks_head : WrittenTrace → Bool
lacks_head trace = not trace.broken && (not trace.begun && (process_count trace.plan == 0))

-- what is wrong with the trace at its end, if anything is: the sink failed, or the last batch did not end behind the end of the run
abbrev pub end_fault : WrittenTrace → Option TraceFault
end_fault trace =
    cond trace.broken (Some (Out Device)) (
    cond (lacks_head trace) None (
    cond (trace.end == trace.plan.until + 1) None (Some (Segment Gap))))
