-- The segments of a run that wait for others, and how the first fault is reported.
use Rattle.std.specs.Prelude.{◌≡◌, ℕ, List, Option, Some, None, Result, Ok, Err, ⊤, length}
use Rattle.vlink.specs.Letters.{Row}
use Rattle.network.specs.Words.{Plan, process_count}
use Rattle.journal.specs.declared.fault.PoolFault.{PoolFault}
use Rattle.journal.specs.declared.fault.PoolFault.TheVariants as pool
use Rattle.crossbeam_channel.specs.declared.err.SendError.{SendError}
use Rattle.crossbeam_channel.specs.declared.err.SendError.TheVariants as send
use Rattle.group_exchange.specs.Keeps.{AreGrouped}
use Rattle.group_exchange.specs.Rows.{rows_of_group}
use Rattle.trace_segments.specs.declared.segment_fault.SegmentFault.{SegmentFault}
use Rattle.trace_segments.specs.Words.{IsOfRows, Gathering}
use Rattle.seqsim.specs.Networks.{AreRowsOf}

-- the segments are gathered of run 0, of so many groups that have all processes, and up to the end of the network; those that wait have the rows of
-- the run
pub record IsGatheringOfRun (plan : Plan) (owners : List ℕ) (groups : ℕ) (gathering : Gathering) : Type 0 where
  pub run_is : gathering.run ≡ 0
  pub until_is : gathering.until ≡ plan.until
  pub count : length gathering.waiting ≡ groups
  pub grouped : AreGrouped (process_count plan) groups owners
  pub rows_are : (rows : List Row) → AreRowsOf plan rows → IsOfRows gathering (λ g. rows_of_group owners g rows)

-- what comes of a batch that was sent: want of memory is told, and a channel that is closed is passed over
abbrev pub told_of : {B : Type 0} → Result ⊤ (SendError B) → Result ⊤ PoolFault
told_of (Ok x) = Ok x
told_of (Err (send.OutOfMemory batch)) = Err pool.OutOfMemory
told_of (Err (send.Disconnected batch)) = Ok tt

-- of faults that come one after another the first
abbrev pub first_of : Option SegmentFault → SegmentFault → Option SegmentFault
first_of None fault = Some fault
first_of (Some first) fault = Some first
