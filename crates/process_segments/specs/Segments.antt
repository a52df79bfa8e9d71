-- The segments of a trace that a process gives, one for each interval.
use Rattle.std.specs.Prelude.{◌≡◌, ℕ, ◌+◌, ◌≤◌, List, []}
use Rattle.vlink.specs.Letters.{Row}
use Rattle.virtual_time.specs.Law.{earlier}
use Rattle.network.specs.Words.{Plan}
use Rattle.nodes.specs.Words.{NodeState, simulation_of}
use Rattle.process_exchange.specs.Views.{HeldState}
use Rattle.trace_segments.specs.Words.{cut, HasInterval, SegmentRows, segment_of}
use Rattle.network_actors.specs.Networks.{AreRowsOf}

-- interval k is the next one at a process, and it is for good: there is such an interval, the rows before it have left and no others, its end
-- is not later than the GVT that the process saw, and no done event of the process is earlier
pub record IsIntervalSealed (plan : Plan) (k : ℕ) (held : HeldState NodeState) : Type 0 where
  pub inside : HasInterval plan.until k
  pub next : held.gone ≡ cut plan.until k
  pub seen : cut plan.until (k + 1) ≤ held.mark.seen
  pub none_done : earlier (simulation_of plan).rules.order (cut plan.until (k + 1)) held.part.done ≡ []

-- the segment has just the rows that the one-thread run has of the process and of interval k
abbrev pub IsSegmentOfRun : Plan → ℕ → ℕ → SegmentRows → Type 0
IsSegmentOfRun plan process k segment = (rows : List Row) → AreRowsOf plan rows → segment ≡ segment_of 0 process k plan.until rows

-- the segment is that of the next interval of the process
pub record IsNextSegment (plan : Plan) (held : HeldState NodeState) (segment : SegmentRows) : Type 0 where
  pub interval : ℕ
  pub sealed : IsIntervalSealed plan interval held
  pub from : segment.from ≡ cut plan.until interval
  pub to : segment.to ≡ cut plan.until (interval + 1)
  pub rows : IsSegmentOfRun plan held.number interval segment
