-- The segments of a trace that a group of a run gives, one for each interval.
use Rattle.std.specs.Prelude.{◌≡◌, ℕ, ◌+◌, ◌≤◌, List, All}
use Rattle.vlink.specs.Letters.{Row}
use Rattle.network.specs.Words.{Plan}
use Rattle.nodes.specs.Words.{NodeState}
use Rattle.nodes.specs.declared.node.NodeRecord.{NodeRecord}
use Rattle.group_queues.specs.DoneEvents.{messages_of}
use Rattle.group_exchange.specs.Views.{GroupState}
use Rattle.group_exchange.specs.Rows.{rows_of_group}
use Rattle.trace_segments.specs.Words.{cut, HasInterval, SegmentRows, group_segment_of}
use Rattle.seqsim.specs.Networks.{AreRowsOf}

-- interval k is the next one at a group, and it is for good: there is such an interval, the rows before it have left and no others, its end is not
-- later than the GVT that the group saw, and no done event of the group is earlier
pub record IsGroupIntervalSealed (plan : Plan) (k : ℕ) (group : GroupState NodeState NodeRecord) : Type 0 where
  pub inside : HasInterval plan.until k
  pub next : group.gone ≡ cut plan.until k
  pub seen : cut plan.until (k + 1) ≤ group.seen
  pub none_done : All (λ m. cut plan.until (k + 1) ≤ m.time) (messages_of group.held.done)

-- the segment has just the rows that the one-thread run has of the group's processes and of interval k
abbrev pub IsGroupSegmentOfRun : Plan → List ℕ → ℕ → ℕ → SegmentRows → Type 0
IsGroupSegmentOfRun plan owners g k segment =
    (rows : List Row) → AreRowsOf plan rows → segment ≡ group_segment_of 0 g k plan.until (rows_of_group owners g rows)

-- the segment is that of the next interval of the group
pub record IsNextGroupSegment (plan : Plan) (owners : List ℕ) (group : GroupState NodeState NodeRecord) (segment : SegmentRows) : Type 0 where
  pub interval : ℕ
  pub sealed : IsGroupIntervalSealed plan interval group
  pub from : segment.from ≡ cut plan.until interval
  pub to : segment.to ≡ cut plan.until (interval + 1)
  pub rows : IsGroupSegmentOfRun plan owners group.number interval segment
