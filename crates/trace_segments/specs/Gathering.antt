-- The segments of a trace that wait until those of all processes have come. Times are in ns.
use Rattle.std.specs.Prelude.{◌≡◌, ℕ, zero, suc, ◌+◌, ◌==◌, ◌||◌, ◌≤◌, All, cond, not, nat_le, nat_lt, Bool, true, false, List, [], ◌∷◌, ◌++◌, length, map, drop, slice_set, Option, Some, None, flat_map, Vec}
use Rattle.std.specs.List.{list_all, repeat}
use Rattle.std.specs.declared.alloc.Global.{Global}
use Rattle.vlink.specs.Letters.{Row}
use Rattle.trace_segments.specs.declared.segment_fault.SegmentFault.{SegmentFault}
use Rattle.trace_segments.specs.declared.segment_fault.SegmentFault.TheVariants.{Gap, Double, Stranger}
use Rattle.trace_segments.specs.Intervals.{cut}
use Rattle.trace_segments.specs.Ordered.{IsInOrder}
use Rattle.trace_segments.specs.Segments.{SegmentRows, BatchRows}

abbrev pub rows_in : Vec Row Global → List Row
rows_in rows = rows.items

-- the segments of a run that were taken and wait: of each process, those of the intervals from number `given` on, without a gap; of the
-- intervals before it the batches were given
pub record Gathering : Type 0 where
  pub run : ℕ
  pub until : ℕ
  pub given : ℕ
  pub waiting : List (List (List Row))

-- no segment, of so many processes
abbrev pub no_segments : ℕ → ℕ → ℕ → Gathering
no_segments run processes until = record { run = run; until = until; given = 0; waiting = repeat processes ([] ∷ []) }

-- the segments of a process that wait; none where there is no such process
abbrev pub segments_at : ℕ → List (List (List Row)) → List (List Row)
segments_at p [] = []
segments_at zero (segments ∷ others) = segments
segments_at (suc p) (segments ∷ others) = segments_at p others

-- how many segments of a process were taken; the next one is that of the interval of this number
abbrev pub taken_of : Gathering → ℕ → ℕ
taken_of g p = g.given + length (segments_at p g.waiting)

-- a segment of another run, or of no process
abbrev pub is_stranger : Gathering → SegmentRows → Bool
is_stranger g segment = not (segment.run == g.run) || nat_le (length g.waiting) segment.process

-- why a segment from one moment to another is refused, if it is, where the last segment ended at `end` and the next cut is at `next`. It begins
-- before that end; or it begins behind it, or does not end at the next cut, or the last segment was that of the last interval
abbrev pub place_fault : ℕ → ℕ → ℕ → ℕ → ℕ → Option SegmentFault
place_fault until end next from to =
    cond (nat_lt from end) (Some Double) (
    cond (nat_lt end from || (not (to == next) || nat_lt until end)) (Some Gap) None)

-- why a segment is refused, if it is; the first cause counts
abbrev pub segment_fault : Gathering → SegmentRows → Option SegmentFault
segment_fault g segment =
    let n = taken_of g segment.process in
    cond (is_stranger g segment) (Some Stranger) (place_fault g.until (cut g.until n) (cut g.until (n + 1)) segment.from segment.to)

-- one more segment of a process, behind the others
abbrev pub with_segment : ℕ → List Row → List (List (List Row)) → List (List (List Row))
with_segment p rows waiting = slice_set waiting p (segments_at p waiting ++ rows ∷ [])

-- a segment of each process waits
abbrev pub are_all_there : List (List (List Row)) → Bool
are_all_there waiting = list_all (λ segments. nat_lt 0 (length segments)) waiting

-- of each process at most 1,024 segments were taken, where so many batches were given
abbrev pub AreFew : ℕ → List (List (List Row)) → Type 0
AreFew given waiting = All (λ segments. given + length segments ≤ 1024) waiting

-- the rows of the first of these segments
abbrev pub first_of : List (List Row) → List Row
first_of [] = []
first_of (rows ∷ segments) = rows

-- the rows of the first segment of each process, process by process
abbrev pub first_rows : List (List (List Row)) → List Row
first_rows waiting = flat_map first_of waiting

-- the segment waits: that of some process is not there yet
pub record Waits (old : Gathering) (segment : SegmentRows) (new : Gathering) : Type 0 where
  pub missing : are_all_there (with_segment segment.process segment.rows old.waiting) ≡ false
  pub kept : new ≡ record old { waiting = with_segment segment.process segment.rows old.waiting }

-- with the segment, those of all processes are there: the batch of the interval is given, and they go
pub record Gives (old : Gathering) (segment : SegmentRows) (batch : BatchRows) (new : Gathering) : Type 0 where
  pub complete : are_all_there (with_segment segment.process segment.rows old.waiting) ≡ true
  pub from : batch.from ≡ cut old.until old.given
  pub to : batch.to ≡ cut old.until (old.given + 1)
  pub rows : IsInOrder (first_rows (with_segment segment.process segment.rows old.waiting)) batch.rows
  pub left : new ≡ record old { given = old.given + 1; waiting = map (drop 1) (with_segment segment.process segment.rows old.waiting) }
