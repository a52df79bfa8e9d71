-- A segment of a trace: the rows of one process in one interval; and a batch: the rows of all processes in one. Times are in ns.
use Rattle.std.specs.Prelude.{ℕ, ◌+◌, ◌==◌, ◌&&◌, nat_le, nat_lt, Bool, List}
use Rattle.virtual_time.specs.Law.{rows_at}
use Rattle.vlink.specs.Letters.{Row}
use Rattle.trace_segments.specs.Intervals.{cut, rows_within}

-- the rows of a process of a run, from a moment on and before another
pub record SegmentRows : Type 0 where
  pub run : ℕ
  pub process : ℕ
  pub from : ℕ
  pub to : ℕ
  pub rows : List Row

-- the rows of all processes, from a moment on and before another
pub record BatchRows : Type 0 where
  pub from : ℕ
  pub to : ℕ
  pub rows : List Row

-- a row is of a moment from one on and before another
abbrev pub is_between : ℕ → ℕ → Row → Bool
is_between from to row = nat_le from row.message.time && nat_lt row.message.time to

-- a row is of a process, and of a moment from one on and before another
abbrev pub is_at_within : ℕ → ℕ → ℕ → Row → Bool
is_at_within process from to row = (row.place == process) && (nat_le from row.message.time && nat_lt row.message.time to)

-- the segment of interval k, of these rows
abbrev pub segment_of : ℕ → ℕ → ℕ → ℕ → List Row → SegmentRows
segment_of run process k until rows =
    record {
      run = run;
      process = process;
      from = cut until k;
      to = cut until (k + 1);
      rows = rows_within (cut until k) (cut until (k + 1)) (rows_at process rows);
    }

-- the segment of interval k in the place of a group, of these rows, which are of the group's processes
abbrev pub group_segment_of : ℕ → ℕ → ℕ → ℕ → List Row → SegmentRows
group_segment_of run group k until rows =
    record {
      run = run;
      process = group;
      from = cut until k;
      to = cut until (k + 1);
      rows = rows_within (cut until k) (cut until (k + 1)) rows;
    }
