-- At which pace a run goes.
use Rattle.std.specs.Prelude.{ℕ, max, min}
use Rattle.group_choice.specs.Groups.{group_count}
use Rattle.worker_pool.specs.declared.pace.Pace.{Pace}
use Rattle.worker_pool.specs.declared.speed.Speed.{Speed}

-- of so many groups, with no more workers than groups
abbrev pub pace_in : ℕ → Pace → Pace
pace_in groups pace = record { workers = min groups pace.workers; groups = groups; turn = pace.turn; window_ns = pace.window_ns }

-- a turn and a window of 0 count as 1
abbrev pub pace_that_goes : Pace → Pace
pace_that_goes pace = record { workers = pace.workers; groups = pace.groups; turn = max pace.turn 1; window_ns = max pace.window_ns 1 }

-- the pace of a run of so many processes, where this one is asked for: of one group at least, and no more than processes
abbrev pub actual_pace : ℕ → Pace → Pace
actual_pace processes pace = pace_in (group_count processes pace.groups) (pace_that_goes pace)

-- the pace of threads that go at this speed, with so many groups
abbrev pub pace_of : Speed → ℕ → Pace
pace_of speed groups = record { workers = speed.workers; groups = groups; turn = speed.turn; window_ns = speed.window_ns }

-- what so many workers go by
abbrev pub speed_of : ℕ → ℕ → ℕ → Speed
speed_of workers turn window_ns = record { workers = workers; turn = turn; window_ns = window_ns }
