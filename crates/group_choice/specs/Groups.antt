-- How many groups a run has, and which process is in which.
use Rattle.std.specs.Prelude.{◌≢◌, ℕ, ◌*◌, ◌<◌, if◌then◌else◌, nat_le, List, Option, Some, None, All, max, min}

-- the number of groups where so many are asked for: one at least, and no more than processes
abbrev pub group_count : ℕ → ℕ → ℕ
group_count processes asked = min (max asked 1) processes

-- the number of groups of a run by so many workers: the number that is asked for; otherwise each of at most 16 processes is a group, and more
-- processes are in two groups a worker, at most 64
abbrev pub run_groups : ℕ → ℕ → Option ℕ → ℕ
run_groups processes workers (Some asked) = group_count processes asked
run_groups processes workers None =
    if nat_le processes 16 then processes else (group_count processes (min (workers * 2) 64))

-- each of so many groups has a process: of none is each process elsewhere
abbrev pub HaveProcesses : ℕ → List ℕ → Type 0
HaveProcesses groups owners = (g : ℕ) → g < groups → ¬ (All (λ owner. owner ≢ g) owners)
