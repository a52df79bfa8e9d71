-- The rows of each process, or of each group of processes.
use Rattle.std.specs.Prelude.{◌≡◌, ◌<◌, ℕ, Bool, true, List, flat_map}
use Rattle.std.specs.List.{range_with_len}
use Rattle.vlink.specs.Letters.{Row}

-- lists of rows one after another, those of the processes from 0 on
abbrev pub gathered : ℕ → (ℕ → List Row) → List Row
gathered processes rows_of = flat_map rows_of (range_with_len 0 processes)

-- this process is of just one group, and its number is below that of the groups
pub record IsOfOneGroup (ours : ℕ → ℕ → Bool) (groups process : ℕ) : Type 0 where
  pub group : ℕ
  pub below : group < groups
  pub its : ours group process ≡ true
  pub alone : (g : ℕ) → ours g process ≡ true → g ≡ group
