-- Segments that wait, if each process's segments have the rows that it has.
use Rattle.std.specs.Prelude.{◌≡◌, ℕ, ◌+◌, ◌<◌, List, length, map}
use Rattle.std.specs.List.{range_with_len}
use Rattle.vlink.specs.Letters.{Row}
use Rattle.trace_segments.specs.Gathering.{Gathering, segments_at}
use Rattle.trace_segments.specs.Intervals.{cut, rows_within}

-- of these rows those of each of `count` intervals, from number k on
abbrev pub segments_from : ℕ → ℕ → ℕ → List Row → List (List Row)
segments_from until k count rows = map (λ i. rows_within (cut until i) (cut until (i + 1)) rows) (range_with_len k count)

-- where `given` batches were given: of each process those of its rows wait that are of the intervals from there on
abbrev pub AreOfRows : ℕ → ℕ → (ℕ → List Row) → List (List (List Row)) → Type 0
AreOfRows until given rows_of waiting =
    (p : ℕ) → p < length waiting → segments_at p waiting ≡ segments_from until given (length (segments_at p waiting)) (rows_of p)

-- what waits are rows of each process
pub record IsOfRows (g : Gathering) (rows_of : ℕ → List Row) : Type 0 where
  pub segments : AreOfRows g.until g.given rows_of g.waiting
