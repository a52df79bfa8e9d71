-- Rows of a process whose moments are at or after one moment and before another. Times are in ns.
use Rattle.std.specs.Prelude.{ℕ, ◌&&◌, ◌<◌, ◌≤◌, nat_le, nat_lt, Bool, List, All, filter, take}
use Rattle.std.specs.List.Sorted.{IsNonDecreasingBy}
use Rattle.virtual_time.specs.Law.{Rules}
use Rattle.virtual_time.specs.declared.row.Row.{Row}

module _ {M S K N : Type 0} (r : Rules M S K N) where
  -- the message is of a moment from one on and before another
  abbrev pub is_within : ℕ → ℕ → M → Bool
  is_within from to m = nat_le from (r.order.time m) && nat_lt (r.order.time m) to

  -- the rows of such messages, in their order
  abbrev pub rows_within : ℕ → ℕ → List (Row M N) → List (Row M N)
  rows_within from to rows = filter (λ row. is_within from to row.message) rows

  -- the first rows, so many, are of moments before one
  abbrev pub AreFirstBefore : ℕ → ℕ → List (Row M N) → Type 0
  AreFirstBefore moment count rows = All (λ row. r.order.time row.message < moment) (take count rows)

  -- the rows are of a moment or later
  abbrev pub AreFrom : ℕ → List (Row M N) → Type 0
  AreFrom moment rows = All (λ row. moment ≤ r.order.time row.message) rows

  -- the moments of the rows do not fall
  abbrev pub AreInTime : List (Row M N) → Type 0
  AreInTime rows = IsNonDecreasingBy (λ row. r.order.time row.message) rows
