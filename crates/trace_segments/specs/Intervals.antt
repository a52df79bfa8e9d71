-- The intervals in which a trace is written, the same for all processes. Times are in ns.
use Rattle.std.specs.Prelude.{ℕ, ◌+◌, ◌*◌, ◌/◌, ◌≤◌, ◌&&◌, min, nat_le, nat_lt, List, filter}
use Rattle.vlink.specs.Letters.{Row}

-- how long an interval is
abbrev pub interval_width : ℕ → ℕ
interval_width until = until / 1024 + 1

-- interval k goes from cut k to before cut k + 1; the last one ends behind the end of the run
unfoldable pub cut : ℕ → ℕ → ℕ
cut until k = min (k * interval_width until) (until + 1)

-- there is an interval k: it begins at the end of the run or before
abbrev pub HasInterval : ℕ → ℕ → Type 0
HasInterval until k = k * interval_width until ≤ until

-- how many intervals there are
abbrev pub interval_count : ℕ → ℕ
interval_count until = until / interval_width until + 1

-- the rows of events from one moment on and before another, in their order
abbrev pub rows_within : ℕ → ℕ → List Row → List Row
rows_within from to rows = filter (λ row. nat_le from row.message.time && nat_lt row.message.time to) rows

-- those of events before a moment, and those of events from it on
abbrev pub rows_before : ℕ → List Row → List Row
rows_before moment rows = filter (λ row. nat_lt row.message.time moment) rows

abbrev pub rows_from : ℕ → List Row → List Row
rows_from moment rows = filter (λ row. nat_le moment row.message.time) rows
