-- Cuts, and the rows of a process and an interval.
use Rattle.std.proofs.Common.{◌≡◌, ℕ, ◌+◌, ◌*◌, ◌<◌, ◌≤◌, ◌==◌, Bool, true, false, cond, List, [], ◌∷◌, refl, ap, arith, ◌&&◌, nat_le, nat_lt, filter}
use Rattle.virtual_time.specs.Law.{rows_at}
use Rattle.vlink.specs.Letters.{Row}
use Rattle.trace_segments.specs.Words.{interval_width, interval_count, cut, HasInterval, rows_within, is_at_within}

-- an interval begins at its number of widths, and behind the last one is the moment behind the end
pub cut-inside : (until k : ℕ) → HasInterval until k → cut until k ≡ k * interval_width until
unfolding cut
cut-inside until k inside = omega arith

pub cut-behind : (until k : ℕ) → until < k * interval_width until → cut until k ≡ until + 1
unfolding cut
cut-behind until k behind = omega arith

-- what begins at the end or before is an interval, and of these there are at most 1,024
pub inside-cut : (until k : ℕ) → cut until k ≤ until → HasInterval until k
unfolding cut
inside-cut until k le = omega arith

pub few-intervals : (until k : ℕ) → HasInterval until k → k < 1024
few-intervals until k inside = grind arith

-- the first cut is at 0, no cut is later than the next one, and the last one is behind the end
pub cut-first : (until : ℕ) → cut until 0 ≡ 0
unfolding cut
cut-first until = omega arith

pub cut-rises : (until k : ℕ) → cut until k ≤ cut until (k + 1)
unfolding cut
cut-rises until k = omega arith

pub cut-last : (until : ℕ) → cut until (interval_count until) ≡ until + 1
cut-last until = cut-behind until (interval_count until) (grind arith)

-- the rows that are of a process and of an interval
pub within-at : (process from to : ℕ) (rows : List Row) → filter (is_at_within process from to) rows ≡ rows_within from to (rows_at process rows)
within-at process from to [] = refl
within-at process from to (row ∷ rows) = go (row.place == process) (within-at process from to rows)
  where
    inside : Bool
    inside = nat_le from row.message.time && nat_lt row.message.time to

    go : (here : Bool) → filter (is_at_within process from to) rows ≡ rows_within from to (rows_at process rows) →
        cond (here && inside) (row ∷ filter (is_at_within process from to) rows) (filter (is_at_within process from to) rows)
        ≡ rows_within from to (cond here (row ∷ rows_at process rows) (rows_at process rows))
    go true later = ap (λ (found : List Row). cond inside (row ∷ found) found) later
    go false later = later
