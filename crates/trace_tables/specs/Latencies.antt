-- The counts of the latencies of a virtual link at one of its destinations. Latencies are in ns.
use Rattle.std.specs.Prelude.{ℕ, ◌+◌, ◌==◌, cond, min, max, sum, length, List, [], ◌∷◌, flat_map}
use Rattle.vlink.specs.declared.note.Note.{Note}
use Rattle.vlink.specs.declared.note.Note.TheVariants.{Delivered, Dropped}
use Rattle.vlink.specs.Letters.{Row}

-- how many there are, the least, the greatest and the sum
pub record Counts : Type 0 where
  pub count : ℕ
  pub least : ℕ
  pub greatest : ℕ
  pub total : ℕ

-- the least of a number and others, and the greatest
abbrev pub least_from : ℕ → List ℕ → ℕ
least_from m [] = m
least_from m (l ∷ ls) = least_from (min m l) ls

abbrev pub greatest_from : ℕ → List ℕ → ℕ
greatest_from m [] = m
greatest_from m (l ∷ ls) = greatest_from (max m l) ls

-- the least of these; of none it is 0
abbrev pub least_of : List ℕ → ℕ
least_of [] = 0
least_of (l ∷ ls) = least_from l ls

abbrev pub counts_of : List ℕ → Counts
counts_of ls = record { count = length ls; least = least_of ls; greatest = greatest_from 0 ls; total = sum ls }

-- one more latency behind those that are counted
abbrev pub with_latency : Counts → ℕ → Counts
with_latency c l = record { count = c.count + 1; least = cond (c.count == 0) l (min c.least l); greatest = max c.greatest l; total = c.total + l }

-- the latency that a note tells of this virtual link, if it tells one
abbrev pub latency_in : ℕ → Note → List ℕ
latency_in vl (Delivered id latency) = cond (id.0 == vl) (latency ∷ []) []
latency_in vl (Dropped id cause size) = []

-- the latency of this virtual link that a row tells at this process
abbrev pub latency_at : ℕ → ℕ → Row → List ℕ
latency_at vl place row = cond (row.place == place) (latency_in vl row.note) []

abbrev pub latencies_of : ℕ → ℕ → List Row → List ℕ
latencies_of vl place rows = flat_map (latency_at vl place) rows
