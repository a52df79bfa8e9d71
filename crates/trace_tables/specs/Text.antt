-- The text of the tables: comma-separated rows, each with a line feed at its end. Times are in ns.
use Rattle.std.specs.Prelude.{ℕ, ◌&&◌, cond, nat_lt, codes, decimal, List, [], ◌∷◌, ◌++◌, flat_map}
use Rattle.network.specs.Words.{Plan}
use Rattle.trace_segments.specs.Words.{is_in_network, line, place_name, cause_name}
use Rattle.trace_tables.specs.declared.destination.Destination.{Destination}
use Rattle.trace_tables.specs.declared.loss.Loss.{Loss}
use Rattle.trace_tables.specs.Destinations.{counts_in, destinations_in}
use Rattle.trace_tables.specs.Latencies.{Counts}
use Rattle.trace_tables.specs.Tables.{TableLists}

-- the first line
abbrev pub tables_head : List ℕ
tables_head = line (codes "table" ∷ codes "vl" ∷ codes "where" ∷ codes "cause" ∷ codes "count" ∷ codes "least_ns" ∷ codes "greatest_ns" ∷ codes "sum_ns" ∷ [])

-- the latencies of a virtual link at a destination
abbrev pub latency_line : Plan → ℕ → ℕ → Counts → List ℕ
latency_line plan vl place c =
    line (codes "latency" ∷ decimal vl ∷ place_name plan place ∷ [] ∷ decimal c.count ∷ decimal c.least ∷ decimal c.greatest ∷ decimal c.total ∷ [])

-- at each destination of each virtual link of the network; what the tables lack is 0
abbrev pub destination_line : Plan → List (Destination × Counts) → Destination → List ℕ
destination_line plan table at = latency_line plan at.vl.0 at.place (counts_in table at)

abbrev pub latency_text : Plan → List (Destination × Counts) → List ℕ
latency_text plan table = flat_map (destination_line plan table) (destinations_in plan.vls)

-- how many frames were dropped, for one loss
abbrev pub loss_line : Plan → Loss → ℕ → List ℕ
loss_line plan loss count =
    line (codes "dropped" ∷ decimal loss.vl.0 ∷ place_name plan loss.place ∷ cause_name loss.cause ∷ decimal count ∷ [] ∷ [] ∷ [] ∷ [])

-- for each loss that is counted above 0 and has a virtual link and a process of the network
abbrev pub drop_line : Plan → Loss × ℕ → List ℕ
drop_line plan drop = cond (is_in_network plan drop.0.vl.0 drop.0.place && nat_lt 0 drop.1) (loss_line plan drop.0 drop.1) []

abbrev pub drop_text : Plan → List (Loss × ℕ) → List ℕ
drop_text plan drops = flat_map (drop_line plan) drops

-- the tables of a network
abbrev pub tables_text : Plan → TableLists → List ℕ
tables_text plan tables = tables_head ++ (latency_text plan tables.latencies ++ drop_text plan tables.drops)
