-- The tables of a run: latencies by virtual link and destination, and what was dropped.
use Rattle.std.specs.Prelude.{ℕ, cond, List, [], map, flat_map}
use Rattle.vlink.specs.Letters.{Row}
use Rattle.network.specs.Words.{Plan, VlPlan}
use Rattle.trace_segments.specs.Words.{is_known}
use Rattle.trace_tables.specs.declared.destination.Destination.{Destination}
use Rattle.trace_tables.specs.declared.loss.Loss.{Loss}
use Rattle.trace_tables.specs.Destinations.{destinations_in}
use Rattle.trace_tables.specs.Latencies.{Counts, counts_of, latencies_of}
use Rattle.trace_tables.specs.Losses.{loss_of, with_losses}

pub record TableLists : Type 0 where
  pub latencies : List (Destination × Counts)
  pub drops : List (Loss × ℕ)

-- what rows tell of the latencies at a destination
abbrev pub counted_at : List Row → Destination → Destination × Counts
counted_at rows at = (at, counts_of (latencies_of at.vl.0 at.place rows))

-- at each destination of each virtual link
abbrev pub latency_table : List VlPlan → List Row → List (Destination × Counts)
latency_table vls rows = map (counted_at rows) (destinations_in vls)

-- what a row says was lost, where the network has its virtual link and process
abbrev pub known_loss : Plan → Row → List Loss
known_loss plan row = cond (is_known plan row) (loss_of row) []

-- what the rows say was lost, counted
abbrev pub drop_table : Plan → List Row → List (Loss × ℕ)
drop_table plan rows = with_losses [] (flat_map (known_loss plan) rows)

abbrev pub tables_of : Plan → List Row → TableLists
tables_of plan rows = record { latencies = latency_table plan.vls rows; drops = drop_table plan rows }
