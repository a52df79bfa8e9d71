-- Latencies by destination: the virtual link and the process at which its frames end.
use Rattle.std.specs.Prelude.{ℕ, List, [], ◌∷◌, map, flat_map}
use Rattle.std.specs.Option.{option_map_or}
use Rattle.std.specs.Ordering.{nat_cmp, ordering_then}
use Rattle.std.specs.declared.cmp.Ordering.{Ordering}
use Rattle.std.specs.BTreeMap.{insert_entry, is_at}
use Rattle.std.specs.Map.{lookup}
use Rattle.vlink.specs.declared.frame.VlId.{VlId}
use Rattle.vlink.specs.Letters.{Row}
use Rattle.network.specs.Words.{VlPlan, destinations_of}
use Rattle.trace_tables.specs.declared.destination.Destination.{Destination}
use Rattle.trace_tables.specs.Latencies.{Counts, counts_of, latencies_of}

-- by virtual link, then by process
abbrev pub destination_cmp : Destination → Destination → Ordering
destination_cmp a b = ordering_then (nat_cmp a.vl.0 b.vl.0) (nat_cmp a.place b.place)

abbrev pub destination : VlId → ℕ → Destination
destination vl place = record { vl = vl; place = place }

-- the destinations of a virtual link, and of all of them
abbrev pub destinations_at : VlPlan → List Destination
destinations_at vl = map (destination vl.link.id) (destinations_of vl)

abbrev pub destinations_in : List VlPlan → List Destination
destinations_in vls = flat_map destinations_at vls

-- what is counted at a destination; no latency where the table lacks it
abbrev pub counts_in : List (Destination × Counts) → Destination → Counts
counts_in table at = option_map_or (λ counts. counts) (lookup (is_at (destination_cmp at)) table) (counts_of [])

-- what rows tell of the latencies at each of these destinations, which are put in at their places in the order
abbrev pub with_destinations : List Row → List (Destination × Counts) → List Destination → List (Destination × Counts)
with_destinations rows table [] = table
with_destinations rows table (at ∷ others) = with_destinations rows (insert_entry destination_cmp table at (counts_of (latencies_of at.vl.0 at.place rows))) others
