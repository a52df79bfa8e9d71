-- What is counted at each destination while rows come: the latencies there, and how many frames were dropped there as duplicates.
use Rattle.std.specs.Prelude.{ℕ, ◌≡◌, ◌+◌, ◌==◌, ◌&&◌, Bool, false, nat_lt, not, cond, List, [], ◌∷◌, map, length, filter, count_by, slice_get, Option, Some, is_some}
use Rattle.std.specs.BTreeMap.{insert_entry, is_at}
use Rattle.vlink.specs.declared.note.Cause.TheVariants.{Duplicate}
use Rattle.vlink.specs.declared.note.Note.{Note}
use Rattle.vlink.specs.declared.note.Note.TheVariants.{Delivered, Dropped}
use Rattle.vlink.specs.Letters.{Row}
use Rattle.network.specs.Words.{Plan, VlPlan, destinations_of, place_by}
use Rattle.trace_segments.specs.Words.{is_in_network}
use Rattle.trace_tables.specs.declared.cells.Cell.{Cell}
use Rattle.trace_tables.specs.declared.destination.Destination.{Destination}
use Rattle.trace_tables.specs.declared.loss.Loss.{Loss}
use Rattle.trace_tables.specs.Counting.{is_loss}
use Rattle.trace_tables.specs.Destinations.{destination, destination_cmp, destinations_in}
use Rattle.trace_tables.specs.Latencies.{counts_of, latencies_of}
use Rattle.trace_tables.specs.Losses.{cause_number, loss_cmp}
use Rattle.trace_tables.specs.Tables.{drop_table}

-- the cells, and for each virtual link how many cells stand before its own
pub record CellLists : Type 0 where
  pub starts : List ℕ
  pub cells : List Cell

-- the place of a destination among all destinations, if it is one
abbrev pub cell_place : List VlPlan → Destination → Option ℕ
cell_place vls at = place_by (is_at (destination_cmp at)) (destinations_in vls)

-- the loss of a duplicate at a destination
abbrev pub duplicate_at : Destination → Loss
duplicate_at at = record { vl = at.vl; place = at.place; cause = Duplicate }

-- how many rows tell a duplicate at a destination
abbrev pub duplicates_of : List Row → Destination → ℕ
duplicates_of rows at = count_by (λ row. is_loss (duplicate_at at) row.place row.note) rows

-- what rows tell at a destination
abbrev pub cell_of : List Row → Destination → Cell
cell_of rows at = record { latencies = counts_of (latencies_of at.vl.0 at.place rows); duplicates = duplicates_of rows at }

-- where the cells of each virtual link begin, if those of the first begin here
abbrev pub starts_from : ℕ → List VlPlan → List ℕ
starts_from n [] = []
starts_from n (vl ∷ vls) = n ∷ starts_from (n + length (destinations_of vl)) vls

-- the cells of rows, one for each destination of each virtual link
abbrev pub cells_of : List VlPlan → List Row → CellLists
cells_of vls rows = record { starts = starts_from 0 vls; cells = map (cell_of rows) (destinations_in vls) }

-- the cells of these destinations stand one after another from this place
abbrev pub AreCellsFrom : List Row → ℕ → List Destination → List Cell → Type 0
AreCellsFrom rows start ds cells = (i : ℕ) (at : Destination) → slice_get ds i ≡ Some at → slice_get cells (start + i) ≡ Some (cell_of rows at)

-- a note at this process is a duplicate that is counted in a cell
abbrev pub is_in_cell : List VlPlan → ℕ → Note → Bool
is_in_cell vls place (Delivered vl latency) = false
is_in_cell vls place (Dropped vl cause size) = (cause_number cause == cause_number Duplicate) && is_some (cell_place vls (destination vl place))

-- what is lost elsewhere, counted
abbrev pub other_drops : Plan → List Row → List (Loss × ℕ)
other_drops plan rows = drop_table plan (filter (λ row. not (is_in_cell plan.vls row.place row.note)) rows)

-- the count of a loss that has none yet, if the network has its virtual link and process and the count is not 0
abbrev pub with_known : Plan → List (Loss × ℕ) → Loss → ℕ → List (Loss × ℕ)
with_known plan drops loss n = cond (nat_lt 0 n && is_in_network plan loss.vl.0 loss.place) (insert_entry loss_cmp drops loss n) drops

-- the duplicates that rows tell at each of these destinations
abbrev pub with_duplicates : Plan → List Row → List (Loss × ℕ) → List Destination → List (Loss × ℕ)
with_duplicates plan rows drops [] = drops
with_duplicates plan rows drops (at ∷ others) = with_duplicates plan rows (with_known plan drops (duplicate_at at) (duplicates_of rows at)) others
