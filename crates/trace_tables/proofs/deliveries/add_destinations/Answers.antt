use Rattle.std.proofs.Common.{◌≡◌, ℕ, ◌+◌, ◌<◌, List, length, map, get_or, ap, sym, ◌∙◌, arith, take_all}
use Rattle.std.specs.BTreeMap.{insert_entry}
use Rattle.std.proofs.lemmas.Option.{get_or_from_slice_get, slice_get-get_or}
use Rattle.trace_tables.specs.declared.cells.Cell.{Cell}
use Rattle.trace_tables.specs.declared.destination.Destination.{Destination}
use Rattle.trace_tables.specs.Cells.{cell_of}
use Rattle.trace_tables.specs.Destinations.{destination, destination_cmp, with_destinations}
use Rattle.trace_tables.specs.Latencies.{Counts, counts_of, latencies_of}
use Rattle.trace_tables.proofs.CellPlaceLemmas.{slice_get-map}
use Rattle.trace_tables.proofs.DestinationLemmas.{inserted, with-place}
use Rattle.trace_tables.proofs.deliveries.add_destinations.Goals as goal

pub loop-at-preserved : goal.loop-at-preserved
loop-at-preserved c = λ rows are.
    let vl = c.args.vl in
    let places = c.args.places.now in
    let i = c.loop-at.at in
    let at = destination vl (get_or places i 0) in
    let table = c.loop-at.table.entries in
    let lt : i < length places = omega (arith, c.loop-at-test.true) in
    let there = are i at (slice_get-map (destination vl) places i (get_or places i 0) (slice_get-get_or places i 0 lt)) in
    let here = get_or c.args.cells.now (c.args.start + i) c.index-cells-start.result in
    let cell : here ≡ cell_of rows at = get_or_from_slice_get c.args.cells.now (c.args.start + i) (cell_of rows at) c.index-cells-start.result there in
    c.in_ok-insert.ensures.entries
    ∙ inserted _ c.destination_order_law.ensures table at here.latencies
    ∙ ap (λ (z : Cell). insert_entry destination_cmp table at z.latencies) cell
    ∙ ap (λ (es : List (Destination × Counts)). insert_entry destination_cmp es at (counts_of (latencies_of vl.0 (get_or places i 0) rows))) (c.loop-at.invariant rows are)
    ∙ sym (with-place rows c.args.table.now.entries vl places i lt)

pub returns : goal.returns
returns c = λ rows are.
    c.loop-at.invariant rows are
    ∙ ap (λ (ps : List ℕ). with_destinations rows c.args.table.now.entries (map (destination c.args.vl) ps)) (take_all c.loop-at.at c.args.places.now (omega (arith, c.loop-at-test.false)))
