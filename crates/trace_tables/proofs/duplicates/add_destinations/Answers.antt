use Rattle.std.proofs.Common.{◌≡◌, ℕ, ◌+◌, ◌<◌, List, length, map, get_or, ap, sym, ◌∙◌, arith, take_all}
use Rattle.std.proofs.lemmas.Option.{get_or_from_slice_get, slice_get-get_or}
use Rattle.trace_tables.specs.declared.cells.Cell.{Cell}
use Rattle.trace_tables.specs.declared.loss.Loss.{Loss}
use Rattle.trace_tables.specs.Cells.{cell_of, duplicate_at, duplicates_of, with_duplicates, with_known}
use Rattle.trace_tables.specs.Destinations.{destination}
use Rattle.trace_tables.proofs.CellPlaceLemmas.{slice_get-map}
use Rattle.trace_tables.proofs.DuplicateLemmas.{duplicates-place}
use Rattle.trace_tables.proofs.duplicates.add_destinations.Goals as goal

pub loop-at-preserved : goal.loop-at-preserved
loop-at-preserved c = λ rows are.
    let plan = c.args.network.now in
    let vl = c.args.vl in
    let places = c.args.places.now in
    let i = c.loop-at.at in
    let at = destination vl (get_or places i 0) in
    let lt : i < length places = omega (arith, c.loop-at-test.true) in
    let there = are i at (slice_get-map (destination vl) places i (get_or places i 0) (slice_get-get_or places i 0 lt)) in
    let here = get_or c.args.cells.now (c.args.start + i) c.index-cells-start.result in
    let cell : here ≡ cell_of rows at = get_or_from_slice_get c.args.cells.now (c.args.start + i) (cell_of rows at) c.index-cells-start.result there in
    c.in_ok-put_duplicates.ensures
    ∙ ap (λ (z : Cell). with_known plan c.loop-at.drops.entries (duplicate_at at) z.duplicates) cell
    ∙ ap (λ (drops : List (Loss × ℕ)). with_known plan drops (duplicate_at at) (duplicates_of rows at)) (c.loop-at.invariant rows are)
    ∙ sym (duplicates-place plan rows c.args.drops.now.entries vl places i lt)

pub returns : goal.returns
returns c = λ rows are.
    c.loop-at.invariant rows are
    ∙ ap (λ (ps : List ℕ). with_duplicates c.args.network.now rows c.args.drops.now.entries (map (destination c.args.vl) ps)) (take_all c.loop-at.at c.args.places.now (omega (arith, c.loop-at-test.false)))
