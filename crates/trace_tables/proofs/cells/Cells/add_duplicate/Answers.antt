use Rattle.std.proofs.Common.{◌≡◌, ℕ, ◌+◌, ◌<◌, ◌≤◌, List, length, map, set, get_or, Some, ap, sym, ◌∙◌, arith}
use Rattle.std.specs.BTreeMap.{is_at}
use Rattle.std.proofs.lemmas.List.{length-map}
use Rattle.std.proofs.lemmas.Map.Keys.{sorted_from_strictly_increasing}
use Rattle.network.specs.Words.{ids_of}
use Rattle.trace_tables.specs.declared.cells.Cell.{Cell}
use Rattle.trace_tables.specs.Cells.{CellLists, cell_of, cell_place, starts_from}
use Rattle.trace_tables.specs.Destinations.{destination, destination_cmp, destinations_in}
use Rattle.trace_tables.proofs.CellLemmas.{cell, duplicate-cells, duplicate-nowhere, few-in-cells, lists-are, place-below}
use Rattle.trace_tables.proofs.ListLemmas.{rises-of}
use Rattle.trace_tables.proofs.cells.Cells.add_duplicate.Goals as goal

pub index_mut-requires : goal.index_mut-requires
index_mut-requires c =
    let ds = destinations_in c.args.network.now.vls in
    let lt : c.in-Some.place < length ds = place-below (is_at (destination_cmp (destination c.args.vl c.args.process))) ds c.in-Some.place (sym c.in-Some.is ∙ c.place_of.ensures) in
    let cells : length c.self.inside.cells.items ≡ length ds = ap (λ (s : CellLists). length s.cells) (c.self.view_is ∙ c.requires.1) ∙ length-map ds (cell_of c.requires.0) in
    omega (arith, c.self.inside.cells.ok.0)

pub overflow_add-index_mut : goal.overflow_add-index_mut
overflow_add-index_mut c =
    let ds = destinations_in c.args.network.now.vls in
    let x = c.index_mut.result.now in
    let lt : c.in-Some.place < length ds = place-below (is_at (destination_cmp (destination c.args.vl c.args.process))) ds c.in-Some.place (sym c.in-Some.is ∙ c.place_of.ensures) in
    let few : (get_or (map (cell_of c.requires.0) ds) c.in-Some.place x).duplicates ≤ length c.requires.0 = (few-in-cells ds c.requires.0 c.in-Some.place x lt).1 in
    let same : x.duplicates ≡ (get_or (map (cell_of c.requires.0) ds) c.in-Some.place x).duplicates =
    ap (λ (z : Cell). z.duplicates) (c.index_mut.ensures.value ∙ ap (λ (s : CellLists). get_or s.cells c.in-Some.place x) (c.self.view_is ∙ c.requires.1)) in
    let room = c.requires.2 in
    omega arith

pub returns-in-Some-clause-counted : goal.returns-in-Some-clause-counted
returns-in-Some-clause-counted c = λ earlier row size is at note.
    let vls = c.args.network.now.vls in
    let ds = destinations_in vls in
    let place = c.in-Some.place in
    let old = c.index_mut.result.now in
    let new = cell old.latencies (old.duplicates + 1) in
    let rises = rises-of (ids_of vls) (sorted_from_strictly_increasing (ids_of vls) c.vl_count-rising.ensures.rising) in
    let starts : c.self.inside.starts.items ≡ starts_from 0 vls = ap (λ (s : CellLists). s.starts) (c.self.view_is ∙ is) in
    let cells : c.self.inside.cells.items ≡ map (cell_of earlier) ds = ap (λ (s : CellLists). s.cells) (c.self.view_is ∙ is) in
    let found : Some place ≡ cell_place vls (destination c.args.vl row.place) = sym c.in-Some.is ∙ c.place_of.ensures ∙ ap (λ (p : ℕ). cell_place vls (destination c.args.vl p)) (sym at) in
    let value : new ≡ cell (get_or (map (cell_of earlier) ds) place old).latencies ((get_or (map (cell_of earlier) ds) place old).duplicates + 1) =
    ap (λ (z : Cell). cell z.latencies (z.duplicates + 1)) (c.index_mut.ensures.value ∙ ap (λ (cs : List Cell). get_or cs place old) cells) in
    lists-are vls _ c.self.inside.starts.items (set c.self.inside.cells.items place new) starts
    (ap (λ (cs : List Cell). set cs place new) cells ∙ duplicate-cells vls earlier row c.args.vl size place old new rises note found value)

pub returns-in-None-clause-counted : goal.returns-in-None-clause-counted
returns-in-None-clause-counted c = λ earlier row size is at note.
    let vls = c.args.network.now.vls in
    is ∙ duplicate-nowhere vls earlier row c.args.vl size note (sym c.in-None.is ∙ c.place_of.ensures ∙ ap (λ (p : ℕ). cell_place vls (destination c.args.vl p)) (sym at))
