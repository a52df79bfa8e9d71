use Rattle.std.proofs.Common.{◌≡◌, ℕ, ◌<◌, ◌≤◌, List, length, map, set, get_or, Some, ap, sym, ◌∙◌, arith}
use Rattle.std.specs.BTreeMap.{is_at}
use Rattle.std.proofs.lemmas.List.{length-map}
use Rattle.std.proofs.lemmas.Map.Keys.{sorted_from_strictly_increasing}
use Rattle.network.specs.Words.{ids_of}
use Rattle.trace_tables.specs.declared.cells.Cell.{Cell}
use Rattle.trace_tables.specs.Cells.{CellLists, cell_of, cell_place, starts_from}
use Rattle.trace_tables.specs.Destinations.{destination, destination_cmp, destinations_in}
use Rattle.trace_tables.specs.Latencies.{Counts, with_latency}
use Rattle.trace_tables.proofs.CellLemmas.{cell, delivered-cells, delivered-nowhere, few-in-cells, lists-are, place-below}
use Rattle.trace_tables.proofs.ListLemmas.{rises-of}
use Rattle.trace_tables.proofs.cells.Cells.add_latency.Goals as goal

pub index_mut-requires : goal.index_mut-requires
index_mut-requires c =
    let ds = destinations_in c.args.network.now.vls in
    let lt : c.in-Some.place < length ds = place-below (is_at (destination_cmp (destination c.args.vl c.args.process))) ds c.in-Some.place (sym c.in-Some.is ∙ c.place_of.ensures) in
    let cells : length c.self.inside.cells.items ≡ length ds = ap (λ (s : CellLists). length s.cells) (c.self.view_is ∙ c.requires.1) ∙ length-map ds (cell_of c.requires.0) in
    omega (arith, c.self.inside.cells.ok.0)

pub add-requires : goal.add-requires
add-requires c =
    let ds = destinations_in c.args.network.now.vls in
    let x = c.index_mut.result.now in
    let lt : c.in-Some.place < length ds = place-below (is_at (destination_cmp (destination c.args.vl c.args.process))) ds c.in-Some.place (sym c.in-Some.is ∙ c.place_of.ensures) in
    let few : (get_or (map (cell_of c.requires.0) ds) c.in-Some.place x).latencies.count ≤ length c.requires.0 = (few-in-cells ds c.requires.0 c.in-Some.place x lt).0 in
    let same : x.latencies.count ≡ (get_or (map (cell_of c.requires.0) ds) c.in-Some.place x).latencies.count =
    ap (λ (z : Cell). z.latencies.count) (c.index_mut.ensures.value ∙ ap (λ (s : CellLists). get_or s.cells c.in-Some.place x) (c.self.view_is ∙ c.requires.1)) in
    let room = c.requires.2 in
    omega arith

pub returns-in-Some : goal.returns-in-Some
returns-in-Some c = λ earlier row is at note.
    let vls = c.args.network.now.vls in
    let ds = destinations_in vls in
    let place = c.in-Some.place in
    let old = c.index_mut.result.now in
    let new = cell c.add.new.self old.duplicates in
    let rises = rises-of (ids_of vls) (sorted_from_strictly_increasing (ids_of vls) c.vl_count-rising.ensures.rising) in
    let starts : c.self.inside.starts.items ≡ starts_from 0 vls = ap (λ (s : CellLists). s.starts) (c.self.view_is ∙ is) in
    let cells : c.self.inside.cells.items ≡ map (cell_of earlier) ds = ap (λ (s : CellLists). s.cells) (c.self.view_is ∙ is) in
    let found : Some place ≡ cell_place vls (destination c.args.vl row.place) = sym c.in-Some.is ∙ c.place_of.ensures ∙ ap (λ (p : ℕ). cell_place vls (destination c.args.vl p)) (sym at) in
    let value : new ≡ cell (with_latency (get_or (map (cell_of earlier) ds) place old).latencies c.args.latency) (get_or (map (cell_of earlier) ds) place old).duplicates =
    ap (λ (l : Counts). cell l old.duplicates) c.add.ensures
    ∙ ap (λ (z : Cell). cell (with_latency z.latencies c.args.latency) z.duplicates) (c.index_mut.ensures.value ∙ ap (λ (cs : List Cell). get_or cs place old) cells) in
    lists-are vls _ c.self.inside.starts.items (set c.self.inside.cells.items place new) starts
    (ap (λ (cs : List Cell). set cs place new) cells ∙ delivered-cells vls earlier row c.args.vl c.args.latency place old new rises note found value)

pub returns-in-None : goal.returns-in-None
returns-in-None c = λ earlier row is at note.
    let vls = c.args.network.now.vls in
    is ∙ delivered-nowhere vls earlier row c.args.vl c.args.latency note (sym c.in-None.is ∙ c.place_of.ensures ∙ ap (λ (p : ℕ). cell_place vls (destination c.args.vl p)) (sym at))
