use Rattle.std.proofs.Common.{◌≡◌, ℕ, ◌+◌, ◌<◌, ◌==◌, List, length, take, get_or, Some, None, option_map, ap, sym, ◌∙◌, arith}
use Rattle.std.proofs.lemmas.List.{length-map}
use Rattle.std.proofs.lemmas.Map.Keys.{sorted_from_strictly_increasing}
use Rattle.network.specs.Words.{ids_of, place_by, place_of_vl}
use Rattle.trace_tables.specs.Cells.{CellLists, cell_of, cell_place, starts_from}
use Rattle.trace_tables.specs.Destinations.{destination, destination_cmp, destinations_in}
use Rattle.std.specs.BTreeMap.{is_at}
use Rattle.trace_tables.proofs.CellLemmas.{length-starts, place-below, read-any}
use Rattle.trace_tables.proofs.CellPlaceLemmas.{place-found, place-nowhere, start-is}
use Rattle.trace_tables.proofs.ListLemmas.{rises-of}
use Rattle.trace_tables.proofs.cells.Cells.place_of.Goals as goal

pub destinations-requires : goal.destinations-requires
destinations-requires c =
    let vls = c.args.network.now.vls in
    place-below (λ vl. vl.link.id.0 == c.args.vl.0) vls c.in-Some.link (sym c.in-Some.is ∙ c.place_of.ensures)

pub index-requires : goal.index-requires
index-requires c =
    let vls = c.args.network.now.vls in
    let starts : c.self.inside.starts.items ≡ starts_from 0 vls = ap (λ (s : CellLists). s.starts) (c.self.view_is ∙ c.requires.1) in
    let lt : c.in-Some.link < length vls = place-below (λ vl. vl.link.id.0 == c.args.vl.0) vls c.in-Some.link (sym c.in-Some.is ∙ c.place_of.ensures) in
    let many : length c.self.inside.starts.items ≡ length vls = ap length starts ∙ length-starts 0 vls in
    omega (arith, c.self.inside.starts.ok.0)

pub returns-in-Some-place_among : goal.returns-in-Some-place_among
returns-in-Some-place_among c =
    let vls = c.args.network.now.vls in
    let k = c.in-Some.link in
    let at = c.in-Some-place_among.at in
    let places = c.destinations.result.now in
    let starts : c.self.inside.starts.items ≡ starts_from 0 vls = ap (λ (s : CellLists). s.starts) (c.self.view_is ∙ c.requires.1) in
    let found : Some k ≡ place_of_vl vls c.args.vl.0 = sym c.in-Some.is ∙ c.place_of.ensures in
    let lt : k < length vls = place-below (λ vl. vl.link.id.0 == c.args.vl.0) vls k found in
    let many : k < length (starts_from 0 vls) = let e : length (starts_from 0 vls) ≡ length vls = length-starts 0 vls in omega arith in
    let start : c.index.result.now ≡ 0 + length (destinations_in (take k vls)) =
    c.index.ensures ∙ ap (λ (ns : List ℕ). get_or ns k c.index.result.now) starts ∙ read-any (starts_from 0 vls) k c.index.result.now 0 many ∙ start-is 0 vls k lt in
    let sum : c.index.result.now + at ≡ length (destinations_in (take k vls)) + at = omega arith in
    let inner : place_by (λ p. c.args.process == p) places ≡ Some at =
    ap (λ (n : ℕ). place_by (λ p. n == p) places) (sym c.from.ensures) ∙ sym c.place_among.ensures ∙ c.in-Some-place_among.is in
    let rises = rises-of (ids_of vls) (sorted_from_strictly_increasing (ids_of vls) c.vl_count-rising.ensures.rising) in
    ap Some sum
    ∙ sym (place-found c.args.vl c.args.process vls k places rises found c.destinations.ensures ∙ ap (option_map (λ i. length (destinations_in (take k vls)) + i)) inner)

pub overflow_add-result : goal.overflow_add-result
overflow_add-result c =
    let vls = c.args.network.now.vls in
    let at = destination c.args.vl c.args.process in
    let k = c.in-Some.link in
    let i = c.in-Some-place_among.at in
    let places = c.destinations.result.now in
    let starts : c.self.inside.starts.items ≡ starts_from 0 vls = ap (λ (s : CellLists). s.starts) (c.self.view_is ∙ c.requires.1) in
    let found : Some k ≡ place_of_vl vls c.args.vl.0 = sym c.in-Some.is ∙ c.place_of.ensures in
    let lt : k < length vls = place-below (λ vl. vl.link.id.0 == c.args.vl.0) vls k found in
    let many : k < length (starts_from 0 vls) = let e : length (starts_from 0 vls) ≡ length vls = length-starts 0 vls in omega arith in
    let start : c.index.result.now ≡ 0 + length (destinations_in (take k vls)) =
    c.index.ensures ∙ ap (λ (ns : List ℕ). get_or ns k c.index.result.now) starts ∙ read-any (starts_from 0 vls) k c.index.result.now 0 many ∙ start-is 0 vls k lt in
    let inner : place_by (λ p. c.args.process == p) places ≡ Some i =
    ap (λ (n : ℕ). place_by (λ p. n == p) places) (sym c.from.ensures) ∙ sym c.place_among.ensures ∙ c.in-Some-place_among.is in
    let rises = rises-of (ids_of vls) (sorted_from_strictly_increasing (ids_of vls) c.vl_count-rising.ensures.rising) in
    let whole : Some (length (destinations_in (take k vls)) + i) ≡ cell_place vls at =
    sym (place-found c.args.vl c.args.process vls k places rises found c.destinations.ensures ∙ ap (option_map (λ i. length (destinations_in (take k vls)) + i)) inner) in
    let below : length (destinations_in (take k vls)) + i < length (destinations_in vls) = place-below (is_at (destination_cmp at)) (destinations_in vls) (length (destinations_in (take k vls)) + i) whole in
    let cells : length c.self.inside.cells.items ≡ length (destinations_in vls) = ap (λ (s : CellLists). length s.cells) (c.self.view_is ∙ c.requires.1) ∙ length-map (destinations_in vls) (cell_of c.requires.0) in
    omega (arith, c.self.inside.cells.ok.0, c.self.inside.cells.small)

pub returns-in-None-place_among : goal.returns-in-None-place_among
returns-in-None-place_among c =
    let vls = c.args.network.now.vls in
    let k = c.in-Some.link in
    let places = c.destinations.result.now in
    let inner : place_by (λ p. c.args.process == p) places ≡ None =
    ap (λ (n : ℕ). place_by (λ p. n == p) places) (sym c.from.ensures) ∙ sym c.place_among.ensures ∙ c.in-None-place_among.is in
    let rises = rises-of (ids_of vls) (sorted_from_strictly_increasing (ids_of vls) c.vl_count-rising.ensures.rising) in
    sym (place-found c.args.vl c.args.process vls k places rises (sym c.in-Some.is ∙ c.place_of.ensures) c.destinations.ensures ∙ ap (option_map (λ i. length (destinations_in (take k vls)) + i)) inner)

pub returns-in-None : goal.returns-in-None
returns-in-None c = place-nowhere c.args.vl c.args.process c.args.network.now.vls (sym c.in-None.is ∙ c.place_of.ensures)
