use Rattle.std.proofs.Common.{◌≡◌, ℕ, ◌+◌, ◌<◌, ◌≤◌, List, [], length, map, take, get_or, ap, sym, ◌∙◌, add-one, arith, take_all}
use Rattle.std.proofs.lemmas.List.{length-map}
use Rattle.std.proofs.lemmas.Map.Keys.{sorted_from_strictly_increasing}
use Rattle.network.specs.Words.{VlPlan, ids_of}
use Rattle.trace_tables.specs.Cells.{CellLists, cell_of, AreCellsFrom}
use Rattle.trace_tables.specs.Destinations.{destination, destinations_in, with_destinations}
use Rattle.trace_tables.proofs.CellLemmas.{length-starts}
use Rattle.trace_tables.proofs.CellPlaceLemmas.{cells-there, start-is, there-within}
use Rattle.trace_tables.proofs.DestinationLemmas.{all-counted, destinations-more, with_destinations-append}
use Rattle.trace_tables.proofs.ListLemmas.{rises-of}
use Rattle.trace_tables.proofs.deliveries.deliveries_of.Goals as goal

pub start-requires : goal.start-requires
start-requires c =
    let vls = c.args.network.now.vls in
    let many : length c.args.cells.now.starts ≡ length vls = ap (λ (s : CellLists). length s.starts) c.requires.1 ∙ length-starts 0 vls in
    omega (arith, c.loop-vl-test.true, c.vl_count-vl-end.ensures.value)

pub add_destinations-requires : goal.add_destinations-requires
add_destinations-requires c =
    let vls = c.args.network.now.vls in
    let i = c.loop-vl.vl in
    let places = c.destinations.result.now in
    let lt : i < length vls = omega (arith, c.loop-vl-test.true, c.vl_count-vl-end.ensures.value) in
    let within : length (destinations_in (take i vls)) + length places ≤ length (destinations_in vls) = there-within vls i places c.destinations.ensures in
    let start : c.start.result ≡ 0 + length (destinations_in (take i vls)) = c.start.ensures ∙ ap (λ (s : CellLists). get_or s.starts i 0) c.requires.1 ∙ start-is 0 vls i lt in
    let all : length c.all.result.now ≡ length (destinations_in vls) = ap length c.all.ensures ∙ ap (λ (s : CellLists). length s.cells) c.requires.1 ∙ length-map (destinations_in vls) (cell_of c.requires.0) in
    omega arith

pub loop-vl-preserved : goal.loop-vl-preserved
loop-vl-preserved c = λ rows is.
    let vls = c.args.network.now.vls in
    let i = c.loop-vl.vl in
    let link = c.virtual_link.result in
    let places = c.destinations.result.now in
    let its = map (destination link.id) places in
    let lt : i < length vls = omega (arith, c.loop-vl-test.true, c.vl_count-vl-end.ensures.value) in
    let there : AreCellsFrom rows c.start.result its c.all.result.now =
    cells-there vls rows i link places c.start.result c.all.result.now c.virtual_link.ensures.value c.destinations.ensures
    (c.start.ensures ∙ ap (λ (s : CellLists). get_or s.starts i 0) is) lt (c.all.ensures ∙ ap (λ (s : CellLists). s.cells) is) in
    c.in_ok-add_destinations.ensures rows there
    ∙ ap (λ table. with_destinations rows table its) (c.loop-vl.invariant rows is)
    ∙ sym (with_destinations-append rows [] (destinations_in (take i vls)) its)
    ∙ ap (with_destinations rows []) (sym (destinations-more vls i link places c.virtual_link.ensures.value c.destinations.ensures))
    ∙ ap (λ (n : ℕ). with_destinations rows [] (destinations_in (take n vls))) (sym (add-one i))

pub returns : goal.returns
returns c = λ rows is.
    let vls = c.args.network.now.vls in
    c.loop-vl.invariant rows is
    ∙ ap (λ (all : List VlPlan). with_destinations rows [] (destinations_in all)) (take_all c.loop-vl.vl vls (omega (arith, c.loop-vl-test.false, c.vl_count-vl-end.ensures.value)))
    ∙ all-counted vls rows (rises-of (ids_of vls) (sorted_from_strictly_increasing (ids_of vls) c.vl_count-vl-end.ensures.rising))
