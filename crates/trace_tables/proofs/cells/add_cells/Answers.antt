use Rattle.std.proofs.Common.{List, [], ◌∷◌, ◌++◌, map, take, get_or, ap, sym, ◌∙◌, arith, append_assoc}
use Rattle.std.proofs.lemmas.List.{map-append}
use Rattle.trace_tables.specs.declared.cells.Cell.{Cell}
use Rattle.trace_tables.specs.Cells.{cell_of}
use Rattle.trace_tables.specs.Destinations.{destination}
use Rattle.trace_tables.specs.Latencies.{Counts, counts_of}
use Rattle.trace_tables.proofs.CellLemmas.{cell}
use Rattle.trace_tables.proofs.DestinationLemmas.{places-more}
use Rattle.trace_tables.proofs.cells.add_cells.Goals as goal

pub loop-preserved : goal.loop-preserved
loop-preserved c = λ vl.
    let places = c.args.places.now in
    let i = c.loop.counter in
    let before = c.args.cells.now.items in
    let none = cell (counts_of []) 0 in
    c.in_ok-push.ensures.items
    ∙ ap (λ (l : Counts). c.loop.cells.items ++ cell l 0 ∷ []) c.none.ensures
    ∙ ap (λ (cs : List Cell). cs ++ none ∷ []) (c.loop.invariant vl)
    ∙ append_assoc before (map (cell_of []) (map (destination vl) (take i places))) (none ∷ [])
    ∙ ap (λ (cs : List Cell). before ++ cs)
    (sym (ap (map (cell_of [])) (places-more vl places i (omega (arith, c.loop-test.true))) ∙ map-append (cell_of []) (map (destination vl) (take i places)) (destination vl (get_or places i 0) ∷ [])))
