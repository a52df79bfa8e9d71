use Rattle.std.proofs.Common.{◌≡◌, ℕ, ◌+◌, ◌<◌, [], ◌∷◌, ◌++◌, List, length, map, take, ap, sym, ◌∙◌, add-one, arith, take_all}
use Rattle.std.proofs.lemmas.List.{length-map}
use Rattle.network.specs.Words.{VlPlan}
use Rattle.trace_tables.specs.Cells.{cell_of, starts_from}
use Rattle.trace_tables.specs.Destinations.{destinations_in}
use Rattle.trace_tables.proofs.CellPlaceLemmas.{cells-more, starts-more}
use Rattle.trace_tables.proofs.CellLemmas.{lists-are}
use Rattle.trace_tables.proofs.cells.Cells.none.Goals as goal

pub loop-vl-preserved : goal.loop-vl-preserved
loop-vl-preserved c =
    let vls = c.args.network.now.vls in
    let i = c.loop-vl.vl in
    let cells = c.loop-vl.cells in
    let lt : i < length vls = omega (arith, c.loop-vl-test.true, c.vl_count-vl-end.ensures.value) in
    let same : length cells.items ≡ length (destinations_in (take i vls)) = ap length c.loop-vl.invariant.cells ∙ length-map (destinations_in (take i vls)) (cell_of []) in
    let many : c.len.result ≡ 0 + length (destinations_in (take i vls)) = omega (arith, same, cells.ok.0) in
    record {
      starts = c.in_ok-push.ensures.items
          ∙ ap (λ (ns : List ℕ). ns ++ c.len.result ∷ []) c.loop-vl.invariant.starts
          ∙ ap (λ (n : ℕ). starts_from 0 (take i vls) ++ n ∷ []) many
          ∙ sym (starts-more 0 vls i lt)
          ∙ ap (λ (n : ℕ). starts_from 0 (take n vls)) (sym (add-one i));
      cells = cells-more vls [] i c.destinations.result.now cells.items c.add_cells.new.cells.items c.destinations.ensures c.in_ok-add_cells.ensures c.loop-vl.invariant.cells
          ∙ ap (λ (n : ℕ). map (cell_of []) (destinations_in (take n vls))) (sym (add-one i));
    }

pub returns : goal.returns
returns c =
    let vls = c.args.network.now.vls in
    let all = take_all c.loop-vl.vl vls (omega (arith, c.loop-vl-test.false, c.vl_count-vl-end.ensures.value)) in
    lists-are vls [] c.loop-vl.starts.items c.loop-vl.cells.items
    (c.loop-vl.invariant.starts ∙ ap (starts_from 0) all) (c.loop-vl.invariant.cells ∙ ap (λ (some : List VlPlan). map (cell_of []) (destinations_in some)) all)
