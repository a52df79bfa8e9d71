use Rattle.std.proofs.Common.{◌≡◌, ◌∙◌, ◌++◌, List, [], ap, map, subst}
use Rattle.std.proofs.lemmas.Result.{err_from_is_err_and}
use Rattle.network_rows.specs.declared.fault.DescFault.{DescFault}
use Rattle.network.specs.Words.{node_plan}
use Rattle.network.specs.Faults.{Tells}
use Rattle.network.proofs.EachLemmas.{Tells-front, Tells-behind}
use Rattle.network_faults.specs.RowLists.{RowLists, row_lists_in}
use Rattle.network_faults.proofs.PlanFaults.{plan_over, faults_in, faults-split}
use Rattle.network_faults.proofs.numbering.numbered_of.Goals as goal

pub returns-in_err-packed-clause-numbered : goal.returns-in_err-packed-clause-numbered
returns-in_err-packed-clause-numbered c =
    let p = err_from_is_err_and c.from_residual.result c.from_residual.ensures.1 in
    rw (p.1, p.2) (rw (faults-split c.args.rows) (Tells-front _ _ _ c.in_err-packed.ensures))

pub returns-in_err-check_rows-clause-numbered : goal.returns-in_err-check_rows-clause-numbered
returns-in_err-check_rows-clause-numbered c =
    let rows = c.args.rows in
    let lists = c.in_ok-numbered.ensures (row_lists_in rows) c.in_ok-packed.ensures.1 in
    let p = err_from_is_err_and c.from_residual-in_err-check_rows.result c.from_residual-in_err-check_rows.ensures.1 in
    rw (p.1, p.2) (rw (faults-split rows) (Tells-behind _ _ _ c.in_ok-packed.ensures.0
    (subst (λ (l : RowLists). Tells c.in_err-check_rows.field-0.0 (faults_in (plan_over (map node_plan rows.nodes) l))) lists
    (rw (c.as_slice.ensures.value, c.in_ok-nodes.ensures) at c.in_err-check_rows.ensures))))

pub returns-clause-numbered : goal.returns-clause-numbered
returns-clause-numbered c =
    let rows = c.args.rows in
    let lists = c.in_ok-numbered.ensures (row_lists_in rows) c.in_ok-packed.ensures.1 in
    let none : faults_in (plan_over (map node_plan rows.nodes) (row_lists_in rows)) ≡ [] =
    subst (λ (l : RowLists). faults_in (plan_over (map node_plan rows.nodes) l) ≡ []) lists
    (rw (c.as_slice.ensures.value, c.in_ok-nodes.ensures) at c.in_ok-check_rows.ensures) in
    (faults-split rows ∙ ap (λ (fs : List DescFault). fs ++ faults_in (plan_over (map node_plan rows.nodes) (row_lists_in rows))) c.in_ok-packed.ensures.0 ∙ none, lists)
