use Rattle.std.proofs.Common.{◌≡◌, ◌++◌, [], refl}
use Rattle.std.proofs.lemmas.Result.{err_from_is_err_and}
use Rattle.network.specs.Words.{double_names, not_links}
use Rattle.network_faults.specs.RowLists.{plan_in}
use Rattle.network.proofs.EachLemmas.{Tells-front, Tells-behind}
use Rattle.network_faults.proofs.numbering.check_numbered.Goals as goal

pub returns-in_err-check_no_link : goal.returns-in_err-check_no_link
returns-in_err-check_no_link c =
    let told = c.from_residual-in_err-check_no_link in
    let p = err_from_is_err_and told.result told.ensures.1 in
    rw (p.1, p.2) (Tells-front _ _ _ (Tells-front _ _ _ (Tells-behind _ _ _ c.in_ok-joined.ensures.0 c.in_err-check_no_link.ensures)))

pub returns-in_err-check_no_tree : goal.returns-in_err-check_no_tree
returns-in_err-check_no_tree c =
    let told = c.from_residual-in_err-check_no_tree in
    let p = err_from_is_err_and told.result told.ensures.1 in
    let plan = plan_in c.args.names.now.nodes.now c.args.numbered.now in
    let before : double_names plan ++ not_links plan ≡ [] = rw (c.in_ok-joined.ensures.0, c.in_ok-check_no_link.ensures) refl in
    rw (p.1, p.2) (Tells-front _ _ _ (Tells-behind _ _ _ before (rw c.as_slice.ensures.value at c.in_err-check_no_tree.ensures)))
