use Rattle.std.proofs.lemmas.Result.{err_from_is_err_and}
use Rattle.network.proofs.EachLemmas.{Tells-front, Tells-behind}
use Rattle.network_faults.proofs.numbering.join_links.Goals as goal

pub returns-in_err-check_links : goal.returns-in_err-check_links
returns-in_err-check_links c =
    let told = c.from_residual-in_err-check_links in
    let p = err_from_is_err_and told.result told.ensures.1 in
    rw (p.1, p.2) (Tells-front _ _ _ (Tells-behind _ _ _ c.in_ok-check_nodes.ensures
    (rw (c.in_ok-joined.ensures, c.as_slice.ensures.value) at c.in_err-check_links.ensures)))
