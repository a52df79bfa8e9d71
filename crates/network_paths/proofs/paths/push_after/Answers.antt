use Rattle.std.proofs.Common.{◌+◌, ◌<◌, ◌++◌, [], ◌∷◌, length, drop, get_or, ap, sym, ◌∙◌, arith, append_assoc}
use Rattle.std.proofs.lemmas.List.{drop_more}
use Rattle.network.specs.Words.{hops_after}
use Rattle.network_paths.proofs.paths.push_after.Goals as goal

pub loop-to-preserved : goal.loop-to-preserved
loop-to-preserved c =
    let others = c.args.others.now in
    let i = c.loop-to.to-index in
    let to = get_or others i 0 in
    let hops = c.loop-to.hops.items in
    let from = c.loop-to.from in
    let lt : i < length others = omega arith in
    ap (λ xs. xs ++ hops_after to (drop (i + 1) others)) c.in_ok-push.ensures.items
    ∙ append_assoc hops (record { from = from; to = to } ∷ []) (hops_after to (drop (i + 1) others))
    ∙ ap (λ xs. hops ++ hops_after from xs) (sym (drop_more others i 0 lt)) ∙ c.loop-to.invariant
