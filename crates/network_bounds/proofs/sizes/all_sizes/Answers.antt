use Rattle.std.proofs.Common.{◌≡◌, ◌++◌, ◌∷◌, [], map, take_all, ap, sym, subst, ◌∙◌, arith}
use Rattle.network_bounds.specs.Sizes.{AreLeast, all_sizes, link_sizes}
use Rattle.network_bounds.proofs.SizeLemmas.{all-least, sizes-more, sizes_of_vl}
use Rattle.network_bounds.proofs.sizes.all_sizes.Goals as goal

pub loop-vl-preserved : goal.loop-vl-preserved
loop-vl-preserved c =
    let plan = c.args.network.now in
    let senders = c.args.senders in
    c.in_ok-push.ensures.items
    ∙ ap (λ z. c.loop-vl.found.items ++ z ∷ []) c.of.ensures
    ∙ ap (λ zs. zs ++ link_sizes senders plan c.virtual_link-link.result ∷ []) c.loop-vl.invariant
    ∙ sym (sizes-more senders plan c.loop-vl.vl c.virtual_link-link.result c.virtual_link-link.ensures.value)

pub returns : goal.returns
returns c =
    let plan = c.args.network.now in
    let senders = c.args.senders in
    let all : c.loop-vl.found.items ≡ all_sizes senders plan =
    c.loop-vl.invariant ∙ ap (map (sizes_of_vl senders plan)) (take_all c.loop-vl.vl plan.vls (omega (arith, c.loop-vl-test.false, c.vl_count-vl-end.ensures.value))) in
    record { all = all; least = subst (AreLeast plan) (sym all) (all-least senders plan) }
