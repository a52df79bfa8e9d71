use Rattle.std.proofs.Common.{◌≡◌, ◌==◌, ◌++◌, ◌∷◌, [], sym, ◌∙◌, ap}
use Rattle.network.proofs.PlaceLemmas.{placed}
use Rattle.network.specs.Words.{is_end_system}
use Rattle.network_bounds.specs.declared.sizes.LinkSizes.{LinkSizes}
use Rattle.network_bounds.specs.Passing.{sizes_at}
use Rattle.network_bounds.proofs.PassingLemmas.{met-at, sizes_there}
use Rattle.network_bounds.proofs.passing.push_passing.Goals as goal

pub virtual_link-link-requires : goal.virtual_link-link-requires
virtual_link-link-requires c = placed (λ vl. vl.link.id.0 == c.args.way.vl.0) c.args.network.now.vls c.in-Some.vl (sym c.place_of.ensures ∙ c.in-Some.is)

pub returns-clause-passing : goal.returns-clause-passing
returns-clause-passing c =
    let plan = c.args.network.now in
    let link = c.virtual_link-link.result in
    let end = is_end_system plan.nodes c.args.node in
    let there = sizes_there c.args.known.now c.in-Some.vl in
    let made = met-at plan c.args.known.now c.args.node c.args.port c.in-Some.vl c.args.way link c.if-way-port.false (sym c.place_of.ensures ∙ c.in-Some.is) c.virtual_link-link.ensures.value in
    let sizes : c.counted.result ≡ sizes_at end there = c.counted.ensures ∙ ap (λ b. sizes_at b c.sizes_at.result) c.is_end.ensures ∙ ap (λ (s : LinkSizes). sizes_at end s) c.sizes_at.ensures in
    c.in_ok-push.ensures.items
    ∙ ap (λ s. c.args.found.now.items ++ record { link = link; sizes = s; input = c.input_of.result } ∷ []) sizes
    ∙ ap (λ input. c.args.found.now.items ++ record { link = link; sizes = sizes_at end there; input = input } ∷ []) c.input_of.ensures
    ∙ ap (λ ps. c.args.found.now.items ++ ps) (sym made)
