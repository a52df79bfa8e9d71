use Rattle.std.proofs.Common.{ℕ, ◌<◌, ◌≤◌, Option, map, IfSome, length, sym, subst, ◌∙◌, rules}
use Rattle.std.proofs.lemmas.List.Sorted.{answers_always}
use Rattle.nodes.proofs.NumberLemmas.{place-searched, place-small, ok-within}
use Rattle.nodes.proofs.finding.search.Goals as goal

pub returns-clause-within : goal.returns-clause-within
returns-clause-within g c =
    let found = c.binary_search_by_key.result in
    subst (λ (o : Option ℕ). IfSome o (λ place. place < length c.args.entries.now)) (sym c.ok.ensures.value) (ok-within found (length c.args.entries.now) c.binary_search_by_key.ensures.bound)

pub returns-clause-place : goal.returns-clause-place
returns-clause-place g c =
    let searched = c.binary_search_by_key.ensures in
    let by_number = searched.position g.T.Numbered.number (answers_always _ _ _ (λ f a r g called. search rules)) in
    c.ok.ensures.value ∙ place-searched g.T.Numbered.number c.args.entries.now c.args.vl.0 c.binary_search_by_key.result c.requires searched.bound by_number

pub returns-clause-small : goal.returns-clause-small
returns-clause-small g c =
    subst (λ (o : Option ℕ). IfSome o (λ place. place ≤ c.args.vl.0)) (sym (returns-clause-place g c)) (place-small (map g.T.Numbered.number c.args.entries.now) c.args.vl.0 c.requires)
