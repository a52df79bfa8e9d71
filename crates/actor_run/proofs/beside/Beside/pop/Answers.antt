use Rattle.std.proofs.Common.{◌≡◌, ◌<◌, ◌-◌, ◌∙◌, List, ◌∷◌, ◌++◌, length, slice_get, IfSome, IsSome, IsPermutation, subst, sym, refl, rules, arith, IsSomeAnd, heap_items}
use Rattle.std.proofs.lemmas.List.Sorted.{IsPermutation-append_left, length_permutation}
use Rattle.vlink.specs.declared.message.Message.{Message}
use Rattle.two_lists.proofs.Firsts.{NoneBefore}
use Rattle.actor_run.proofs.Waits.{IsNotBeforeTop, not-none, offer-out, offer-first, sent-first, some-last, none-left}
use Rattle.actor_run.proofs.beside.Beside.pop.Goals.{After-pop}
use Rattle.actor_run.proofs.beside.Beside.pop.Goals as goal

pub returns-then-is_offer_next-clause-one : goal.returns-then-is_offer_next-clause-one
returns-then-is_offer_next-clause-one c =
    let sent = heap_items c.self.inside.sent in
    subst (λ (xs : List Message). IfSome c.pop.result (λ m. IsPermutation xs (m ∷ (sent ++ c.pop.new.self.items)))) c.self.view_is
    (offer-out sent c.self.inside.offers.items c.pop.new.self.items c.pop.result c.pop.ensures.items)

pub returns-then-is_offer_next-clause-first : goal.returns-then-is_offer_next-clause-first
returns-then-is_offer_next-clause-first c =
    let sent = heap_items c.self.inside.sent in
    let next = subst (λ (xs : List Message). IsSomeAnd (slice_get xs (length xs - 1)) (λ m. NoneBefore m sent)) c.as_slice.ensures.value (c.if-is_offer_next.ensures.offer refl) in
    subst (λ (xs : List Message). IfSome c.pop.result (λ m. NoneBefore m xs)) c.self.view_is
    (offer-first c.message_order_law.ensures.total sent c.self.inside.offers.items c.pop.new.self.items c.pop.result
    c.self.inside.falling c.pop.ensures.items next)

pub returns-in_default-clause-none : goal.returns-in_default-clause-none
returns-in_default-clause-none c =
    let sent = heap_items c.self.inside.sent in
    let none : length sent ≡ 0 = search rules in
    sym c.self.view_is ∙ none-left sent c.self.inside.offers.items none (subst (IsNotBeforeTop sent) c.as_slice.ensures.value (c.if-is_offer_next.ensures.sent refl))

pub returns-clause-one : goal.returns-clause-one
returns-clause-one c =
    let sent = heap_items c.self.inside.sent in
    let offers = c.self.inside.offers.items in
    let left = heap_items c.pop-2.new.self in
    subst (λ (xs : List Message). IsPermutation xs (c.message.result.now ∷ (left ++ offers))) c.self.view_is
    (IsPermutation-append_left offers sent (c.message.result.now ∷ left)
    (subst (λ (x : Message). IsPermutation sent (x ∷ left)) (sym c.message.ensures) c.in-Some.ensures.permutation))

pub returns-clause-first : goal.returns-clause-first
returns-clause-first c =
    let sent = heap_items c.self.inside.sent in
    let offers = c.self.inside.offers.items in
    let left = heap_items c.pop-2.new.self in
    let x = c.in-Some.sent in
    let some : 0 < length sent = let l = length_permutation sent (x ∷ left) c.in-Some.ensures.permutation in omega (arith, l) in
    let over = c.in-Some.ensures.heap_order c.self.inside.ordered in
    subst (λ (m : Message). NoneBefore m c.args.self.now) (sym c.message.ensures)
    (subst (NoneBefore x) c.self.view_is
    (sent-first c.message_order_law.ensures.total c.message_order_law.ensures.written sent offers x c.self.inside.falling over.1
    some c.in-Some.ensures.top (subst (IsNotBeforeTop sent) c.as_slice.ensures.value (c.if-is_offer_next.ensures.sent refl))))

-- the first offer comes before all that was sent: so there is one
offered : (c : After-pop) → IsSome c.pop.result
offered c =
    let sent = heap_items c.self.inside.sent in
    let next = subst (λ (xs : List Message). IsSomeAnd (slice_get xs (length xs - 1)) (λ m. NoneBefore m sent)) c.as_slice.ensures.value (c.if-is_offer_next.ensures.offer refl) in
    c.pop.ensures.variant.1 (let l = some-last _ c.self.inside.offers.items (length c.self.inside.offers.items - 1) next in omega (arith, l, c.self.inside.offers.ok.0))

pub returns-then-is_offer_next-clause-none : goal.returns-then-is_offer_next-clause-none
returns-then-is_offer_next-clause-none c = not-none _ c.pop.result (offered (goal.at.returns-then-is_offer_next-clause-none c).After-pop)

pub returns-then-is_offer_next-clause-unchanged : goal.returns-then-is_offer_next-clause-unchanged
returns-then-is_offer_next-clause-unchanged c = not-none _ c.pop.result (offered (goal.at.returns-then-is_offer_next-clause-unchanged c).After-pop)
