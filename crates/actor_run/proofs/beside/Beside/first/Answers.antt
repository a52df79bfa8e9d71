use Rattle.std.proofs.Common.{◌≡◌, ◌<◌, ◌-◌, ◌∙◌, List, length, slice_get, Contains, IfSome, IsSomeAnd, subst, sym, refl, rules, option_copied, heap_items}
use Rattle.std.proofs.lemmas.List.Elements.{Contains-append_left}
use Rattle.vlink.specs.declared.message.Message.{Message}
use Rattle.two_lists.proofs.Firsts.{NoneBefore}
use Rattle.actor_run.proofs.Waits.{IsNotBeforeTop, sent-first, none-left, last-among, last-of-all}
use Rattle.actor_run.proofs.beside.Beside.first.Goals as goal

pub returns-then-is_offer_next-clause-among : goal.returns-then-is_offer_next-clause-among
returns-then-is_offer_next-clause-among c =
    let sent = heap_items c.self.inside.sent in
    let offers = c.self.inside.offers.items in
    let last = subst (λ (xs : List Message). option_copied c.last.result ≡ slice_get xs (length xs - 1)) c.deref.ensures.value c.last.ensures.value in
    subst (λ (xs : List Message). IfSome c.last.result (λ m. Contains xs m.now)) c.self.view_is (last-among sent offers c.last.result last)

pub returns-then-is_offer_next-clause-first : goal.returns-then-is_offer_next-clause-first
returns-then-is_offer_next-clause-first c =
    let sent = heap_items c.self.inside.sent in
    let offers = c.self.inside.offers.items in
    let last = subst (λ (xs : List Message). option_copied c.last.result ≡ slice_get xs (length xs - 1)) c.deref.ensures.value c.last.ensures.value in
    let next = subst (λ (xs : List Message). IsSomeAnd (slice_get xs (length xs - 1)) (λ m. NoneBefore m sent)) c.as_slice.ensures.value (c.if-is_offer_next.ensures.offer refl) in
    subst (λ (xs : List Message). IfSome c.last.result (λ m. NoneBefore m.now xs)) c.self.view_is
    (last-of-all c.message_order_law.ensures.total sent offers c.last.result c.self.inside.falling last next)

pub returns-in_default-clause-none : goal.returns-in_default-clause-none
returns-in_default-clause-none c =
    let sent = heap_items c.self.inside.sent in
    let none : length sent ≡ 0 = search rules in
    sym c.self.view_is ∙ none-left sent c.self.inside.offers.items none (subst (IsNotBeforeTop sent) c.as_slice.ensures.value (c.if-is_offer_next.ensures.sent refl))

pub returns-clause-among : goal.returns-clause-among
returns-clause-among c =
    let sent = heap_items c.self.inside.sent in
    let x = c.in-Some.top.now in
    let some : 0 < length sent = search rules in
    subst (λ (m : Message). Contains c.args.self.now m) (sym c.message.ensures)
    (subst (λ (xs : List Message). Contains xs x) c.self.view_is
    (Contains-append_left sent c.self.inside.offers.items x (0, some, sym c.in-Some.ensures.lookup)))

pub returns-clause-first : goal.returns-clause-first
returns-clause-first c =
    let sent = heap_items c.self.inside.sent in
    let offers = c.self.inside.offers.items in
    let x = c.in-Some.top.now in
    let some : 0 < length sent = search rules in
    subst (λ (m : Message). NoneBefore m c.args.self.now) (sym c.message.ensures)
    (subst (NoneBefore x) c.self.view_is
    (sent-first c.message_order_law.ensures.total c.message_order_law.ensures.written sent offers x c.self.inside.falling (c.in-Some.ensures.greatest c.self.inside.ordered)
    some c.in-Some.ensures.lookup (subst (IsNotBeforeTop sent) c.as_slice.ensures.value (c.if-is_offer_next.ensures.sent refl))))
