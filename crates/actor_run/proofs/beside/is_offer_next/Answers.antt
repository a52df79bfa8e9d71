use Rattle.std.proofs.Common.{◌≡◌, true, subst, rules, IsSomeAnd, heap_items}
use Rattle.reverse.specs.Rules.{is_before}
use Rattle.two_lists.proofs.Firsts.{NoneBefore}
use Rattle.actor_run.proofs.Waits.{top-first, before-sent}
use Rattle.actor_run.proofs.beside.is_offer_next.Goals as goal

pub returns-in-Some-peek-clause-offer : goal.returns-in-Some-peek-clause-offer
returns-in-Some-peek-clause-offer c = λ t.
    let sent = heap_items c.args.sent.now in
    let offer = c.in-Some.offer.now in
    let top = c.in-Some-peek.top.now in
    let before : is_before offer top ≡ true = search rules in
    subst (λ o. IsSomeAnd o (λ m. NoneBefore m sent)) c.in-Some.ensures.value
    (before-sent c.message_order_law.ensures.total sent top offer (top-first c.message_order_law.ensures.written top sent (c.in-Some-peek.ensures.greatest c.requires)) before)
