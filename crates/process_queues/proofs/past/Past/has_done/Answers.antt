use Rattle.std.proofs.Common.{◌≡◌, Some, None, not, refl, map, slice_get, sym, ap, ◌∙◌, subst, arith}
use Rattle.virtual_time.specs.Law.{one_if, times_in, IsAscending}
use Rattle.reverse.specs.Rules.{rules_of}
use Rattle.vlink.specs.Order.{message_order}
use Rattle.process_queues.specs.Past.{Past}
use Rattle.process_queues.proofs.Done.{done-once, at-get, none-get}
use Rattle.process_queues.proofs.past.Past.has_done.Given.{Over}
use Rattle.process_queues.proofs.past.Past.has_done.Goals as goal

pub done_before-place-requires : goal.done_before-place-requires
done_before-place-requires g c =
    subst (λ (p : Past g.row.R.Denot g.row.R-Record.Denot). IsAscending message_order (map (λ e. e.message) p.done)) (sym c.self.view_is) c.requires

-- how often the message is done, by the first event that does not come before it
times : (g : Over) (c : goal.After-is_before g) → times_in message_order c.args.message.now (map (λ e. e.message) c.args.self.now.done) ≡ one_if (not c.is_before.result)
times g c =
    let done = c.self.inside.done.items in
    let e = c.in-Some.event.now in
    let up = subst (λ (p : Past g.row.R.Denot g.row.R-Record.Denot). IsAscending message_order (map (λ e. e.message) p.done)) (sym c.self.view_is) c.requires in
    let within = c.in-Some.ensures.variant.0 refl in
    subst (λ (p : Past g.row.R.Denot g.row.R-Record.Denot). times_in message_order c.args.message.now (map (λ e. e.message) p.done) ≡ one_if (not c.is_before.result)) c.self.view_is
    (done-once (rules_of g.R.Reversible.plain) c.actor_rules_law.ensures.order (map (λ x. x.message) done) up c.args.message.now (Some e.message)
    (ap (slice_get (map (λ x. x.message) done)) (sym c.done_before-place.ensures) ∙ at-get done c.done_before-place.result e (omega arith) c.in-Some.ensures.lookup) ∙
    ap (λ b. one_if (not b)) (sym c.is_before.ensures))

pub returns-in-Some-clause-done : goal.returns-in-Some-clause-done
returns-in-Some-clause-done g c = λ t. times g c ∙ ap one_if t

pub returns-in-Some-clause-not_done : goal.returns-in-Some-clause-not_done
returns-in-Some-clause-not_done g c = λ t. times g c ∙ ap one_if t

pub returns-in-None-clause-not_done : goal.returns-in-None-clause-not_done
returns-in-None-clause-not_done g c = λ _.
    let done = c.self.inside.done.items in
    let up = subst (λ (p : Past g.row.R.Denot g.row.R-Record.Denot). IsAscending message_order (map (λ e. e.message) p.done)) (sym c.self.view_is) c.requires in
    subst (λ (p : Past g.row.R.Denot g.row.R-Record.Denot). times_in message_order c.args.message.now (map (λ e. e.message) p.done) ≡ 0) c.self.view_is
    (done-once (rules_of g.R.Reversible.plain) c.actor_rules_law.ensures.order (map (λ x. x.message) done) up c.args.message.now None
    (ap (slice_get (map (λ x. x.message) done)) (sym c.done_before-place.ensures) ∙
    none-get done c.done_before-place.result (λ h. let bad = c.in-None.ensures.variant.1 (omega arith) in cc)))
