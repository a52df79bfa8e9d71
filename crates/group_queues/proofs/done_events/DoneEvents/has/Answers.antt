use Rattle.std.proofs.Common.{◌≡◌, ◌≢◌, true, All, Contains, List, sym, ap, ◌∙◌, subst, rules}
use Rattle.vlink.specs.declared.message.Message.{Message}
use Rattle.vlink.specs.Order.{message_order}
use Rattle.antimessages.specs.Counting.{is_after, newest_of}
use Rattle.group_queues.specs.DoneEvents.{messages_of}
use Rattle.group_queues.proofs.NewestDone.{after-none}
use Rattle.group_queues.proofs.Shares.{messages-in}
use Rattle.group_queues.proofs.done_events.DoneEvents.has.Goals as goal

pub returns-then-not-is_before-clause-yes : goal.returns-then-not-is_before-clause-yes
returns-then-not-is_before-clause-yes g c = λ e.
    let inside = c.self.inside in
    subst (λ (xs : List Message). Contains xs c.args.message.now)
    (sym (messages-in inside.events.items inside.sends.items inside.rows.items) ∙ ap (λ z. messages_of z.events) c.self.view_is) (c.is_among.ensures.yes e)

pub returns-then-not-is_before-clause-no : goal.returns-then-not-is_before-clause-no
returns-then-not-is_before-clause-no g c = λ e up.
    let inside = c.self.inside in
    subst (λ (xs : List Message). All (λ x. x ≢ c.args.message.now) xs)
    (sym (messages-in inside.events.items inside.sends.items inside.rows.items) ∙ ap (λ z. messages_of z.events) c.self.view_is) (c.is_among.ensures.no e)

pub returns-else-not-is_before-clause-no : goal.returns-else-not-is_before-clause-no
returns-else-not-is_before-clause-no g c = λ e up.
    let after : is_after message_order (newest_of (messages_of c.args.self.now.events)) c.args.message.now ≡ true = search rules in
    after-none c.order_law.ensures c.args.message.now (messages_of c.args.self.now.events) up after
