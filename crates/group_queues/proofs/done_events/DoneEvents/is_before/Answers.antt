use Rattle.std.proofs.Common.{◌≡◌, ◌<◌, ◌-◌, Some, length, get_or, subst, sym, ap, ◌∙◌, rules}
use Rattle.vlink.specs.Order.{message_order}
use Rattle.antimessages.specs.Counting.{is_after, newest_of}
use Rattle.group_queues.specs.DoneEvents.{messages_of}
use Rattle.group_queues.proofs.Shares.{newest-is}
use Rattle.group_queues.proofs.done_events.DoneEvents.is_before.Goals as goal

pub returns-in-Some : goal.returns-in-Some
returns-in-Some g c =
    let events = c.self.inside.events.items in
    let event = c.in-Some.event.now in
    let some : 0 < length events = search rules in
    let last : event ≡ get_or events (length events - 1) event = search rules in
    let newest : newest_of (messages_of c.args.self.now.events) ≡ Some event.message =
    ap (λ z. newest_of (messages_of z.events)) (sym c.self.view_is) ∙ newest-is events c.self.inside.sends.items c.self.inside.rows.items event some last in
    subst (λ o. c.precedes.result ≡ is_after message_order o c.args.message.now) (sym newest) c.precedes.ensures
