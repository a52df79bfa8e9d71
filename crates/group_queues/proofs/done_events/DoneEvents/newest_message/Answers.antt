use Rattle.std.proofs.Common.{◌≡◌, ◌<◌, ◌-◌, length, get_or, sym, ap, ◌∙◌, rules}
use Rattle.antimessages.specs.Counting.{newest_of}
use Rattle.group_queues.specs.DoneEvents.{messages_of}
use Rattle.group_queues.proofs.Shares.{newest-is}
use Rattle.group_queues.proofs.done_events.DoneEvents.newest_message.Goals as goal

pub returns-in-Some : goal.returns-in-Some
returns-in-Some g c =
    let events = c.self.inside.events.items in
    let event = c.in-Some.event.now in
    let some : 0 < length events = search rules in
    let last : event ≡ get_or events (length events - 1) event = search rules in
    sym (newest-is events c.self.inside.sends.items c.self.inside.rows.items event some last) ∙ ap (λ z. newest_of (messages_of z.events)) c.self.view_is
