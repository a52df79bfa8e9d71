use Rattle.std.proofs.Common.{◌≡◌, length, sym, ap, ◌∙◌, arith}
use Rattle.group_queues.specs.DoneEvents.{sent_in}
use Rattle.group_queues.proofs.NewestDone.{how-much_sent}
use Rattle.group_queues.proofs.done_events.DoneEvents.sent_count.Goals as goal

pub returns : goal.returns
returns g c =
    let inside = c.self.inside in
    let n : c.len.result ≡ length inside.sends.items = (let e = c.len.ensures in omega arith) in
    n ∙ (sym (how-much_sent inside.events.items inside.sends.items inside.rows.items c.self.invariant.0) ∙ ap (λ z. sent_in z.events) c.self.view_is)
