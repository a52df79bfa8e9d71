use Rattle.std.proofs.Common.{◌≡◌, length, sym, ap, ◌∙◌, arith}
use Rattle.group_queues.proofs.NewestDone.{how-many}
use Rattle.group_queues.proofs.done_events.DoneEvents.len.Goals as goal

pub returns : goal.returns
returns g c =
    let inside = c.self.inside in
    let n : c.len.result ≡ length inside.events.items = (let e = c.len.ensures in omega arith) in
    n ∙ (sym (how-many inside.events.items inside.sends.items inside.rows.items) ∙ ap (λ z. length z.events) c.self.view_is)
