use Rattle.std.proofs.Common.{length, sym, ap, ◌∙◌, arith}
use Rattle.std.proofs.lemmas.Result.{on_ok_weaker}
use Rattle.group_queues.specs.DoneEvents.{sent_in, noted_in}
use Rattle.group_queues.proofs.NewestDone.{how-many, how-much_sent, how-much_noted}
use Rattle.group_queues.proofs.done_events.DoneEvents.reserve_for.Goals as goal

pub returns-clause-room : goal.returns-clause-room
returns-clause-room g c =
    let there = c.other.inside in
    let n = sym (ap (λ z. length z.events) c.other.view_is) ∙ how-many there.events.items there.sends.items there.rows.items in
    let s = sym (ap (λ z. sent_in z.events) c.other.view_is) ∙ how-much_sent there.events.items there.sends.items there.rows.items c.other.invariant.0 in
    let k = sym (ap (λ z. noted_in z.events) c.other.view_is) ∙ how-much_noted there.events.items there.sends.items there.rows.items c.other.invariant.1 in
    on_ok_weaker c.reserve_each.result (λ room. record {
      events = omega (arith, n, c.len.ensures, room.0);
      sends = omega (arith, s, c.len-2.ensures, room.1);
      rows = omega (arith, k, c.len-3.ensures, room.2);
    }) c.reserve_each.ensures.room
