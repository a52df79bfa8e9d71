use Rattle.std.proofs.lemmas.Result.{on_ok_weaker}
use Rattle.group_queues.proofs.done_events.DoneEvents.reserve_each.Goals as goal

pub returns-clause-room : goal.returns-clause-room
returns-clause-room g c = on_ok_weaker c.reserve-3.result (λ rows. (c.in_ok-reserve.ensures.room, c.in_ok-reserve-2.ensures.room, rows)) c.reserve-3.ensures.room
