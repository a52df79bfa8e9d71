use Rattle.std.proofs.Common.{◌≡◌, ◌<◌, sym, rules}
use Rattle.group_queues.proofs.Precedes.{receiver-tells}
use Rattle.group_queues.proofs.done_events.precedes.Goals as goal

pub returns-then-first-second : goal.returns-then-first-second
returns-then-first-second c =
    let same : c.args.first.now.time ≡ c.args.second.now.time = search rules in
    let less : c.args.first.now.receiver < c.args.second.now.receiver = search rules in
    sym (receiver-tells c.args.first.now c.args.second.now same less)
