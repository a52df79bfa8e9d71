use Rattle.std.proofs.Common.{◌<◌, All, take}
use Rattle.group_queues.proofs.rows.count_before.Given as goal

abbrev pub invariant-loop-place : goal.invariant-loop-place
invariant-loop-place l = All (λ row. row.message.time < l.moment) (take l.place l.rows)
