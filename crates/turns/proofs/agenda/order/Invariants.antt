use Rattle.std.proofs.Common.{◌<◌, All, take}
use Rattle.turns.proofs.agenda.order.Given as goal

abbrev pub invariant-loop-place : goal.invariant-loop-place
invariant-loop-place g l = All (λ o. o.first_ns < l.limit_ns) (take l.place l.own.items)
