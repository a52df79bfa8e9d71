use Rattle.std.proofs.Common.{◌≢◌, All, map, take}
use Rattle.group_queues.proofs.newest.is_among.Given as goal

abbrev pub invariant-loop-place : goal.invariant-loop-place
invariant-loop-place g l = All (λ x. x ≢ l.message) (take l.place (map (λ e. e.message) l.events.items))
