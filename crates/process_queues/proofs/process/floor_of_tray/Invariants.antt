use Rattle.std.proofs.Common.{◌≡◌, map, take}
use Rattle.virtual_time.specs.Law.{lowest}
use Rattle.process_queues.proofs.process.floor_of_tray.Given as goal

abbrev pub invariant-loop-place : goal.invariant-loop-place
invariant-loop-place l = l.floor ≡ lowest l.initial.floor (map (λ x. x.message.time) (take l.place l.tray.items))
