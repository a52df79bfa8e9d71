use Rattle.std.proofs.Common.{◌≡◌, ◌≢◌, ◌<◌, ℕ, All, length}
use Rattle.worker_pool.proofs.grouping.each_alone.Given as goal

abbrev pub invariant-loop-process : goal.invariant-loop-process
invariant-loop-process l =
    (length l.owners.items ≡ l.process) × All (λ group. group < l.processes) l.owners.items ×
    ((g : ℕ) → g < l.processes → g < l.process → ¬ (All (λ owner. owner ≢ g) l.owners.items))
