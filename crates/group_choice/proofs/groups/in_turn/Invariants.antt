use Rattle.std.proofs.Common.{◌≡◌, ◌<◌, ◌≢◌, All, length, ℕ}
use Rattle.group_choice.proofs.groups.in_turn.Given as goal

abbrev pub invariant-loop-process : goal.invariant-loop-process
invariant-loop-process l =
    (length l.places.items ≡ l.process) × All (λ group. group < l.groups) l.places.items ×
    ((g : ℕ) → g < l.groups → g < l.process → ¬ (All (λ owner. owner ≢ g) l.places.items))
