use Rattle.std.proofs.Common.{◌<◌, ◌≢◌, All, ℕ}
use Rattle.group_choice.proofs.groups.have_nodes.Given as goal

abbrev pub invariant-loop-group : goal.invariant-loop-group
invariant-loop-group l = (g : ℕ) → g < l.group → ¬ (All (λ owner. owner ≢ g) l.owners)
