use Rattle.std.proofs.Common.{◌≡◌, ◌≢◌, ◌<◌, ◌+◌, ℕ, All, length, take}
use Rattle.group_choice.specs.Groups.{HaveProcesses}
use Rattle.group_choice.proofs.groups.places_of.Given as goal

abbrev pub invariant-loop-node : goal.invariant-loop-node
invariant-loop-node l =
    (length l.places.items ≡ l.node) × All (λ group. group < l.groups) l.places.items ×
    ((g : ℕ) → g < l.groups → All (λ owner. owner ≢ g) l.places.items → All (λ owner. owner ≢ g) (take l.node l.owners))

abbrev pub invariant-loop-line : goal.invariant-loop-line
invariant-loop-line l =
    (length l.places.items ≡ length l.network.nodes + l.line) × All (λ group. group < l.groups) l.places.items × HaveProcesses l.groups l.places.items
