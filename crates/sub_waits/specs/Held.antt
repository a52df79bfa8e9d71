-- How long a regulator with sub-virtual links holds frames in the one-thread run.
use Rattle.std.specs.Prelude.{◌≡◌, ℕ, ◌+◌, ◌-◌, ◌<◌, ◌≤◌, Some}
use Rattle.bag_regulator.specs.Regulator.{opening}
use Rattle.reverse.specs.Rules.{rules_of}
use Rattle.reverse.specs.Setting.{Setting, simulation_of}
use Rattle.virtual_time.specs.Law.{Laws}
use Rattle.nodes.specs.rules.Node.{NodeState, regulator_in}
use Rattle.nodes.specs.undoing.Node.{node}
use Rattle.port_turns.specs.Nodes.{IsOfNodes}
use Rattle.frame_ages.specs.Latencies.{IsHeldWithin}
use Rattle.frame_ages.specs.Sizes.{OpensEmpty, Sizes}
use Rattle.frame_ages.specs.Waits.{IsOfferedBy}

-- whatever the number of its lists and their depth are, it holds no frame for longer than what frames come early, jitter and BAG beyond the period, if the
-- BAG is no longer than the period, and what they come early and late is less
abbrev pub AreSubsHeld : Type 0
AreSubsHeld =
    (x : Setting NodeState) → Laws (simulation_of (rules_of node) x) → IsOfNodes x → (size : ℕ → Sizes) → OpensEmpty x size → (p v bag depth sub : ℕ) → p < x.processes →
    regulator_in (x.opening p).equipment (record { 0 = v }) ≡ Some (opening bag depth sub) →
    (period jitter early : ℕ) → IsOfferedBy x v period jitter early → bag ≤ period → early + jitter < period → IsHeldWithin x p v (((early + jitter) + bag) - period)
