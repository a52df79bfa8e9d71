-- How long a regulator holds frames in the one-thread run.
use Rattle.std.specs.Prelude.{◌≡◌, ℕ, ◌+◌, ◌-◌, ◌*◌, ◌<◌, ◌≤◌, true, All, Some}
use Rattle.vlink.specs.declared.message.Message.{Message}
use Rattle.bag_regulator.specs.Regulator.{opening}
use Rattle.reverse.specs.Rules.{rules_of}
use Rattle.reverse.specs.Setting.{Setting, simulation_of}
use Rattle.virtual_time.specs.Law.{Laws}
use Rattle.nodes.specs.rules.Node.{NodeState, regulator_in}
use Rattle.nodes.specs.undoing.Node.{node}
use Rattle.port_turns.specs.Nodes.{IsOfNodes, is_offer_of}
use Rattle.frame_ages.specs.Latencies.{IsHeldWithin}
use Rattle.frame_ages.specs.Sizes.{OpensEmpty, Sizes}

-- a regulator with `sub` lists, each for `depth` frames, holds none for more BAGs than these are frames, whatever is offered
abbrev pub AreListsHeld : Type 0
AreListsHeld =
    (x : Setting NodeState) → Laws (simulation_of (rules_of node) x) → IsOfNodes x → (size : ℕ → Sizes) → OpensEmpty x size → (p v bag depth sub : ℕ) → p < x.processes →
    regulator_in (x.opening p).equipment (record { 0 = v }) ≡ Some (opening bag depth sub) → IsHeldWithin x p v ((depth * sub) * bag)

-- virtual link v is offered by a period: its k-th frame, of which there is one at most, at most `early` ns before it is due and `jitter` ns after; frames
-- are due a period apart or more, and come in the order of their numbers
pub record IsOfferedBy (x : Setting NodeState) (v period jitter early : ℕ) : Type 0 where
  pub offer : ℕ → Message
  pub each : All (λ m. is_offer_of v m.body ≡ true → m ≡ offer m.number) x.offers
  pub sender : ℕ
  pub sent : (k : ℕ) → (offer k).sender ≡ sender
  pub due : ℕ → ℕ
  pub apart : (k : ℕ) → due k + period ≤ due (k + 1)
  pub not_before : (k : ℕ) → due k ≤ (offer k).time + early
  pub not_after : (k : ℕ) → (offer k).time ≤ due k + jitter
  pub rising : (k : ℕ) → (offer k).time ≤ (offer (k + 1)).time

-- then a regulator with one list holds none for longer than what they come early, jitter and BAG beyond the period, if the BAG is not longer than the period
abbrev pub ArePeriodsHeld : Type 0
ArePeriodsHeld =
    (x : Setting NodeState) → Laws (simulation_of (rules_of node) x) → IsOfNodes x → (size : ℕ → Sizes) → OpensEmpty x size → (p v bag depth : ℕ) → p < x.processes →
    regulator_in (x.opening p).equipment (record { 0 = v }) ≡ Some (opening bag depth 1) →
    (period jitter early : ℕ) → IsOfferedBy x v period jitter early → bag ≤ period → IsHeldWithin x p v (((early + jitter) + bag) - period)
