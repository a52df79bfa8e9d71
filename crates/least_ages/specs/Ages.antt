-- How old frames are that come over a way.
use Rattle.std.specs.Prelude.{◌≡◌, ℕ, ◌+◌, ◌≤◌, List, [], ◌∷◌}
use Rattle.vlink.specs.Wire.{last_bit_after}
use Rattle.reverse.specs.Rules.{rules_of}
use Rattle.reverse.specs.Setting.{Setting, simulation_of}
use Rattle.virtual_time.specs.Law.{Laws, events}
use Rattle.port_bounds.specs.Frames.{link_of}
use Rattle.port_bounds.specs.Sublists.{Every}
use Rattle.nodes.specs.rules.Node.{NodeState}
use Rattle.nodes.specs.undoing.Node.{node}
use Rattle.port_turns.specs.Arrivals.{arrivals_in}
use Rattle.port_turns.specs.Nodes.{IsOfNodes}
use Rattle.frame_ages.specs.Sizes.{OpensEmpty, Sizes}
use Rattle.frame_ages.specs.Ways.{Hop, IsRoute}

-- over a hop, and over these, the last one first, where nothing waits: a frame of so many bytes
abbrev pub hop_least : ℕ → Hop → ℕ
hop_least bytes h = h.before + (last_bit_after bytes h.outlet.ahead.byte_ns + h.line.propagation)

abbrev pub way_least : ℕ → List Hop → ℕ
way_least bytes [] = 0
way_least bytes (h ∷ earlier) = way_least bytes earlier + hop_least bytes h

-- each frame of the virtual link that comes over the route was offered, then released, and took from its release on at least what its least frame takes
-- where nothing waits
abbrev pub AreAges : Type 0
AreAges =
    (x : Setting NodeState) → Laws (simulation_of (rules_of node) x) → IsOfNodes x → (size : ℕ → Sizes) → OpensEmpty x size → (v : ℕ) (h : Hop) (earlier : List Hop) → IsRoute x size v (h ∷ earlier) → (n : ℕ) →
    Every (λ put. link_of put ≡ v → (put.frame.offered ≤ put.frame.released) × (put.frame.released + way_least (size v).least (h ∷ earlier) ≤ put.at))
    (arrivals_in h.outlet.ahead.byte_ns h.port (events (simulation_of (rules_of node) x) n h.to))
