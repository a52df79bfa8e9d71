-- What waits at a port of a node in the one-thread run, and whether the port drops frames.
use Rattle.std.specs.Prelude.{◌≡◌, ℕ, ◌<◌, ◌≤◌, List, [], ◌∷◌, Some, ⊤}
use Rattle.output_port.specs.Port.{PortState, port, waiting_bytes}
use Rattle.output_port.specs.declared.event.PortAnswer.TheVariants.{Dropped}
use Rattle.reverse.specs.Rules.{rules_of}
use Rattle.reverse.specs.Setting.{Setting, simulation_of}
use Rattle.virtual_time.specs.Law.{Laws, events}
use Rattle.element_bounds.specs.PortTrace.{PortEventAt, state_after}
use Rattle.nodes.specs.declared.ports.Outlet.{Outlet}
use Rattle.nodes.specs.rules.Node.{NodeState}
use Rattle.nodes.specs.undoing.Node.{node}
use Rattle.port_turns.specs.Nodes.{IsOfNodes}
use Rattle.port_turns.specs.PortEvents.{outlet_in}
use Rattle.port_turns.specs.PortRuns.{port_events}
use Rattle.frame_ages.specs.Ports.{IsWaitingBound}
use Rattle.frame_ages.specs.Rooms.{HasRoomAt}
use Rattle.frame_ages.specs.Sizes.{OpensEmpty, Sizes}

-- what is asked of port q of node p in the first n events of the run
abbrev pub asked_in : Setting NodeState → ℕ → ℕ → ℕ → List PortEventAt
asked_in x p q n = port_events q (x.opening p) (events (simulation_of (rules_of node) x) n p)

-- how many bytes of frames wait there then: without gaps, and without the frame in transmission
abbrev pub waiting_in : Setting NodeState → ℕ → ℕ → Outlet → ℕ → ℕ
waiting_in x p q outlet n = waiting_bytes (state_after outlet.port (asked_in x p q n))

-- a port drops none of the frames that are put to it
abbrev pub TakesAll : PortState → List PortEventAt → Type 0
TakesAll p [] = ⊤
TakesAll p (e ∷ es) = (port.out p e.event ≡ Dropped → ⊥) × TakesAll (port.after p e.event) es

-- no more bytes wait at a port than its bound says, whether it has room for them or not
abbrev pub AreBytesBounded : Type 0
AreBytesBounded =
    (x : Setting NodeState) → Laws (simulation_of (rules_of node) x) → IsOfNodes x → (size : ℕ → Sizes) → OpensEmpty x size →
    (p q : ℕ) (outlet : Outlet) → p < x.processes → outlet_in (x.opening p).equipment q ≡ Some outlet → (bytes : ℕ) → IsWaitingBound x size p q outlet bytes → (n : ℕ) → waiting_in x p q outlet n ≤ bytes

-- where it has room it drops no frame, whatever the other ports of the node do
abbrev pub ArePortsRoomy : Type 0
ArePortsRoomy =
    (x : Setting NodeState) → Laws (simulation_of (rules_of node) x) → IsOfNodes x → (size : ℕ → Sizes) → OpensEmpty x size →
    (p q : ℕ) (outlet : Outlet) → p < x.processes → outlet_in (x.opening p).equipment q ≡ Some outlet → HasRoomAt x size p q outlet → (n : ℕ) → TakesAll outlet.port (asked_in x p q n)
