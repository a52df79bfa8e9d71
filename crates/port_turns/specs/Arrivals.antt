-- What comes by a line to a port of a node.
use Rattle.std.specs.Prelude.{◌≡◌, ℕ, ◌<◌, ◌≤◌, ◌==◌, true, if◌then◌else◌, List, [], ◌∷◌, ◌++◌, Some, None}
use Rattle.vlink.specs.declared.message.Message.{Message}
use Rattle.vlink.specs.declared.message.Body.{Body}
use Rattle.vlink.specs.declared.message.Body.TheVariants.{Arrive}
use Rattle.reverse.specs.Rules.{rules_of}
use Rattle.reverse.specs.Setting.{Setting, simulation_of}
use Rattle.virtual_time.specs.Law.{Laws, events}
use Rattle.output_port.specs.Port.{PortState}
use Rattle.output_port.specs.declared.event.Priority.{Priority}
use Rattle.port_bounds.specs.Frames.{PutFrame}
use Rattle.port_bounds.specs.Arrivals.{IsSerial, is_by_line}
use Rattle.port_bounds.specs.Port.{idle}
use Rattle.element_bounds.specs.PortTrace.{IsSamePort, put_at, trace_of}
use Rattle.nodes.specs.declared.equipment.Equipment.TheVariants.{Switch, Line}
use Rattle.nodes.specs.declared.ports.Outlet.{Outlet}
use Rattle.nodes.specs.rules.Line.{LineState}
use Rattle.nodes.specs.rules.Switch.{SwitchState}
use Rattle.nodes.specs.rules.Node.{NodeState}
use Rattle.nodes.specs.undoing.Node.{node}
use Rattle.port_turns.specs.PortEvents.{outlet_in}
use Rattle.port_turns.specs.PortRuns.{port_events, puts_with}
use Rattle.port_turns.specs.Nodes.{IsOfNodes}

-- the frame that comes to port j with a message, and what it costs on the line by which it comes
abbrev pub arrival_in : ℕ → ℕ → ℕ → Body → List PutFrame
arrival_in byte_ns j t (Arrive p frame) = if p == j then put_at byte_ns t j frame ∷ [] else []
arrival_in byte_ns j t _ = []

abbrev pub arrivals_in : ℕ → ℕ → List Message → List PutFrame
arrivals_in byte_ns j [] = []
arrivals_in byte_ns j (m ∷ ms) = arrival_in byte_ns j m.time m.body ++ arrivals_in byte_ns j ms

-- port q of process p leads by line k to port j of process r; no other port leads into the line, and no other line to port j
pub record IsWay (x : Setting NodeState) (p q k r j : ℕ) (outlet : Outlet) (line : LineState) : Type 0 where
  pub port : outlet_in (x.opening p).equipment q ≡ Some outlet
  pub empty : IsSamePort outlet.port idle
  pub into : outlet.ahead.line ≡ k
  pub line_is : (x.opening k).equipment ≡ Line line
  pub to : line.to ≡ r
  pub to_port : line.to_port ≡ j
  pub only_port : (n i : ℕ) (other : Outlet) → n < x.processes → outlet_in (x.opening n).equipment i ≡ Some other → other.ahead.line ≡ k → (n ≡ p) × (i ≡ q)
  pub only_line : (n : ℕ) (other : LineState) → n < x.processes → (x.opening n).equipment ≡ Line other → other.to ≡ r → other.to_port ≡ j → n ≡ k

-- what comes there comes one after the other: each frame at least the time after the one before it for which it kept the line busy
abbrev pub AreArrivalsSerial : Type 0
AreArrivalsSerial =
    (x : Setting NodeState) → Laws (simulation_of (rules_of node) x) → (p q k r j : ℕ) → p < x.processes → k < x.processes → IsOfNodes x →
    (outlet : Outlet) (line : LineState) → IsWay x p q k r j outlet line →
    (n : ℕ) → IsSerial None (λ put. true) (arrivals_in outlet.ahead.byte_ns j (events (simulation_of (rules_of node) x) n r))

-- and so do those of them that a switch puts to one of its ports, where the line there is no slower
abbrev pub AreTracesSerial : Type 0
AreTracesSerial =
    (x : Setting NodeState) → Laws (simulation_of (rules_of node) x) → (p q k r j : ℕ) → p < x.processes → k < x.processes → r < x.processes → IsOfNodes x →
    (outlet : Outlet) (line : LineState) → IsWay x p q k r j outlet line → (switch : SwitchState) → (x.opening r).equipment ≡ Switch switch →
    (i byte_ns : ℕ) → byte_ns ≤ outlet.ahead.byte_ns → (port : PortState) (priority : Priority) (n : ℕ) →
    IsSerial None (is_by_line j) (puts_with priority (trace_of byte_ns port (port_events i (x.opening r) (events (simulation_of (rules_of node) x) n r))))
