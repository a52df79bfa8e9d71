-- What happens at a port of a node in a run, and what it is for the port of which bounds are known.
use Rattle.std.specs.Prelude.{◌≡◌, ℕ, ◌<◌, ◌≤◌, All, List, [], ◌∷◌, ◌++◌, Option, Some, None, filter, map, ⊤}
use Rattle.std.specs.Option.{option_map_or}
use Rattle.vlink.specs.declared.message.Message.{Message}
use Rattle.vlink.specs.declared.message.Body.{Body}
use Rattle.vlink.specs.declared.message.Body.TheVariants.{Enqueue}
use Rattle.output_port.specs.declared.event.PortEvent.{PortEvent}
use Rattle.reverse.specs.Rules.{rules_of}
use Rattle.reverse.specs.Setting.{Setting, simulation_of}
use Rattle.virtual_time.specs.Law.{Laws, events}
use Rattle.bag_regulator.specs.Regulator.{Regulator}
use Rattle.output_port.specs.Port.{PortState}
use Rattle.output_port.specs.declared.event.Priority.{Priority}
use Rattle.output_port.specs.declared.event.Priority.TheVariants.{High, Low}
use Rattle.port_bounds.specs.Frames.{PutFrame}
use Rattle.port_bounds.specs.Pacing.{IsPaced}
use Rattle.port_bounds.specs.Sublists.{Every}
use Rattle.port_bounds.specs.Arrivals.{is_of_link, moments_at}
use Rattle.port_bounds.specs.Port.{Event, IsServed, highs_of, idle, lows_of}
use Rattle.policer.specs.declared.account.Arrival.{Arrival}
use Rattle.policer.specs.declared.account.Measure.TheVariants.{Bytes}
use Rattle.element_bounds.specs.Passages.{IsCounting, IsMetered}
use Rattle.element_bounds.specs.PortTrace.{PortEventAt, IsSamePort, trace_of}
use Rattle.nodes.specs.declared.equipment.Equipment.{Equipment}
use Rattle.nodes.specs.declared.equipment.Equipment.TheVariants.{EndSystem, Switch}
use Rattle.nodes.specs.declared.ports.Outlet.{Outlet}
use Rattle.nodes.specs.declared.transit.Transit.{Transit}
use Rattle.nodes.specs.rules.Switch.{SwitchState, transit_at}
use Rattle.nodes.specs.rules.Node.{NodeState, after, regulator_in}
use Rattle.nodes.specs.undoing.Node.{node}
use Rattle.port_turns.specs.PortEvents.{asks, outlet_in}
use Rattle.port_turns.specs.Nodes.{IsOfNodes}
use Rattle.port_turns.specs.SwitchPuts.{IsBrought, transit_of}

-- the input port of a switch by which a frame came that is put; an end system's frames all come by one
abbrev pub input_in : Body → SwitchState → ℕ
input_in (Enqueue p frame) s = option_map_or (λ found. found.entry.input) (transit_at s frame.vl) 0
input_in _ s = 0

abbrev pub input_of : Body → Equipment → ℕ
input_of b (Switch s) = input_in b s
input_of b _ = 0

abbrev pub asked_at : ℕ → ℕ → Option PortEvent → List PortEventAt
asked_at t line None = []
asked_at t line (Some e) = record { at = t; line = line; event = e } ∷ []

-- what is asked of port q while a node handles these messages, from the state s on
abbrev pub port_events : ℕ → NodeState → List Message → List PortEventAt
port_events q s [] = []
port_events q s (m ∷ ms) = asked_at m.time (input_of m.body s.equipment) (asks q m s.equipment) ++ port_events q (after s m) ms

-- the frames of a priority that are put
abbrev pub puts_with : Priority → List Event → List PutFrame
puts_with High es = highs_of es
puts_with Low es = lows_of es

-- in the one-thread run the port of which bounds are known is served: moments do not fall, and it is freed when its frame has left
abbrev pub ArePortsServed : Type 0
ArePortsServed =
    (x : Setting NodeState) → Laws (simulation_of (rules_of node) x) → (p q : ℕ) → p < x.processes → IsOfNodes x →
    (outlet : Outlet) → outlet_in (x.opening p).equipment q ≡ Some outlet → IsSamePort outlet.port idle → (n : ℕ) →
    IsServed idle 0 (trace_of outlet.ahead.byte_ns outlet.port (port_events q (x.opening p) (events (simulation_of (rules_of node) x) n p)))

-- each frame of virtual link v that a message brings has at least so many bytes
abbrev pub BringsAtLeast : ℕ → ℕ → Message → Type 0
BringsAtLeast v least m = (bytes : ℕ) → IsBrought v bytes m.body → least ≤ bytes

-- and of each priority the frames of a virtual link that are put to a port of a switch are paced as its account there says, where that counts frames,
-- or bytes of which no frame has fewer than the greatest
abbrev pub AreTracesPaced : Type 0
AreTracesPaced =
    (x : Setting NodeState) → Laws (simulation_of (rules_of node) x) → (p q v : ℕ) → p < x.processes → IsOfNodes x → (transit : Transit) → transit_of (x.opening p).equipment v ≡ Some transit →
    (least : ℕ) → IsCounting transit.account least → (byte_ns : ℕ) (port : PortState) (priority : Priority) (n : ℕ) →
    Every (BringsAtLeast v least) (events (simulation_of (rules_of node) x) n p) →
    IsPaced transit.account.bag transit.account.jitter
    (moments_at (is_of_link v) (puts_with priority (trace_of byte_ns port (port_events q (x.opening p) (events (simulation_of (rules_of node) x) n p)))))

-- the frames of virtual link v among these
abbrev pub arrival_of : PutFrame → Arrival
arrival_of put = record { at = put.at; size = put.frame.size }

abbrev pub arrivals_of : ℕ → List PutFrame → List Arrival
arrivals_of v puts = map arrival_of (filter (is_of_link v) puts)

-- and where the account counts bytes, they have no more bytes than it says, whatever sizes they have
abbrev pub AreTracesMetered : Type 0
AreTracesMetered =
    (x : Setting NodeState) → Laws (simulation_of (rules_of node) x) → (p q v : ℕ) → p < x.processes → IsOfNodes x → (transit : Transit) → transit_of (x.opening p).equipment v ≡ Some transit →
    transit.account.measure ≡ Bytes → (byte_ns : ℕ) (port : PortState) (priority : Priority) (n : ℕ) →
    IsMetered transit.account.smax transit.account.bag transit.account.jitter
    (arrivals_of v (puts_with priority (trace_of byte_ns port (port_events q (x.opening p) (events (simulation_of (rules_of node) x) n p)))))

-- in its regulators each frame that waits is of its virtual link, as where none waits
abbrev pub AreOwnFrames : Equipment → Type 0
AreOwnFrames (EndSystem s) = All (λ source. All (λ list. All (λ frame. frame.vl.0 ≡ source.end.vl.0) list.frames) source.regulator.lists) s.sources
AreOwnFrames _ = ⊤

-- at its end system they are one BAG apart, whatever messages come
abbrev pub AreSourceTracesPaced : Type 0
AreSourceTracesPaced =
    (q v : ℕ) (s : NodeState) (g : Regulator) (ms : List Message) → regulator_in s.equipment (record { 0 = v }) ≡ Some g → AreOwnFrames s.equipment →
    (byte_ns : ℕ) (port : PortState) (priority : Priority) → IsPaced g.bag 0 (moments_at (is_of_link v) (puts_with priority (trace_of byte_ns port (port_events q s ms))))
