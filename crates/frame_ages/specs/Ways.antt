-- The way of a virtual link to a node, port by port, and how long its frames take on it.
use Rattle.std.specs.Prelude.{◌≡◌, ℕ, ◌+◌, ◌*◌, ◌<◌, ◌≤◌, List, [], ◌∷◌, Some}
use Rattle.vlink.specs.Wire.{last_bit_after}
use Rattle.output_port.specs.declared.event.Priority.{Priority}
use Rattle.output_port.specs.declared.event.Priority.TheVariants.{High, Low}
use Rattle.reverse.specs.Setting.{Setting}
use Rattle.nodes.specs.declared.equipment.Equipment.TheVariants.{EndSystem, Switch}
use Rattle.nodes.specs.declared.ports.Outlet.{Outlet}
use Rattle.nodes.specs.declared.transit.Transit.{Transit}
use Rattle.nodes.specs.rules.EndSystem.{EndSystemState}
use Rattle.nodes.specs.rules.Line.{LineState}
use Rattle.nodes.specs.rules.Switch.{SwitchState}
use Rattle.nodes.specs.rules.Node.{NodeState}
use Rattle.port_turns.specs.Arrivals.{IsWay}
use Rattle.port_turns.specs.SwitchPuts.{transit_of}
use Rattle.frame_ages.specs.Ports.{IsHighBound, IsLowBound, IsThrough}
use Rattle.frame_ages.specs.Sizes.{Sizes}

-- port `from_port` of node `from` leads by line `by` to port `port` of node `to`. A frame comes to it `before` ns after it came to the node, with
-- this priority, and its last bit leaves within `delay` ns
pub record Hop : Type 0 where
  pub from : ℕ
  pub from_port : ℕ
  pub by : ℕ
  pub to : ℕ
  pub port : ℕ
  pub outlet : Outlet
  pub line : LineState
  pub before : ℕ
  pub priority : Priority
  pub delay : ℕ

-- from the node before the port to the node behind the line, in ns
abbrev pub hop_time : Hop → ℕ
hop_time h = h.before + (h.delay + h.line.propagation)

-- over these hops, the last one first
abbrev pub way_time : List Hop → ℕ
way_time [] = 0
way_time (h ∷ earlier) = way_time earlier + hop_time h

-- the last bit of each frame of virtual link v leaves the port in time: 12 bytes of gap come behind it
abbrev pub IsInTime : Setting NodeState → (ℕ → Sizes) → ℕ → ℕ → ℕ → Outlet → Priority → ℕ → Type 0
IsInTime x size v p q outlet High delay = (sent : ℕ) × IsHighBound x size p q outlet sent × (sent ≤ delay + 12 * outlet.ahead.byte_ns)
IsInTime x size v p q outlet Low delay = (start : ℕ) × IsLowBound x size p q outlet v start × (start + last_bit_after (size v).least outlet.ahead.byte_ns ≤ delay)

-- a hop as the tables of the setting have it
pub record IsHop (x : Setting NodeState) (size : ℕ → Sizes) (v : ℕ) (h : Hop) : Type 0 where
  pub from_inside : h.from < x.processes
  pub by_inside : h.by < x.processes
  pub to_inside : h.to < x.processes
  pub way : IsWay x h.from h.from_port h.by h.to h.port h.outlet h.line
  pub in_time : IsInTime x size v h.from h.from_port h.outlet h.priority h.delay

-- the first hop leaves an end system
pub record IsFirstHop (x : Setting NodeState) (h : Hop) : Type 0 where
  pub end_system : EndSystemState
  pub is : (x.opening h.from).equipment ≡ EndSystem end_system
  pub at_once : h.before ≡ 0
  pub low : h.priority ≡ Low

-- each other one leaves the switch to which the one before led, and where the virtual link comes in by that line
pub record IsNextHop (x : Setting NodeState) (v : ℕ) (earlier h : Hop) : Type 0 where
  pub switch : SwitchState
  pub is : (x.opening h.from).equipment ≡ Switch switch
  pub from_there : h.from ≡ earlier.to
  pub delay : h.before ≡ switch.latency
  pub transit : Transit
  pub goes : transit_of (Switch switch) v ≡ Some transit
  pub comes_in : transit.input ≡ earlier.port
  pub priority : h.priority ≡ transit.priority

-- virtual link v goes over these hops, the last one first
abbrev pub IsRoute : Setting NodeState → (ℕ → Sizes) → ℕ → List Hop → Type 0
IsRoute x size v [] = ⊥
IsRoute x size v (h ∷ []) = IsHop x size v h × IsFirstHop x h
IsRoute x size v (h ∷ (earlier ∷ rest)) = IsHop x size v h × IsNextHop x v earlier h × IsRoute x size v (earlier ∷ rest)

-- the node at which they begin
abbrev pub source_of : List Hop → ℕ
source_of [] = 0
source_of (h ∷ []) = h.from
source_of (h ∷ (earlier ∷ rest)) = source_of (earlier ∷ rest)

-- virtual link v comes to port `port` of node `to` over a route from the end system `source`, within so many ns
pub record ComesBy (x : Setting NodeState) (size : ℕ → Sizes) (v source to port most : ℕ) : Type 0 where
  pub hop : Hop
  pub earlier : List Hop
  pub route : IsRoute x size v (hop ∷ earlier)
  pub from_source : source_of (hop ∷ earlier) ≡ source
  pub to_there : hop.to ≡ to
  pub to_port : hop.port ≡ port
  pub within : way_time (hop ∷ earlier) ≡ most

-- it does not come there: the port before the line that leads there does not send it
pub record ComesNot (x : Setting NodeState) (v to port : ℕ) : Type 0 where
  pub from : ℕ
  pub from_port : ℕ
  pub by : ℕ
  pub outlet : Outlet
  pub line : LineState
  pub from_inside : from < x.processes
  pub by_inside : by < x.processes
  pub way : IsWay x from from_port by to port outlet line
  pub barred : (input : ℕ) (priority : Priority) → IsThrough (x.opening from).equipment from_port v input priority → ⊥
