-- What is known of an output port of a node before a run: which virtual links can be put there, what they can give, and a certificate of its bounds.
use Rattle.std.specs.Prelude.{◌≡◌, ℕ, ◌+◌, ◌-◌, ◌*◌, ◌<◌, ◌≤◌, ◌⊎◌, true, List, Some}
use Rattle.vlink.specs.Wire.{busy_for}
use Rattle.vlink.specs.declared.frame.Net.TheVariants.{A, B}
use Rattle.bag_regulator.specs.Regulator.{Regulator}
use Rattle.policer.specs.declared.account.Measure.TheVariants.{Bytes}
use Rattle.output_port.specs.declared.event.Priority.{Priority}
use Rattle.output_port.specs.declared.event.Priority.TheVariants.{High, Low}
use Rattle.reverse.specs.Rules.{rules_of}
use Rattle.reverse.specs.Setting.{Setting, simulation_of}
use Rattle.virtual_time.specs.Law.{Laws, events}
use Rattle.port_bounds.specs.Delays.{AreSentWithin}
use Rattle.port_bounds.specs.Frames.{link_of}
use Rattle.port_bounds.specs.Mixtures.{Flow, Group, IsAmong, groups_burst, groups_rate, lines_of, links_of}
use Rattle.port_bounds.specs.Port.{Event, high_starts, idle, low_starts}
use Rattle.port_bounds.specs.Sublists.{Every}
use Rattle.element_bounds.specs.Passages.{IsCounting}
use Rattle.element_bounds.specs.PortTrace.{trace_of}
use Rattle.nodes.specs.declared.equipment.Equipment.{Equipment}
use Rattle.nodes.specs.declared.equipment.Equipment.TheVariants.{EndSystem, Switch, Line}
use Rattle.nodes.specs.declared.ports.Outlet.{Outlet}
use Rattle.nodes.specs.declared.source.Source.{Source}
use Rattle.nodes.specs.declared.transit.Transit.{Transit}
use Rattle.nodes.specs.declared.vl_end.VlEnd.{VlEnd}
use Rattle.nodes.specs.rules.EndSystem.{EndSystemState, is_on, port_of, source_at}
use Rattle.nodes.specs.rules.Finding.{Found}
use Rattle.nodes.specs.rules.Line.{LineState}
use Rattle.nodes.specs.rules.Switch.{SwitchState, outputs_of}
use Rattle.nodes.specs.rules.Node.{NodeState, regulator_in}
use Rattle.nodes.specs.undoing.Node.{node}
use Rattle.port_turns.specs.Arrivals.{IsWay}
use Rattle.port_turns.specs.Nodes.{IsOfNodes}
use Rattle.port_turns.specs.PortEvents.{outlet_in}
use Rattle.port_turns.specs.PortRuns.{port_events}
use Rattle.port_turns.specs.SwitchPuts.{transit_of}
use Rattle.frame_ages.specs.Sizes.{OpensEmpty, Sizes}

-- ---- which virtual links can be put to a port

-- the end is on the network of port q
abbrev pub IsOnPort : VlEnd → ℕ → Type 0
IsOnPort end q = ((q ≡ port_of A) × (is_on end A ≡ true)) ⊎ ((q ≡ port_of B) × (is_on end B ≡ true))

-- the end system sends virtual link v by port q, low
pub record IsSentBy (s : EndSystemState) (q v line : ℕ) (priority : Priority) : Type 0 where
  pub found : Found Source
  pub is : source_at s (record { 0 = v }) ≡ Some found
  pub on : IsOnPort found.entry.end q
  pub line_is : line ≡ 0
  pub low : priority ≡ Low

-- virtual link v comes into the switch by a line to port `line`, and goes out by port q with this priority
pub record IsThroughSwitch (s : SwitchState) (q v line : ℕ) (priority : Priority) : Type 0 where
  pub transit : Transit
  pub is : transit_of (Switch s) v ≡ Some transit
  pub out : IsAmong q (outputs_of transit)
  pub line_is : line ≡ transit.input
  pub priority_is : priority ≡ transit.priority

abbrev pub IsThrough : Equipment → ℕ → ℕ → ℕ → Priority → Type 0
IsThrough (EndSystem s) q v line priority = IsSentBy s q v line priority
IsThrough (Switch s) q v line priority = IsThroughSwitch s q v line priority
IsThrough (Line s) q v line priority = ⊥

-- ---- what they can give

-- how far apart frames of virtual link v come there: a BAG, less the slack
abbrev pub AreApartBy : Equipment → ℕ → ℕ → ℕ → ℕ → Type 0
AreApartBy (EndSystem s) v bytes bag slack = (g : Regulator) × (regulator_in (EndSystem s) (record { 0 = v }) ≡ Some g) × (g.bag ≡ bag) × (slack ≡ 0)
AreApartBy (Switch s) v bytes bag slack = (transit : Transit) × (transit_of (Switch s) v ≡ Some transit) × IsCounting transit.account bytes × (transit.account.bag ≡ bag) × (transit.account.jitter ≡ slack)
AreApartBy (Line s) v bytes bag slack = ⊥

-- no frame of virtual link v that is put to a port there has more bytes: none that is offered has, or its account lets none pass that has
abbrev pub HasAtMost : Equipment → (ℕ → Sizes) → ℕ → ℕ → Type 0
HasAtMost e size v bytes = ((size v).greatest ≤ bytes) ⊎ ((transit : Transit) × (transit_of e v ≡ Some transit) × (transit.smax ≤ bytes))

-- none of them costs more
pub record CostsAtMost (e : Equipment) (size : ℕ → Sizes) (byte_ns v most : ℕ) : Type 0 where
  pub greatest : ℕ
  pub at_most : HasAtMost e size v greatest
  pub cost : busy_for greatest byte_ns ≤ most

-- the curve of frames that cost so much, in units of which a ns has `scale`. By the BAG: one frame, what the slack adds, and then a frame in
-- each BAG. By the gap that the slack leaves of a BAG: one frame, and then one in each gap
pub data IsCurve (parts bag slack scale cost : ℕ) (flow : Flow) : Type 0 where
  ByBag : flow.burst ≡ (parts * cost) * (bag + slack) → flow.rate ≡ parts * cost → IsCurve parts bag slack scale cost flow
  ByGap : flow.burst ≡ scale * cost → scale * cost ≤ flow.rate * (bag - slack) → IsCurve parts bag slack scale cost flow

-- the burst and the rate of a virtual link, by how far apart its frames come
pub record IsPacedFlow (e : Equipment) (size : ℕ → Sizes) (byte_ns scale : ℕ) (flow : Flow) : Type 0 where
  pub parts : ℕ
  pub bag : ℕ
  pub slack : ℕ
  pub apart : AreApartBy e flow.link (size flow.link).least bag slack
  pub units : parts * bag ≡ scale
  pub greatest : ℕ
  pub at_most : HasAtMost e size flow.link greatest
  pub curve : IsCurve parts bag slack scale (busy_for greatest byte_ns) flow

-- or, where its account counts bytes, by how many it lets pass: Smax for each BAG of one BAG, the jitter and the time. Of all frames the least cost
-- the most for a byte
pub record IsMeteredFlow (e : Equipment) (size : ℕ → Sizes) (byte_ns scale : ℕ) (flow : Flow) : Type 0 where
  pub parts : ℕ
  pub transit : Transit
  pub is : transit_of e flow.link ≡ Some transit
  pub bytes : transit.account.measure ≡ Bytes
  pub units : parts * transit.account.bag ≡ scale
  pub least : ℕ
  pub some : 1 ≤ least
  pub shorter : least ≤ (size flow.link).least
  pub cost : ℕ
  pub enough : transit.account.smax * busy_for least byte_ns ≤ cost * least
  pub burst : flow.burst ≡ (parts * cost) * (transit.account.bag + transit.account.jitter)
  pub rate : flow.rate ≡ parts * cost

abbrev pub IsFlow : Equipment → (ℕ → Sizes) → ℕ → ℕ → Flow → Type 0
IsFlow e size byte_ns scale flow = IsPacedFlow e size byte_ns scale flow ⊎ IsMeteredFlow e size byte_ns scale flow

-- the burst and the rate of a line by which frames come to node p, and which is no faster than the port's own
pub record IsByLine (x : Setting NodeState) (p : ℕ) (size : ℕ → Sizes) (byte_ns scale : ℕ) (g : Group) : Type 0 where
  pub switch : SwitchState
  pub is_switch : (x.opening p).equipment ≡ Switch switch
  pub from : ℕ
  pub from_port : ℕ
  pub by : ℕ
  pub outlet : Outlet
  pub line : LineState
  pub from_inside : from < x.processes
  pub by_inside : by < x.processes
  pub way : IsWay x from from_port by p g.line outlet line
  pub slower : byte_ns ≤ outlet.ahead.byte_ns
  pub most : ℕ
  pub costs : Every (λ flow. CostsAtMost (x.opening p).equipment size byte_ns flow.link most) g.flows
  pub burst : g.burst ≡ scale * most
  pub rate : g.rate ≡ scale

-- a group: its numbers are those of the line and of its virtual links
pub record IsGroup (x : Setting NodeState) (p : ℕ) (size : ℕ → Sizes) (byte_ns scale whole : ℕ) (g : Group) : Type 0 where
  pub weight : g.weight ≤ whole
  pub by_line : 1 ≤ g.weight → IsByLine x p size byte_ns scale g
  pub flows : Every (IsFlow (x.opening p).equipment size byte_ns scale) g.flows

-- the groups have the line, and each group of the line has the virtual link
pub record IsListed (v line : ℕ) (groups : List Group) : Type 0 where
  pub line_in : IsAmong line (lines_of groups)
  pub link_in : Every (λ g. line ≡ g.line → IsAmong v (links_of g.flows)) groups

-- these groups are what can come to port q of node p with a priority
pub record AreGroups (x : Setting NodeState) (size : ℕ → Sizes) (p q : ℕ) (outlet : Outlet) (scale whole : ℕ) (priority : Priority) (groups : List Group) : Type 0 where
  pub each : Every (IsGroup x p size outlet.ahead.byte_ns scale whole) groups
  pub listed : (v line : ℕ) → IsThrough (x.opening p).equipment q v line priority → IsListed v line groups

-- ---- bounds of a port that pass the check; a ns has `whole * scale` units. Divisions may round down, as times are whole

-- a high frame has left, with its gap, within so many ns of its put
pub record IsHighBound (x : Setting NodeState) (size : ℕ → Sizes) (p q : ℕ) (outlet : Outlet) (delay : ℕ) : Type 0 where
  pub scale : ℕ
  pub whole : ℕ
  pub high : List Group
  pub high_are : AreGroups x size p q outlet scale whole High high
  -- no low frame costs more
  pub most : ℕ
  pub low_costs : (v line : ℕ) → IsThrough (x.opening p).equipment q v line Low → CostsAtMost (x.opening p).equipment size outlet.ahead.byte_ns v most
  pub rate : groups_rate whole high ≤ whole * scale
  pub within : groups_burst whole high + (whole * scale) * most < (whole * scale) * (delay + 1)

-- the least frame of virtual link v, being low, has started within so many ns of its put, and a greater one so much earlier as it takes longer
pub record IsLowBound (x : Setting NodeState) (size : ℕ → Sizes) (p q : ℕ) (outlet : Outlet) (v delay : ℕ) : Type 0 where
  pub scale : ℕ
  pub whole : ℕ
  pub high : List Group
  pub high_are : AreGroups x size p q outlet scale whole High high
  pub low : List Group
  pub low_are : AreGroups x size p q outlet scale whole Low low
  pub rates : groups_rate whole high + groups_rate whole low ≤ whole * scale
  pub some : groups_rate whole high < whole * scale
  pub within : groups_burst whole high + groups_burst whole low < (whole * scale - groups_rate whole high) * (delay + 1) + (whole * scale) * busy_for (size v).least outlet.ahead.byte_ns

-- no more bytes wait
pub record IsWaitingBound (x : Setting NodeState) (size : ℕ → Sizes) (p q : ℕ) (outlet : Outlet) (bytes : ℕ) : Type 0 where
  pub scale : ℕ
  pub whole : ℕ
  pub high : List Group
  pub high_are : AreGroups x size p q outlet scale whole High high
  pub low : List Group
  pub low_are : AreGroups x size p q outlet scale whole Low low
  pub rates : groups_rate whole high + groups_rate whole low ≤ whole * scale
  pub within : groups_burst whole high + groups_burst whole low < ((whole * scale) * outlet.ahead.byte_ns) * (bytes + 1)

-- what happens at the port in the first n events of the run
abbrev pub trace_at : Setting NodeState → ℕ → ℕ → Outlet → ℕ → List Event
trace_at x p q outlet n = trace_of outlet.ahead.byte_ns outlet.port (port_events q (x.opening p) (events (simulation_of (rules_of node) x) n p))

-- so in each one-thread run high frames have left in time
abbrev pub AreHighsInTime : Type 0
AreHighsInTime =
    (x : Setting NodeState) → Laws (simulation_of (rules_of node) x) → IsOfNodes x → (size : ℕ → Sizes) → OpensEmpty x size →
    (p q : ℕ) (outlet : Outlet) → p < x.processes → outlet_in (x.opening p).equipment q ≡ Some outlet → (delay : ℕ) → IsHighBound x size p q outlet delay →
    (n : ℕ) → AreSentWithin delay (high_starts idle (trace_at x p q outlet n))

-- and low frames of each virtual link have started in time
abbrev pub AreLowsInTime : Type 0
AreLowsInTime =
    (x : Setting NodeState) → Laws (simulation_of (rules_of node) x) → IsOfNodes x → (size : ℕ → Sizes) → OpensEmpty x size →
    (p q : ℕ) (outlet : Outlet) → p < x.processes → outlet_in (x.opening p).equipment q ≡ Some outlet → (v delay : ℕ) → IsLowBound x size p q outlet v delay →
    (n : ℕ) → Every (λ s. link_of s.put ≡ v → s.at + s.put.cost ≤ (s.put.at + delay) + busy_for (size v).least outlet.ahead.byte_ns) (low_starts idle (trace_at x p q outlet n))
