-- Definition: the opening state of each process of a network. Nothing waits, nothing was sent, and no frame was received.
use Rattle.std.specs.Prelude.{ℕ, ◌+◌, ◌-◌, ◌*◌, ◌==◌, ◌&&◌, Bool, if◌then◌else◌, List, [], ◌∷◌, length, map, Option, None, Some, slice_get, option_map}
use Rattle.std.specs.List.{range_with_len}
use Rattle.row_types.specs.declared.rows.NodeKind.{NodeKind}
use Rattle.row_types.specs.declared.rows.NodeKind.TheVariants as kind
use Rattle.row_types.specs.declared.rows.Policing.{Policing}
use Rattle.row_types.specs.declared.rows.Policing.TheVariants as policing
use Rattle.row_types.specs.declared.rows.Priority.{Priority}
use Rattle.row_types.specs.declared.rows.Priority.TheVariants as row
use Rattle.bag_regulator.specs.Regulator as regulator
use Rattle.bag_regulator.specs.Regulator.{Regulator}
use Rattle.policer.specs.Account as policer
use Rattle.policer.specs.Account.{full}
use Rattle.policer.specs.declared.account.Measure.{Measure}
use Rattle.policer.specs.declared.account.Measure.TheVariants as measure
use Rattle.output_port.specs.Port as port
use Rattle.output_port.specs.declared.event.Priority as waiting
use Rattle.output_port.specs.declared.event.Priority.TheVariants.{High, Low}
use Rattle.network.specs.declared.limits.TheConstants.{GREATEST_PORTS}
use Rattle.row_types.specs.declared.rows.VirtualLink.{VirtualLink}
use Rattle.network.specs.declared.wiring.LinePlan.{LinePlan}
use Rattle.network.specs.declared.wiring.Way.{Way}
use Rattle.network.specs.Words.{Plan, NodePlan, VlPlan, lines_of, outages_of}
use Rattle.nodes.specs.declared.opening.meeting.Side.TheVariants.{Out, In}
use Rattle.nodes.specs.declared.equipment.Equipment.{Equipment}
use Rattle.nodes.specs.declared.equipment.Equipment.TheVariants as equipment
use Rattle.nodes.specs.declared.ports.Outlet.{Outlet}
use Rattle.nodes.specs.declared.ports.LineAhead.{LineAhead}
use Rattle.nodes.specs.declared.receiving.Receiving.{Receiving}
use Rattle.nodes.specs.declared.reception.Reception.{Reception}
use Rattle.nodes.specs.declared.source.Source.{Source}
use Rattle.nodes.specs.declared.transit.Transit.{Transit}
use Rattle.nodes.specs.declared.vl_end.VlEnd.{VlEnd}
use Rattle.nodes.specs.rules.Meeting.{ways_at, with_ways, first_port, is_by, ports_by}
use Rattle.nodes.specs.rules.Ports.{PortsState}
use Rattle.nodes.specs.rules.EndSystem.{EndSystemState}
use Rattle.nodes.specs.rules.Switch.{SwitchState}
use Rattle.nodes.specs.rules.Line.{LineState}
use Rattle.nodes.specs.rules.Node.{NodeState}

-- ---- ports

-- the line leaves node n by port q
abbrev pub leaves_by : ℕ → ℕ → LinePlan → Bool
leaves_by n q line = (line.from == n) && (line.from_port == q)

-- the first of these lines that does; they are the processes from `process` on
abbrev pub line_ahead_among : ℕ → ℕ → ℕ → List LinePlan → Option LineAhead
line_ahead_among n q process [] = None
line_ahead_among n q process (line ∷ lines) =
    if leaves_by n q line
    then Some (record { line = process; byte_ns = line.byte_ns })
    else line_ahead_among n q (process + 1) lines

-- the lines that the ports 0, 1, .. of node n lead into: they are the processes behind the nodes
unfoldable pub lines_ahead_of : Plan → ℕ → ℕ → List (Option LineAhead)
lines_ahead_of plan n count = map (λ q. line_ahead_among n q (length plan.nodes) (lines_of plan)) (range_with_len 0 count)

-- the port that leads into a line: so many bytes may wait there
abbrev pub outlet_of : ℕ → LineAhead → Outlet
outlet_of bytes ahead = record { ahead = ahead; port = port.opening bytes }

-- a port for each of these lines
abbrev pub ports_of : Plan → ℕ → ℕ → ℕ → PortsState
ports_of plan n count bytes = map (option_map (outlet_of bytes)) (lines_ahead_of plan n count)

-- ---- end systems: port 0 leads to network A and port 1 to network B

abbrev pub end_of : (VlPlan → List Way) → VlPlan → VlEnd
end_of ways vl = record { vl = vl.link.id; a = is_by (ways vl) 0; b = is_by (ways vl) 1 }

abbrev pub bag_ns : VirtualLink → ℕ
bag_ns link = link.bag_ms * 1000000

abbrev pub regulator_of : VirtualLink → Regulator
regulator_of link = regulator.opening (bag_ns link) link.depth link.sub

abbrev pub receiving_of : VirtualLink → Receiving
receiving_of link = record { a = None; b = None; redundancy = record { skew_max = link.skew_max_ns; last = None } }

abbrev pub source_of : (VlPlan → List Way) → VlPlan → Source
source_of ways vl = record { end = end_of ways vl; regulator = regulator_of vl.link }

abbrev pub reception_of : (VlPlan → List Way) → VlPlan → Reception
reception_of ways vl = record { end = end_of ways vl; receiving = receiving_of vl.link }

-- end system n, at each of whose ports so many bytes may wait
abbrev pub end_system_opening : Plan → ℕ → ℕ → EndSystemState
end_system_opening plan n bytes =
    let sent = with_ways (ways_at plan n Out) plan.vls in
    let received = with_ways (ways_at plan n In) plan.vls in
    record {
      sources = map (source_of (ways_at plan n Out)) sent;
      receptions = map (reception_of (ways_at plan n In)) received;
      ports = ports_of plan n 2 bytes;
    }

-- ---- switches

abbrev pub port_priority : Priority → waiting.Priority
port_priority row.High = High
port_priority row.Low = Low

abbrev pub measure_of : Policing → Measure
measure_of policing.Bytes = measure.Bytes
measure_of policing.Frames = measure.Frames

abbrev pub account_of : VirtualLink → policer.Policing
account_of link = full link.smax (bag_ns link) link.policing_jitter_ns (measure_of link.policing)

-- a virtual link that comes in at this port and goes out at these
abbrev pub transit_by : VirtualLink → ℕ → List Bool → Transit
transit_by link input outputs = record {
  vl = link.id;
  input = input;
  outputs = outputs;
  smax = link.smax;
  priority = port_priority link.priority;
  account = account_of link;
}

abbrev pub transit_of : Plan → ℕ → VlPlan → Transit
transit_of plan n vl = transit_by vl.link (first_port (ways_at plan n In vl)) (ports_by (ways_at plan n Out vl))

-- switch n with this delay, at each of whose ports so many bytes may wait
abbrev pub switch_opening : Plan → ℕ → ℕ → ℕ → SwitchState
switch_opening plan n latency bytes =
    record {
      latency = latency;
      transits = map (transit_of plan n) (with_ways (ways_at plan n In) plan.vls);
      ports = ports_of plan n GREATEST_PORTS bytes;
    }

-- ---- processes

abbrev pub node_opening : Plan → ℕ → ℕ → NodeKind → Equipment
node_opening plan n bytes kind.EndSystem = equipment.EndSystem (end_system_opening plan n bytes)
node_opening plan n bytes (kind.Switch net latency_ns) = equipment.Switch (switch_opening plan n latency_ns bytes)

-- line k; where there is none, a line without a propagation time and outages stands for it
abbrev pub line_opening : Plan → ℕ → Option LinePlan → LineState
line_opening plan k (Some line) = record { to = line.to; to_port = line.to_port; propagation = line.propagation_ns; outages = outages_of plan k }
line_opening plan k None = record { to = 0; to_port = 0; propagation = 0; outages = [] }

-- the nodes are the processes 0, 1, .., and the lines those behind them
abbrev pub equipment_opening : Plan → ℕ → Option NodePlan → Equipment
equipment_opening plan p (Some node) = node_opening plan p node.port_bytes node.kind
equipment_opening plan p None = let k = p - length plan.nodes in equipment.Line (line_opening plan k (slice_get (lines_of plan) k))

-- process p, whose first message has the number 0
abbrev pub opening : Plan → ℕ → NodeState
opening plan p = record {
  sender = record { number = p; until = plan.until; counter = 0 };
  equipment = equipment_opening plan p (slice_get plan.nodes p);
}
