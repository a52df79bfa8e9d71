-- What follows from a plan: its processes, the ports of its nodes, the lines between them, and the lines that each virtual link goes over.
use Rattle.std.specs.Prelude.{ℕ, false, ◌+◌, ◌*◌, ◌==◌, Bool, cond, List, [], ◌∷◌, ◌++◌, filter, count_by, Option, Some, None, slice_get, flat_map, option_map, option_and_then, option_to_list}
use Rattle.std.specs.Option.{option_map_or}
use Rattle.vlink.specs.declared.frame.VlId.{VlId}
use Rattle.vlink.specs.declared.frame.Net.TheVariants.{A}
use Rattle.network.specs.declared.wiring.Link.{Link}
use Rattle.network.specs.declared.wiring.Outage.{Outage}
use Rattle.network.specs.declared.wiring.Hop.{Hop}
use Rattle.network.specs.declared.wiring.LinePlan.{LinePlan}
use Rattle.network.specs.declared.wiring.Way.{Way}
use Rattle.network.specs.Rows.{each, place_by}
use Rattle.network.specs.Plan.{Plan, NodePlan, VlPlan}
use Rattle.network.specs.Wiring.{is_end_system, is_switch_of, link_between}
use Rattle.network.specs.Trees.{all_hops, rising}
use Rattle.network.specs.Faults.{touches}

-- the port of a node for the link behind these, which leads to this other node: at an end system 0 for network A and 1 for network B,
-- at a switch the number of earlier links that name it
abbrev pub port_at : List NodePlan → List Link → ℕ → ℕ → ℕ
port_at nodes earlier node other =
    cond (is_end_system nodes node) (cond (is_switch_of nodes A other) 0 1) (count_by (touches node) earlier)

-- the two directions of a link, which has these ports at its nodes: from a to b, and back
abbrev pub both : Link → ℕ → ℕ → List LinePlan
both link a_port b_port =
    record { from = link.a; from_port = a_port; to = link.b; to_port = b_port; byte_ns = link.byte_ns; propagation_ns = link.propagation_ns }
    ∷ record { from = link.b; from_port = b_port; to = link.a; to_port = a_port; byte_ns = link.byte_ns; propagation_ns = link.propagation_ns }
    ∷ []

abbrev pub directions : List NodePlan → List Link → Link → List LinePlan
directions nodes earlier link = both link (port_at nodes earlier link.a link.b) (port_at nodes earlier link.b link.a)

-- the lines: line k is process k behind the nodes
abbrev pub lines_of : Plan → List LinePlan
lines_of plan = each (directions plan.nodes) plan.links

-- the line from one node to another: twice the place of their link, and one more where the link's row names the other end first
abbrev pub line_at : ℕ → ℕ → Link → ℕ
line_at place from link = 2 * place + cond (link.a == from) 0 1

abbrev pub line_between : List Link → ℕ → ℕ → Option ℕ
line_between links from to = option_and_then (λ place. option_map (line_at place from) (slice_get links place)) (link_between links from to)

-- the outages of the line with this place, in the order of their rows
abbrev pub is_place : ℕ → Option ℕ → Bool
is_place k None = false
is_place k (Some place) = place == k

abbrev pub is_outage_of : List Link → ℕ → Outage → Bool
is_outage_of links k outage = is_place k (line_between links outage.from outage.to)

abbrev pub outages_of : Plan → ℕ → List Outage
outages_of plan k = filter (is_outage_of plan.links k) plan.outages

-- the line of a hop, if there is one
abbrev pub lines_over : List Link → Hop → List ℕ
lines_over links hop = option_to_list (line_between links hop.from hop.to)

-- the lines that a virtual link goes over, each once, rising
abbrev pub route_over : List Link → VlPlan → List ℕ
route_over links vl = rising (flat_map (lines_over links) (all_hops vl.a ++ all_hops vl.b))

abbrev pub route_of : Plan → VlPlan → List ℕ
route_of plan vl = route_over plan.links vl

-- the port by which a line leaves this node, and by which it comes in
abbrev pub out_at : ℕ → VlId → LinePlan → Option Way
out_at node vl line = cond (line.from == node) (Some (record { vl = vl; port = line.from_port })) None

abbrev pub in_at : ℕ → VlId → LinePlan → Option Way
in_at node vl line = cond (line.to == node) (Some (record { vl = vl; port = line.to_port })) None

-- the ports at which the lines of a route meet a node, in the order of the route
abbrev pub ways_over : (LinePlan → Option Way) → List LinePlan → List ℕ → List Way
ways_over way lines route = flat_map (λ k. option_to_list (option_and_then way (slice_get lines k))) route

-- the ports by which a virtual link leaves a node, and by which it comes in, where these are the lines and the links
abbrev pub leaves : ℕ → List LinePlan → List Link → VlPlan → List Way
leaves node lines links vl = ways_over (out_at node vl.link.id) lines (route_over links vl)

abbrev pub comes_in : ℕ → List LinePlan → List Link → VlPlan → List Way
comes_in node lines links vl = ways_over (in_at node vl.link.id) lines (route_over links vl)

-- the same of all virtual links: by virtual link, then by line, so that the ports of a switch rise
abbrev pub departures_of : Plan → ℕ → List Way
departures_of plan node = flat_map (leaves node (lines_of plan) plan.links) plan.vls

abbrev pub arrivals_of : Plan → ℕ → List Way
arrivals_of plan node = flat_map (comes_in node (lines_of plan) plan.links) plan.vls

-- the name of a node, and of a line: those of its two ends with > between
abbrev pub node_name : List NodePlan → ℕ → List ℕ
node_name nodes n = option_map_or (λ node. node.name) (slice_get nodes n) []

abbrev pub line_name : List NodePlan → LinePlan → List ℕ
line_name nodes line = node_name nodes line.from ++ 62 ∷ node_name nodes line.to

-- the place of the virtual link with this number
abbrev pub place_of_vl : List VlPlan → ℕ → Option ℕ
place_of_vl vls id = place_by (λ vl. vl.link.id.0 == id) vls
