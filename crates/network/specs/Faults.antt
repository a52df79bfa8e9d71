-- Faults between rows: the faults 5 to 9, in the order in which they are checked. Each line is a line of the table of refusals in
-- docs/FORMATS.md.
use Rattle.std.specs.Prelude.{ℕ, ◌≡◌, ◌⊎◌, ◌+◌, ◌*◌, ◌==◌, ◌&&◌, ◌||◌, not, nat_lt, Bool, List, ◌++◌, length, map, count_by, slice_get, Some, None}
use Rattle.std.specs.List.{list_any}
use Rattle.vlink.specs.declared.frame.Net.TheVariants as net
use Rattle.network_rows.specs.declared.key.Section.TheVariants as section
use Rattle.network_rows.specs.declared.key.Key.TheVariants as key
use Rattle.network_rows.specs.declared.fault.DescFault.{DescFault}
use Rattle.network_rows.specs.declared.fault.DescFault.TheVariants.{UnknownName, DoubleName, NotALink, NotATree, TooMany, OutOfMemory}
use Rattle.row_types.specs.declared.rows.NodeRow.{NodeRow}
use Rattle.network_rows.specs.declared.rows.LinkRow.{LinkRow}
use Rattle.network_rows.specs.declared.rows.OutageRow.{OutageRow}
use Rattle.row_types.specs.declared.rows.StreamRow.{StreamRow}
use Rattle.network_rows.specs.declared.rows.VlRow.{VlRow}
use Rattle.network_rows.specs.declared.rows.Rows.{Rows}
use Rattle.network.specs.Limits.{greatest_processes, greatest_ports, greatest_outages, greatest_destinations, greatest_streams}
use Rattle.network.specs.declared.wiring.Link.{Link}
use Rattle.network.specs.declared.wiring.Outage.{Outage}
use Rattle.network.specs.declared.wiring.Hop.{Hop}
use Rattle.network.specs.Rows.{each, when, top, row_at, key_at}
use Rattle.network.specs.Names.{names_of, is_among}
use Rattle.network.specs.Plan.{Plan, NodePlan, VlPlan, plan_of}
use Rattle.network.specs.Wiring.{is_end_system, is_linked, is_no_link}
use Rattle.network.specs.Trees.{all_hops, is_no_tree, is_none, differ, source_among, destinations_of}

-- a name of these paths that no node has
abbrev pub is_unknown : List (List ℕ) → List ℕ → Bool
is_unknown names name = not (is_among names name)

abbrev pub has_unknown : List (List ℕ) → List (List (List ℕ)) → Bool
has_unknown names paths = list_any (λ path. list_any (is_unknown names) path) paths

-- 5: keys that no row has, names that no node has, and numbers that no virtual link has
abbrev pub unknown_at_node : List NodeRow → NodeRow → List DescFault
unknown_at_node earlier row = when row.has_unknown_key (UnknownName (row_at section.Node earlier))

abbrev pub unknown_at_link : List (List ℕ) → List LinkRow → LinkRow → List DescFault
unknown_at_link names earlier row =
    when row.has_unknown_key (UnknownName (row_at section.Link earlier))
    ++ when (is_unknown names row.a) (UnknownName (key_at section.Link earlier key.A))
    ++ when (is_unknown names row.b) (UnknownName (key_at section.Link earlier key.B))

abbrev pub unknown_at_outage : List (List ℕ) → List OutageRow → OutageRow → List DescFault
unknown_at_outage names earlier row =
    when row.has_unknown_key (UnknownName (row_at section.Outage earlier))
    ++ when (is_unknown names row.from) (UnknownName (key_at section.Outage earlier key.From))
    ++ when (is_unknown names row.to) (UnknownName (key_at section.Outage earlier key.To))

abbrev pub unknown_at_vl : List (List ℕ) → List VlRow → VlRow → List DescFault
unknown_at_vl names earlier row =
    when row.has_unknown_key (UnknownName (row_at section.Vl earlier))
    ++ when (has_unknown names row.a) (UnknownName (key_at section.Vl earlier key.A))
    ++ when (has_unknown names row.b) (UnknownName (key_at section.Vl earlier key.B))

abbrev pub unknown_at_stream : List VlRow → List StreamRow → StreamRow → List DescFault
unknown_at_stream vls earlier row =
    when row.has_unknown_key (UnknownName (row_at section.Stream earlier))
    ++ when (not (list_any (λ vl. vl.link.id.0 == row.vl.0) vls)) (UnknownName (key_at section.Stream earlier key.Vl))

abbrev pub unknown_names : Rows → List DescFault
unknown_names rows = let names = names_of rows.nodes in
    when rows.has_unknown_key (UnknownName top)
    ++ each unknown_at_node rows.nodes
    ++ each (unknown_at_link names) rows.links
    ++ each (unknown_at_outage names) rows.outages
    ++ each (unknown_at_vl names) rows.vls
    ++ each (unknown_at_stream rows.vls) rows.streams

-- 6: a node's name, a link's pair of nodes and a virtual link's number that an earlier row has
abbrev pub double_at_node : List NodePlan → NodePlan → List DescFault
double_at_node earlier node = when (is_among (map (λ other. other.name) earlier) node.name) (DoubleName (key_at section.Node earlier key.Name))

abbrev pub double_at_link : List Link → Link → List DescFault
double_at_link earlier link = when (is_linked earlier link.a link.b) (DoubleName (key_at section.Link earlier key.B))

abbrev pub double_at_vl : List VlPlan → VlPlan → List DescFault
double_at_vl earlier vl = when (list_any (λ other. other.link.id.0 == vl.link.id.0) earlier) (DoubleName (key_at section.Vl earlier key.Id))

abbrev pub double_names : Plan → List DescFault
double_names plan = each double_at_node plan.nodes ++ each double_at_link plan.links ++ each double_at_vl plan.vls

-- 7: links that may not be; outages and neighbours of a path without a link
abbrev pub no_link_at_link : List NodePlan → List Link → Link → List DescFault
no_link_at_link nodes earlier link = when (is_no_link nodes earlier link) (NotALink (key_at section.Link earlier key.B))

abbrev pub no_link_at_outage : List Link → List Outage → Outage → List DescFault
no_link_at_outage links earlier outage = when (not (is_linked links outage.from outage.to)) (NotALink (key_at section.Outage earlier key.To))

-- two neighbours of a path without a link
abbrev pub is_gap : List Link → Hop → Bool
is_gap links hop = not (is_linked links hop.from hop.to)

abbrev pub has_gap : List Link → List (List ℕ) → Bool
has_gap links paths = list_any (is_gap links) (all_hops paths)

abbrev pub no_link_at_vl : List Link → List VlPlan → VlPlan → List DescFault
no_link_at_vl links earlier vl =
    when (has_gap links vl.a) (NotALink (key_at section.Vl earlier key.A))
    ++ when (has_gap links vl.b) (NotALink (key_at section.Vl earlier key.B))

abbrev pub not_links : Plan → List DescFault
not_links plan =
    each (no_link_at_link plan.nodes) plan.links
    ++ each (no_link_at_outage plan.links) plan.outages
    ++ each (no_link_at_vl plan.links) plan.vls

-- 8: a virtual link without paths (key a); paths that are no tree; paths on B that begin at another node than those on A (key b)
abbrev pub no_tree_at_vl : List NodePlan → List VlPlan → VlPlan → List DescFault
no_tree_at_vl nodes earlier vl =
    when ((is_none vl.a && is_none vl.b) || is_no_tree nodes net.A vl.a) (NotATree (key_at section.Vl earlier key.A))
    ++ when (is_no_tree nodes net.B vl.b || differ (source_among vl.a) (source_among vl.b)) (NotATree (key_at section.Vl earlier key.B))

abbrev pub not_trees : Plan → List DescFault
not_trees plan = each (no_tree_at_vl plan.nodes) plan.vls

-- 9: processes; links of a switch; outages; destinations of a virtual link; rows of streams
abbrev pub process_count : Plan → ℕ
process_count plan = length plan.nodes + 2 * length plan.links

-- the link names the node
abbrev pub touches : ℕ → Link → Bool
touches node link = (link.a == node) || (link.b == node)

abbrev pub too_many_at_node : List NodePlan → List Link → List NodePlan → NodePlan → List DescFault
too_many_at_node nodes links earlier node =
    when (not (is_end_system nodes (length earlier)) && nat_lt greatest_ports (count_by (touches (length earlier)) links)) (TooMany (row_at section.Node earlier))

abbrev pub too_many_at_vl : List VlPlan → VlPlan → List DescFault
too_many_at_vl earlier vl = when (nat_lt greatest_destinations (length (destinations_of vl))) (TooMany (row_at section.Vl earlier))

abbrev pub too_many : Plan → List DescFault
too_many plan =
    when (nat_lt greatest_processes (process_count plan)) (TooMany top)
    ++ each (too_many_at_node plan.nodes plan.links) plan.nodes
    ++ when (nat_lt greatest_outages (length plan.outages)) (TooMany (record { section = section.Outage; row = Some (greatest_outages + 1); key = None }))
    ++ each too_many_at_vl plan.vls
    ++ when (nat_lt greatest_streams (length plan.streams)) (TooMany (record { section = section.Stream; row = Some (greatest_streams + 1); key = None }))

-- the faults of rows, in the order in which they are tried
abbrev pub faults_of : Rows → List DescFault
faults_of rows = let plan = plan_of rows in
    unknown_names rows ++ double_names plan ++ not_links plan ++ not_trees plan ++ too_many plan

-- what is told: the first of these faults, or that memory was refused
abbrev pub Tells : DescFault → List DescFault → Type 0
Tells fault faults = (fault ≡ OutOfMemory) ⊎ (slice_get faults 0 ≡ Some fault)
