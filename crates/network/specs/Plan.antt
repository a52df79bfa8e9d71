-- A network as plain mathematics: nodes, links between them, outages, virtual links with their paths, and streams of offers to them. Nodes are named by their
-- numbers, from 0.
use Rattle.std.specs.Prelude.{ℕ, List, map}
use Rattle.row_types.specs.declared.rows.NodeKind.{NodeKind}
use Rattle.row_types.specs.declared.rows.Rate.{Rate}
use Rattle.row_types.specs.declared.rows.Rate.TheVariants.{Mbit10, Mbit100, Mbit1000}
use Rattle.row_types.specs.declared.rows.NodeRow.{NodeRow}
use Rattle.network_rows.specs.declared.rows.LinkRow.{LinkRow}
use Rattle.network_rows.specs.declared.rows.OutageRow.{OutageRow}
use Rattle.network_rows.specs.declared.rows.VlRow.{VlRow}
use Rattle.network_rows.specs.declared.rows.Rows.{Rows}
use Rattle.row_types.specs.declared.rows.StreamRow.{StreamRow}
use Rattle.row_types.specs.declared.rows.VirtualLink.{VirtualLink}
use Rattle.network.specs.declared.wiring.Link.{Link}
use Rattle.network.specs.declared.wiring.Outage.{Outage}
use Rattle.network.specs.declared.plan.VlStream.{VlStream}
use Rattle.network.specs.Names.{names_of, number_of}

-- an end system or a switch; port_bytes bounds what waits at each of its ports
pub record NodePlan : Type 0 where
  pub name : List ℕ
  pub kind : NodeKind
  pub port_bytes : ℕ

-- a virtual link, with its paths on the networks A and B; a path is a list of nodes
pub record VlPlan : Type 0 where
  pub link : VirtualLink
  pub a : List (List ℕ)
  pub b : List (List ℕ)

pub record Plan : Type 0 where
  pub until : ℕ
  pub seed : ℕ
  pub nodes : List NodePlan
  pub links : List Link
  pub outages : List Outage
  pub vls : List VlPlan
  pub streams : List VlStream

-- how long a byte takes at this rate
abbrev pub byte_ns_of : Rate → ℕ
byte_ns_of Mbit10 = 800
byte_ns_of Mbit100 = 80
byte_ns_of Mbit1000 = 8

-- the paths, with numbers in place of names
abbrev pub path_numbers : List (List ℕ) → List (List ℕ) → List ℕ
path_numbers names path = map (number_of names) path

abbrev pub paths_numbers : List (List ℕ) → List (List (List ℕ)) → List (List ℕ)
paths_numbers names paths = map (path_numbers names) paths

-- rows, with numbers in place of names
abbrev pub node_plan : NodeRow → NodePlan
node_plan row = record { name = row.name; kind = row.kind; port_bytes = row.port_bytes }

abbrev pub link_plan : List (List ℕ) → LinkRow → Link
link_plan names row = record { a = number_of names row.a; b = number_of names row.b; byte_ns = byte_ns_of row.mbit; propagation_ns = row.propagation_ns }

abbrev pub outage_plan : List (List ℕ) → OutageRow → Outage
outage_plan names row = record { from = number_of names row.from; to = number_of names row.to; from_ns = row.from_ns; to_ns = row.to_ns }

abbrev pub vl_plan : List (List ℕ) → VlRow → VlPlan
vl_plan names row = record { link = row.link; a = paths_numbers names row.a; b = paths_numbers names row.b }

abbrev pub stream_plan : StreamRow → VlStream
stream_plan row = record { vl = row.vl; stream = row.stream }

-- what rows say, with their virtual links in the order of the rows
abbrev pub plan_of : Rows → Plan
plan_of rows = let names = names_of rows.nodes in record {
  until = rows.until;
  seed = rows.seed;
  nodes = map node_plan rows.nodes;
  links = map (link_plan names) rows.links;
  outages = map (outage_plan names) rows.outages;
  vls = map (vl_plan names) rows.vls;
  streams = map stream_plan rows.streams;
}
