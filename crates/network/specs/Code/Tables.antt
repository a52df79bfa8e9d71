-- The tables of a network, against its plan.
use Rattle.std.specs.Prelude.{ℕ, ◌≡◌, ◌+◌, ◌<◌, ◌≤◌, List, length, map, None, vec_len, string_bytes, slice_index_or}
use Rattle.row_types.specs.declared.rows.NodeRow.{NodeRow}
use Rattle.network.specs.declared.plan.Numbered.{Numbered}
use Rattle.network.specs.declared.tables.Tables.{Tables}
use Rattle.network.specs.Limits.{greatest_processes}
use Rattle.network.specs.Plan.{Plan, node_plan}
use Rattle.network.specs.Trees.{destinations_of}
use Rattle.network.specs.Faults.{process_count}
use Rattle.network.specs.Lines.{lines_of, line_name, outages_of, departures_of, arrivals_of, place_of_vl}
use Rattle.network.specs.Code.Views.{lists_of, ways_at, outages_at}

-- the plan that these fields of a network make
abbrev pub plan_with : ℕ → ℕ → List NodeRow → Numbered → Plan
plan_with until seed nodes numbered = record {
  until = until;
  seed = seed;
  nodes = map node_plan nodes;
  links = numbered.links.items;
  outages = numbered.outages.items;
  vls = numbered.vls.items;
  streams = numbered.streams.items;
}

pub record AreTables (plan : Plan) (tables : Tables) : Type 0 where
  pub lines : tables.lines.items ≡ lines_of plan
  pub line_names : map string_bytes tables.line_names.items ≡ map (line_name plan.nodes) (lines_of plan)
  pub outages : (k : ℕ) → k < length (lines_of plan) → outages_at tables.outages k ≡ outages_of plan k
  pub outages_len : vec_len tables.outages ≡ length (lines_of plan)
  pub departures : (node : ℕ) → node < length plan.nodes + 1 → ways_at tables.meetings.departures node ≡ departures_of plan node
  pub departures_len : vec_len tables.meetings.departures ≡ length plan.nodes + 1
  pub arrivals : (node : ℕ) → node < length plan.nodes + 1 → ways_at tables.meetings.arrivals node ≡ arrivals_of plan node
  pub arrivals_len : vec_len tables.meetings.arrivals ≡ length plan.nodes + 1
  pub destinations : lists_of tables.destinations ≡ map destinations_of plan.vls
  pub places : (id : ℕ) → slice_index_or tables.places.items id None ≡ place_of_vl plan.vls id
  pub few : process_count plan ≤ greatest_processes
