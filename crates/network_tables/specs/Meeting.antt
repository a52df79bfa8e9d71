-- Where virtual links pass nodes, as the tables list it.
use Rattle.std.specs.Prelude.{ℕ, ◌≡◌, ◌<◌, List, Option, flat_map, vec_len}
use Rattle.vlink.specs.declared.frame.VlId.{VlId}
use Rattle.network.specs.declared.wiring.Link.{Link}
use Rattle.network.specs.declared.wiring.LinePlan.{LinePlan}
use Rattle.network.specs.declared.wiring.Way.{Way}
use Rattle.network.specs.declared.tables.Meetings.{Meetings}
use Rattle.network.specs.Plan.{VlPlan}
use Rattle.network.specs.Lines.{out_at, in_at, leaves, comes_in}
use Rattle.network.specs.Code.Views.{ways_at}
use Rattle.network_tables.specs.declared.routes.End.{End}
use Rattle.network_tables.specs.declared.routes.End.TheVariants.{From, To}

-- the node at an end of a line, and the port there, if it is this node
abbrev pub end_at : End → LinePlan → ℕ
end_at From line = line.from
end_at To line = line.to

abbrev pub way_at : End → ℕ → VlId → LinePlan → Option Way
way_at From node vl line = out_at node vl line
way_at To node vl line = in_at node vl line

-- the ports at which virtual links leave and come into each of so many nodes
pub record AreMeetings (count : ℕ) (lines : List LinePlan) (links : List Link) (vls : List VlPlan) (meetings : Meetings) : Type 0 where
  pub departures : (node : ℕ) → node < count → ways_at meetings.departures node ≡ flat_map (leaves node lines links) vls
  pub departures_len : vec_len meetings.departures ≡ count
  pub arrivals : (node : ℕ) → node < count → ways_at meetings.arrivals node ≡ flat_map (comes_in node lines links) vls
  pub arrivals_len : vec_len meetings.arrivals ≡ count
