-- The contents of the rows beside their nodes, with numbers in place of names, and the result of a check that makes something of rows.
use Rattle.std.specs.Prelude.{◌≡◌, List, [], map, Result, Ok, Err}
use Rattle.row_types.specs.declared.rows.NodeRow.{NodeRow}
use Rattle.network_rows.specs.declared.rows.Rows.{Rows}
use Rattle.network_rows.specs.declared.fault.DescFault.{DescFault}
use Rattle.network.specs.declared.wiring.Link.{Link}
use Rattle.network.specs.declared.wiring.Outage.{Outage}
use Rattle.network.specs.declared.plan.Numbered.{Numbered}
use Rattle.network.specs.declared.plan.VlStream.{VlStream}
use Rattle.network.specs.Plan.{Plan, VlPlan, node_plan, plan_of}
use Rattle.network.specs.Faults.{Tells}

pub record RowLists : Type 0 where
  pub links : List Link
  pub outages : List Outage
  pub vls : List VlPlan
  pub streams : List VlStream

abbrev pub row_lists_of : Numbered → RowLists
row_lists_of numbered = record { links = numbered.links.items; outages = numbered.outages.items; vls = numbered.vls.items; streams = numbered.streams.items }

abbrev pub row_lists_in : Rows → RowLists
row_lists_in rows = let plan = plan_of rows in record { links = plan.links; outages = plan.outages; vls = plan.vls; streams = plan.streams }

-- nodes and the other rows, as a plan (its end and its seed do not matter to a fault)
abbrev pub plan_in : List NodeRow → Numbered → Plan
plan_in nodes numbered =
    record { until = 0; seed = 0; nodes = map node_plan nodes; links = numbered.links.items; outages = numbered.outages.items; vls = numbered.vls.items; streams = numbered.streams.items }

-- the value is there, seen by view, and there is none of these faults; or the first one is told
abbrev pub Gives : {X Y : Type 0} → (X → Y) → Result X DescFault → List DescFault → Y → Type 0
Gives view (Ok x) faults y = (faults ≡ []) × (view x ≡ y)
Gives view (Err fault) faults y = Tells fault faults
