-- Which plans are accepted: those of rows without a fault.
use Rattle.std.specs.Prelude.{ℕ, ◌≡◌, List, [], map, IsPermutation}
use Rattle.std.specs.List.Sorted.{IsNonDecreasing}
use Rattle.network_rows.specs.declared.rows.Rows.{Rows}
use Rattle.network_rows.specs.Within.{AreWithin}
use Rattle.network.specs.Plan.{Plan, VlPlan, plan_of}
use Rattle.network.specs.Faults.{faults_of}

-- the numbers of virtual links
abbrev pub id_of : VlPlan → ℕ
id_of vl = vl.link.id.0

abbrev pub ids_of : List VlPlan → List ℕ
ids_of vls = map id_of vls

-- the rows have no fault, and the plan is what they say, with their virtual links in the order of their numbers
pub record IsPlanOf (rows : Rows) (plan : Plan) : Type 0 where
  pub none : faults_of rows ≡ []
  pub until : plan.until ≡ rows.until
  pub seed : plan.seed ≡ rows.seed
  pub nodes : plan.nodes ≡ (plan_of rows).nodes
  pub links : plan.links ≡ (plan_of rows).links
  pub outages : plan.outages ≡ (plan_of rows).outages
  pub vls : IsPermutation (plan_of rows).vls plan.vls
  pub in_order : IsNonDecreasing (ids_of plan.vls)
  pub streams : plan.streams ≡ (plan_of rows).streams

-- there are such rows, within the limits of their keys
pub record IsAccepted (plan : Plan) : Type 0 where
  pub rows : Rows
  pub within : AreWithin rows
  pub stands : IsPlanOf rows plan
