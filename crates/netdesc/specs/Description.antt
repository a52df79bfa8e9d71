-- The meaning of a text as a description: its faults, and its network if it has no fault.
use Rattle.std.specs.Prelude.{ℕ, ◌≡◌, ◌⊎◌, List, Some, slice_get}
use Rattle.network_rows.specs.declared.fault.DescFault.{DescFault}
use Rattle.network_rows.specs.declared.fault.DescFault.TheVariants.{OutOfMemory}
use Rattle.network_rows.specs.declared.rows.Rows.{Rows}
use Rattle.network_rows.specs.Faults.{faults_of_text}
use Rattle.network_rows.specs.Rows.{Means}
use Rattle.network.specs.Plan.{Plan}
use Rattle.network.specs.Faults.{faults_of}
use Rattle.network.specs.Accepted.{IsPlanOf}

-- the first fault of a text is the first that each key alone tells (1 to 4); where there is none, the text means rows, and it is the first that these tell
-- of each other (5 to 9)
abbrev pub IsFirstFaultOf : List ℕ → DescFault → Type 0
IsFirstFaultOf text fault = (slice_get (faults_of_text text) 0 ≡ Some fault) ⊎ ((rows : Rows) × Means text rows × (slice_get (faults_of rows) 0 ≡ Some fault))

abbrev pub HasNoFault : List ℕ → Type 0
HasNoFault text = (fault : DescFault) → ¬ (IsFirstFaultOf text fault)

-- the first fault is told, or memory was refused
abbrev pub TellsFaultOf : List ℕ → DescFault → Type 0
TellsFaultOf text fault = (fault ≡ OutOfMemory) ⊎ IsFirstFaultOf text fault

-- the text means rows, and the plan is what they say
pub record Describes (text : List ℕ) (plan : Plan) : Type 0 where
  pub rows : Rows
  pub meant : Means text rows
  pub stands : IsPlanOf rows plan
