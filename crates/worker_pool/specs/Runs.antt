-- A run that nobody picked, and a run that is ended.
use Rattle.std.specs.Prelude.{◌≡◌, ◌<◌, ◌≤◌, ℕ, Bool, true, false, List, [], length, slice_get, Some}
use Rattle.vlink.specs.Letters.{Row}
use Rattle.virtual_time.specs.declared.step.Step.{Step}
use Rattle.virtual_time.specs.Law.{AreDone, IsFinished, start}
use Rattle.network.specs.Words.{Plan, process_count}
use Rattle.nodes.specs.Words.{NodeState, simulation_of}
use Rattle.nodes.specs.declared.node.NodeRecord.{NodeRecord}
use Rattle.group_choice.specs.Groups.{HaveProcesses}
use Rattle.group_exchange.specs.Views.{GroupState, in_group, is_of}
use Rattle.group_exchange.specs.Keeps.{AreGrouped}
use Rattle.trace_tables.specs.Tables.{TableLists, tables_of}
use Rattle.seqsim.specs.Committed.{after}
use Rattle.seqsim.specs.Networks.{AreRowsOf}
use Rattle.run_rows.specs.Counts.{moment_of}

-- the processes of a network are in so many groups, each of which has a process
pub record IsGroupingOf (plan : Plan) (groups : ℕ) (owners : List ℕ) : Type 0 where
  pub grouped : AreGrouped (process_count plan) groups owners
  pub few : groups ≤ 4096
  pub used : HaveProcesses groups owners
  pub some : 0 < groups → 0 < process_count plan

-- the group in hand at place g is number g, has seen the GVT behind the end, and its processes are what they are in the world after these steps
pub record IsOfWorld (plan : Plan) (owners : List ℕ) (steps : List Step) (g : ℕ) (group : GroupState NodeState NodeRecord) : Type 0 where
  pub number : group.number ≡ g
  pub seen : plan.until < group.seen
  pub parts : (p : ℕ) → is_of owners g p ≡ true → (in_group (simulation_of plan) group).parts p ≡ (after plan steps).parts p

-- a run is ended: the world after its steps is finished, each process has a group, and all groups are in hand, in order
pub record IsEnded (plan : Plan) (owners : List ℕ) (steps : List Step) (groups : List (GroupState NodeState NodeRecord)) : Type 0 where
  pub finished : IsFinished (simulation_of plan) (after plan steps)
  pub grouped : AreGrouped (process_count plan) (length groups) owners
  pub each : (g : ℕ) (group : GroupState NodeState NodeRecord) → slice_get groups g ≡ Some group → IsOfWorld plan owners steps g group

-- the rows that have left a group are of moments before its own
abbrev pub HaveGoneBy : List ℕ → ℕ → List (GroupState NodeState NodeRecord) → Type 0
HaveGoneBy own end groups = (g : ℕ) (group : GroupState NodeState NodeRecord) → slice_get groups g ≡ Some group → group.gone ≤ moment_of own end g

-- after these steps the world of the network is finished, and each of them could be done where it stands
pub record IsJournalOf (plan : Plan) (steps : List Step) : Type 0 where
  pub finished : IsFinished (simulation_of plan) (after plan steps)
  pub enabled : AreDone (simulation_of plan) steps (start (simulation_of plan))

-- these are the steps of a run, where they are asked for; where they are not, there are none
abbrev pub IsJournalAsked : Plan → Bool → List Step → Type 0
IsJournalAsked plan true steps = IsJournalOf plan steps
IsJournalAsked plan false steps = steps ≡ []

-- what a run has found without a list of its rows: the tables of the rows of the one-thread run, and its steps where they are asked for
pub record IsSummaryOf (plan : Plan) (asked : Bool) (tables : TableLists) (steps : List Step) : Type 0 where
  pub some : (rows : List Row) × AreRowsOf plan rows × (tables ≡ tables_of plan rows)
  pub each : (rows : List Row) → AreRowsOf plan rows → tables ≡ tables_of plan rows
  pub journal : IsJournalAsked plan asked steps
