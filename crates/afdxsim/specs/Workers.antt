-- Why the program gives up a run by workers, and what it writes of one.
use Rattle.std.specs.Prelude.{◌≡◌, ◌⊎◌, ℕ, List, Option, None, Some, min}
use Rattle.virtual_time.specs.declared.step.Step.{Step}
use Rattle.command_line.specs.declared.orders.Run.{Run}
use Rattle.network.specs.Words.{Plan, process_count}
use Rattle.group_choice.specs.Groups.{run_groups}
use Rattle.journal_text.specs.Text.{steps_text}
use Rattle.worker_pool.specs.declared.pace.Pace.{Pace}
use Rattle.worker_pool.specs.Outcomes.{CanWantWorkers, UsesUpNumbers}
use Rattle.worker_pool.specs.Paces.{actual_pace}
use Rattle.worker_pool.specs.Runs.{IsJournalOf}
use Rattle.commands.specs.Progress.{IsProgressLine, groups_text}
use Rattle.commands.specs.declared.fault.Fault.{Fault}
use Rattle.commands.specs.declared.fault.Fault.TheVariants.{Description, JournalLine, JournalFull, CannotRead, CannotWriteFile, CannotWrite, Layout, OutOfMemory, Exhausted, Spawn, Torn}

-- this is the text of the steps of a run by workers
abbrev pub IsJournalText : Plan → List ℕ → Type 0
IsJournalText plan text = (steps : List Step) × IsJournalOf plan steps × (text ≡ steps_text steps)

-- why a run by workers was given up, where a worker that does not start has this cause: some run of the network uses up numbers; or memory was
-- refused, the journal was full, or what it left was torn, which have none that its outcome tells
abbrev pub IsFaultOfPool : Plan → Type 0 → Fault → Type 0
IsFaultOfPool plan CanSpawn (Description fault) = ⊥
IsFaultOfPool plan CanSpawn (JournalLine n) = ⊥
IsFaultOfPool plan CanSpawn JournalFull = Unit
IsFaultOfPool plan CanSpawn (CannotRead path) = ⊥
IsFaultOfPool plan CanSpawn (CannotWriteFile path) = ⊥
IsFaultOfPool plan CanSpawn CannotWrite = ⊥
IsFaultOfPool plan CanSpawn Layout = ⊥
IsFaultOfPool plan CanSpawn OutOfMemory = Unit
IsFaultOfPool plan CanSpawn Exhausted = UsesUpNumbers plan
IsFaultOfPool plan CanSpawn Spawn = CanSpawn
IsFaultOfPool plan CanSpawn Torn = Unit

-- a thread is to be started: some workers are asked for, and there is a process; or a trace, which has a thread of its own
abbrev pub CanWantThreads : Option (List ℕ) → ℕ → Plan → Type 0
CanWantThreads None workers plan = CanWantWorkers workers (process_count plan)
CanWantThreads (Some trace) workers plan = Unit

-- the pace that is ordered, for a run of so many processes: no more workers than groups
abbrev pub ordered_pace : ℕ → Run → Pace
ordered_pace processes order = record {
  workers = min order.workers (run_groups processes order.workers order.groups);
  groups = run_groups processes order.workers order.groups;
  turn = order.turn;
  window_ns = order.window_ns;
}

-- the pace at which a run that is ordered goes on this network
abbrev pub run_pace : Run → Plan → Pace
run_pace order plan = actual_pace (process_count plan) (ordered_pace (process_count plan) order)

-- a line of progress of a run that is ordered: how far it is, or how many groups and workers it had
abbrev pub IsRunLine : Run → Plan → List ℕ → Type 0
IsRunLine order plan line =
    (line ≡ groups_text (run_pace order plan).groups (run_pace order plan).workers) ⊎ IsProgressLine plan.until line
