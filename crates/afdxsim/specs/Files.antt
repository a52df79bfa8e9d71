-- What a run by workers leaves behind, and what is left if a fault ends it earlier.
use Rattle.std.specs.Prelude.{◌≡◌, ◌⊎◌, ℕ, true, false, List, Option, Some}
use Rattle.network.specs.Words.{Plan}
use Rattle.commands.specs.declared.fault.Fault.{Fault}
use Rattle.commands.specs.declared.fault.Fault.TheVariants.{Torn}
use Rattle.commands.specs.Files.{BeginsFile, LacksFile, LacksOutput, MakesAsked, ShowsAlone, WritesAsked}
use Rattle.commands.specs.Outside.{Outside}
use Rattle.commands.specs.Sequencing.{IsTraceText}
use Rattle.afdxsim.specs.Workers.{CanWantThreads, IsFaultOfPool, IsJournalText}

module _ {S F O E : Type 0} (outside : Outside S F O E) where
  -- the files of a run of the network: its trace is written, and then its journal, where paths for them are there
  abbrev pub WritesFiles : Option (List ℕ) → Option (List ℕ) → S → S → Plan → Type 0
  WritesFiles journal trace old new plan =
      (traced : S) × WritesAsked outside trace (IsTraceText plan) old traced × WritesAsked outside journal (IsJournalText plan) traced new

  -- they are written, and then something is shown
  abbrev pub LeavesRun : Option (List ℕ) → Option (List ℕ) → S → S → Plan → Type 0
  LeavesRun journal trace old new plan = (kept : S) × WritesFiles journal trace old kept plan × ShowsAlone outside kept new

  -- why the file with this path lacks the trace of a run by workers: that; or a part of the trace is missing or comes twice, and the file has a
  -- beginning of the trace, and no write of it failed
  abbrev pub LacksTrace : List ℕ → Plan → S → S → Fault → Type 0
  LacksTrace path plan old new fault =
      LacksFile outside true path (IsTraceText plan) old new fault
      ⊎ ((fault ≡ Torn) × outside.makes old path true × BeginsFile outside 0 path (IsTraceText plan) old new)

  -- why a run of the network by so many workers was not shown, and what is left: the run was given up, once the file of the trace was made; or
  -- the trace is not whole; or it is, and the journal is not; or both are, as far as they are asked for, and the tables are not on standard
  -- output
  abbrev pub LacksRun : Option (List ℕ) → Option (List ℕ) → ℕ → S → S → Plan → Fault → Type 0
  LacksRun journal trace workers old new plan fault =
      (IsFaultOfPool plan (CanWantThreads trace workers plan) fault × MakesAsked outside trace old new)
      ⊎ ((path : List ℕ) × (trace ≡ Some path) × LacksTrace path plan old new fault)
      ⊎ ((path : List ℕ) × (journal ≡ Some path) × ((traced : S) × WritesAsked outside trace (IsTraceText plan) old traced ×
      LacksFile outside false path (IsJournalText plan) traced new fault))
      ⊎ ((kept : S) × WritesFiles journal trace old kept plan × LacksOutput outside true kept new fault)
