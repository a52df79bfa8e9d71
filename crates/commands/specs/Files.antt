-- What the program leaves behind: files, and then what it prints to standard output; and what is left if a fault ends it earlier.
use Rattle.std.specs.Prelude.{◌≡◌, ◌⊎◌, ◌≤◌, ℕ, Bool, true, false, List, Option, None, Some, IfSome, is_some, length, take}
use Rattle.std.specs.Borrow.{Bor}
use Rattle.network.specs.Words.{Plan}
use Rattle.journal_text.specs.Text.{steps_text}
use Rattle.trace_segments.specs.Words.{trace_text}
use Rattle.commands.specs.declared.fault.Fault.{Fault}
use Rattle.commands.specs.declared.fault.Fault.TheVariants.{Description, JournalLine, JournalFull, CannotRead, CannotWriteFile, CannotWrite, Layout, OutOfMemory, Exhausted, Spawn, Torn}
use Rattle.commands.specs.declared.keeping.Kept.{Kept}
use Rattle.commands.specs.declared.keeping.Kept.TheVariants.{Trace, Journal}
use Rattle.commands.specs.Ending.{IsFaultOfOutput}
use Rattle.commands.specs.Outside.{Outside}
use Rattle.commands.specs.Sequencing.{IsFaultOfRun, IsTraceText}

-- the text of what a run leaves in a file, and whether it has rows
abbrev pub text_of : Kept → List ℕ
text_of (Trace network rows) = trace_text network.now rows.now
text_of (Journal steps) = steps_text steps.now

abbrev pub has_rows : Kept → Bool
has_rows (Trace network rows) = true
has_rows (Journal steps) = false

-- a beginning of one of these texts
abbrev pub IsFront : (List ℕ → Type 0) → List ℕ → Type 0
IsFront IsText bytes = (text : List ℕ) × IsText text × ((n : ℕ) × (n ≤ length text) × (bytes ≡ take n text))

module _ {S F O E : Type 0} (outside : Outside S F O E) where
  -- a new file with this path was made, took one of these texts and no more, and was given back; nothing else happened to the host
  abbrev pub WritesFile : List ℕ → (List ℕ → Type 0) → S → S → Type 0
  WritesFile path IsText old new = (file : F) × IfSome (outside.wrote file) IsText × (new ≡ outside.closed (outside.made old path) path file)

  -- that, where there is a path; where there is none, nothing happened to the host
  abbrev pub WritesAsked : Option (List ℕ) → (List ℕ → Type 0) → S → S → Type 0
  WritesAsked None IsText old new = new ≡ old
  WritesAsked (Some path) IsText old new = WritesFile path IsText old new

  -- a new file with this path was made, took a beginning of one of these texts and no more, so many writes of it failed, and it was given
  -- back; nothing else happened to the host
  abbrev pub BeginsFile : ℕ → List ℕ → (List ℕ → Type 0) → S → S → Type 0
  BeginsFile failed path IsText old new =
      (file : F) × IfSome (outside.wrote file) (IsFront IsText) × (outside.file_failures file ≡ failed) ×
      (new ≡ outside.closed (outside.made old path) path file)

  -- a new file with this path was made, where there is one; nothing else happened to the host
  abbrev pub MakesAsked : Option (List ℕ) → S → S → Type 0
  MakesAsked None old new = new ≡ old
  MakesAsked (Some path) old new = outside.makes old path true × (new ≡ outside.made old path)

  -- why no file with this path was made: it could not be; or a growth was refused, and nothing happened to the host
  abbrev pub IsFaultOfMake : Bor (List ℕ) → S → S → Fault → Type 0
  IsFaultOfMake path old new fault =
      ((fault ≡ CannotWriteFile path) × outside.makes old path.now false × (new ≡ outside.missed old path.now))
      ⊎ ((fault ≡ OutOfMemory) × outside.makes old path.now true × (new ≡ old))

  -- nothing happened to the host but to its standard output
  abbrev pub ShowsAlone : S → S → Type 0
  ShowsAlone old new = (out : O) × (new ≡ outside.with_output old out)

  -- nor but to its error output
  abbrev pub TellsAlone : S → S → Type 0
  TellsAlone old new = (said : E) × (new ≡ outside.with_errors old said)

  -- nor but to standard output and then to error output
  abbrev pub ShowsBoth : S → S → Type 0
  ShowsBoth old new = (out : O) × (said : E) × (new ≡ outside.with_errors (outside.with_output old out) said)

  -- of a one-thread run of the network its trace is written, where a path for it is there, and then something is shown
  abbrev pub LeavesSeq : Option (List ℕ) → S → S → Plan → Type 0
  LeavesSeq trace old new plan = (traced : S) × WritesAsked trace (IsTraceText plan) old traced × ShowsAlone traced new

  -- why a text, which has rows or has none, is not on standard output, and nothing else happened to the host
  abbrev pub LacksOutput : Bool → S → S → Fault → Type 0
  LacksOutput has_rows old new fault =
      ShowsAlone old new × IsFaultOfOutput has_rows outside.output_failures (outside.output old) (outside.output new) fault

  -- why the file with this path has none of these texts, which have rows or have none, and what is left of it: it could not be made; or it was,
  -- took a beginning, and a write of it failed; or no write failed, and a growth was refused or the rows were not laid out. Nothing else
  -- happened to the host
  abbrev pub LacksFile : Bool → List ℕ → (List ℕ → Type 0) → S → S → Fault → Type 0
  LacksFile has_rows path IsText old new (Description fault) = ⊥
  LacksFile has_rows path IsText old new (JournalLine n) = ⊥
  LacksFile has_rows path IsText old new JournalFull = ⊥
  LacksFile has_rows path IsText old new (CannotRead at) = ⊥
  LacksFile has_rows path IsText old new (CannotWriteFile at) =
      (at.now ≡ path)
      × ((outside.makes old path false × (new ≡ outside.missed old path)) ⊎ (outside.makes old path true × BeginsFile 1 path IsText old new))
  LacksFile has_rows path IsText old new CannotWrite = ⊥
  LacksFile has_rows path IsText old new Layout = (has_rows ≡ true) × outside.makes old path true × BeginsFile 0 path IsText old new
  LacksFile has_rows path IsText old new OutOfMemory = outside.makes old path true × ((new ≡ old) ⊎ BeginsFile 0 path IsText old new)
  LacksFile has_rows path IsText old new Exhausted = ⊥
  LacksFile has_rows path IsText old new Spawn = ⊥
  LacksFile has_rows path IsText old new Torn = ⊥

  -- why a one-thread run of the network was not shown, and what is left: the run was given up, and there is no file; or the trace is not whole;
  -- or it is, as far as it is asked for, and the tables are not on standard output
  abbrev pub LacksSeq : Option (List ℕ) → S → S → Plan → Fault → Type 0
  LacksSeq trace old new plan fault =
      (IsFaultOfRun (is_some trace) plan fault × (new ≡ old))
      ⊎ ((path : List ℕ) × (trace ≡ Some path) × LacksFile true path (IsTraceText plan) old new fault)
      ⊎ ((traced : S) × WritesAsked trace (IsTraceText plan) old traced × LacksOutput true traced new fault)
