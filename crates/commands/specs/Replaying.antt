-- What the program prints of a journal whose steps were done on a network.
use Rattle.std.specs.Prelude.{◌≡◌, ◌⊎◌, ◌↔◌, ◌<◌, ◌≤◌, ℕ, Bool, true, false, IsTrue, All, List, Option, ◌++◌, length, take, slice_get, Some, codes, decimal, string_bytes}
use Rattle.vlink.specs.Letters.{Row}
use Rattle.virtual_time.specs.declared.step.Step.{Step}
use Rattle.virtual_time.specs.Law.{start, IsFinished}
use Rattle.network.specs.Words.{Plan}
use Rattle.nodes.specs.Words.{simulation_of}
use Rattle.journal_text.specs.declared.fault.LinesFault.{LinesFault}
use Rattle.journal_text.specs.declared.fault.LinesFault.TheVariants as journal
use Rattle.journal_text.specs.Text.{Fits, steps_text}
use Rattle.journal_text.specs.Lines.{lines, IsFirstBad}
use Rattle.trace_tables.specs.Tables.{TableLists, tables_of}
use Rattle.trace_tables.specs.Text.{tables_text}
use Rattle.seqsim.specs.Networks.{AreRowsOf}
use Rattle.timewarp.specs.Worlds.{IsExhausted}
use Rattle.seqsim.specs.Committed.{after, AreCommittedRows}
use Rattle.timewarp.specs.Replaying.{did, not_enabled, refused}
use Rattle.commands.specs.declared.conclusion.Conclusion.{Conclusion}
use Rattle.commands.specs.declared.fault.Fault.{Fault}
use Rattle.commands.specs.declared.fault.Fault.TheVariants.{Description, JournalLine, JournalFull, CannotRead, CannotWriteFile, CannotWrite, Layout, OutOfMemory, Exhausted, Spawn, Torn}
use Rattle.commands.specs.Files.{LacksOutput, ShowsBoth}
use Rattle.commands.specs.Outside.{Outside}
use Rattle.commands.specs.Reading.{IsFaultOfFile}
use Rattle.commands.specs.Streams.{Says, Shows}

-- the most lines of a journal
abbrev pub most_lines : ℕ
most_lines = 67108864

-- how many steps were done, were not enabled and were refused, and GVT in ns
abbrev pub counts_text : ℕ → ℕ → ℕ → ℕ → List ℕ
counts_text did not_enabled refused gvt =
    codes "replay: " ++ (decimal did ++ (codes " did, " ++ (decimal not_enabled ++ (codes " not enabled, " ++ (decimal refused ++ (codes " refused, gvt " ++ (decimal gvt ++ codes ", ")))))))

-- whether a run is finished, as the end of a line
abbrev pub finish_text : Bool → List ℕ
finish_text true = codes "finished\n"
finish_text false = codes "unfinished\n"

-- the line that tells this of a replay
abbrev pub summary_text : ℕ → ℕ → ℕ → ℕ → Bool → List ℕ
summary_text did not_enabled refused gvt is_finished =
    counts_text did not_enabled refused gvt ++ finish_text is_finished

-- this is the line of these steps, done on this network from the start on
abbrev pub IsSummary : Plan → List Step → List ℕ → Type 0
IsSummary plan steps text =
    (is_finished : Bool) × (IsTrue is_finished ↔ IsFinished (simulation_of plan) (after plan steps)) ×
    (text ≡ summary_text
    (did (simulation_of plan) steps (start (simulation_of plan)))
    (not_enabled (simulation_of plan) steps (start (simulation_of plan)))
    (refused (simulation_of plan) steps)
    (after plan steps).gvt
    is_finished)

-- these are the tables of what is committed after these steps
abbrev pub AreCommittedTables : Plan → List Step → TableLists → Type 0
AreCommittedTables plan steps tables = (rows : List Row) × AreCommittedRows plan steps rows × (tables ≡ tables_of plan rows)

-- the conclusion tells of these steps, done on this network
pub record TellsOfSteps (plan : Plan) (steps : List Step) (conclusion : Conclusion) : Type 0 where
  pub tables : AreCommittedTables plan steps conclusion.tables
  -- where the run is finished they are the tables of the one-thread run
  pub whole : IsFinished (simulation_of plan) (after plan steps) → (rows : List Row) → AreRowsOf plan rows → conclusion.tables ≡ tables_of plan rows
  pub line : IsSummary plan steps (string_bytes conclusion.line)

-- a text with these steps as its lines, and with at most as many lines as are allowed
pub record IsJournal (text : List ℕ) (steps : List Step) : Type 0 where
  pub written : steps_text steps ≡ text
  pub fits : All Fits steps
  pub within : length (lines text) ≤ most_lines

-- the conclusion tells of the journal with this text, done on this network
abbrev pub TellsOfJournal : Plan → List ℕ → Conclusion → Type 0
TellsOfJournal plan text conclusion = (steps : List Step) × IsJournal text steps × TellsOfSteps plan steps conclusion

-- why a text was not read as a journal, as a fault of the program
abbrev pub fault_of_lines : LinesFault → Fault
fault_of_lines journal.TooMany = JournalFull
fault_of_lines (journal.BadLine n) = JournalLine n
fault_of_lines journal.OutOfMemory = OutOfMemory

-- at some step of these the process has not enough numbers left for what one event can send
abbrev pub IsExhaustedIn : Plan → List Step → Type 0
IsExhaustedIn plan steps =
    (n : ℕ) × (x : Step) × (slice_get steps n ≡ Some x) × IsExhausted (simulation_of plan) x (after plan (take n steps))

-- why the journal with this text was not done on this network
abbrev pub IsFaultOfJournal : Plan → List ℕ → Fault → Type 0
IsFaultOfJournal plan text (Description fault) = ⊥
IsFaultOfJournal plan text (JournalLine n) = (length (lines text) ≤ most_lines) × IsFirstBad text n
IsFaultOfJournal plan text JournalFull = most_lines < length (lines text)
IsFaultOfJournal plan text (CannotRead path) = ⊥
IsFaultOfJournal plan text (CannotWriteFile path) = ⊥
IsFaultOfJournal plan text CannotWrite = ⊥
IsFaultOfJournal plan text Layout = ⊥
IsFaultOfJournal plan text OutOfMemory = length (lines text) ≤ most_lines
IsFaultOfJournal plan text Exhausted = (steps : List Step) × IsJournal text steps × IsExhaustedIn plan steps
IsFaultOfJournal plan text Spawn = ⊥
IsFaultOfJournal plan text Torn = ⊥

-- a read of a file may give a journal, and of what comes of it on this network this is the text of the tables, and this the line
abbrev pub GivesTexts : Plan → (Option (List ℕ) → Type 0) → List ℕ → List ℕ → Type 0
GivesTexts plan gives tables line =
    (bytes : List ℕ) × (conclusion : Conclusion) × gives (Some bytes) × TellsOfJournal plan bytes conclusion ×
    (tables ≡ tables_text plan conclusion.tables) × (line ≡ string_bytes conclusion.line)

-- why a journal in the file with this path was not done on this network, where the host was `old` before and is `new` after: the file was not
-- read, or the journal was not done
abbrev pub IsFaultOfSteps : {S F O E : Type 0} → Outside S F O E → Plan → List ℕ → S → S → Fault → Type 0
IsFaultOfSteps outside plan path old new fault =
    IsFaultOfFile outside path old new fault
    ⊎ ((bytes : List ℕ) × outside.gives old path (Some bytes) × IsFaultOfJournal plan bytes fault × (new ≡ old))

-- the host was `old` before, and is `new` after
module _ {S F O E : Type 0} (outside : Outside S F O E) (old new : S) where
  -- the journal in the file with this path was done on the network: its tables and its line were shown
  abbrev pub ShowsReplay : Plan → List ℕ → Type 0
  ShowsReplay plan path =
      (tables : List ℕ) × (line : List ℕ) × GivesTexts plan (outside.gives old path) tables line × Shows outside old new tables × Says outside old new line ×
      ShowsBoth outside old new

  -- why it was not done there, or its tables are not on standard output
  abbrev pub LacksReplay : Plan → List ℕ → Fault → Type 0
  LacksReplay plan path fault =
      IsFaultOfSteps outside plan path old new fault
      ⊎ ((tables : List ℕ) × (line : List ℕ) × GivesTexts plan (outside.gives old path) tables line × LacksOutput outside true old new fault)
