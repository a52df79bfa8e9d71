-- What a read of a file returns, and what its bytes are as a description.
use Rattle.std.specs.Prelude.{◌≡◌, ◌⊎◌, ℕ, List, Option, None, Some, IsUtf8}
use Rattle.network_rows.specs.declared.fault.DescFault.TheVariants.{Syntax}
use Rattle.network.specs.Words.{Plan}
use Rattle.netdesc.specs.Words.{TellsFaultOf, Describes}
use Rattle.commands.specs.Outside.{Outside}
use Rattle.commands.specs.declared.fault.Fault.{Fault}
use Rattle.commands.specs.declared.fault.Fault.TheVariants.{Description, JournalLine, JournalFull, CannotRead, CannotWriteFile, CannotWrite, Layout, OutOfMemory, Exhausted, Spawn, Torn}

-- the first fault of these bytes as a description, or want of memory; that of bytes that are no text is their syntax
abbrev pub TellsOf : List ℕ → Fault → Type 0
TellsOf bytes (Description fault) = (IsUtf8 bytes × TellsFaultOf bytes fault) ⊎ (¬ (IsUtf8 bytes) × (fault ≡ Syntax))
TellsOf bytes (JournalLine n) = ⊥
TellsOf bytes JournalFull = ⊥
TellsOf bytes (CannotRead path) = ⊥
TellsOf bytes (CannotWriteFile path) = ⊥
TellsOf bytes CannotWrite = ⊥
TellsOf bytes Layout = ⊥
TellsOf bytes OutOfMemory = ⊥
TellsOf bytes Exhausted = ⊥
TellsOf bytes Spawn = ⊥
TellsOf bytes Torn = ⊥

-- a read of the file may give a text that describes this network: it has no fault then
abbrev pub GivesNetwork : (Option (List ℕ) → Type 0) → Plan → Type 0
GivesNetwork gives plan = (bytes : List ℕ) × gives (Some bytes) × Describes bytes plan

module _ {S F O E : Type 0} (outside : Outside S F O E) where
  -- why the file with this path was not read, where the host was `old` before and is `new` after: a read of it may give none, and it was
  -- missed; or it may give some, and a growth was refused
  abbrev pub IsFaultOfFile : List ℕ → S → S → Fault → Type 0
  IsFaultOfFile path old new (Description fault) = ⊥
  IsFaultOfFile path old new (JournalLine n) = ⊥
  IsFaultOfFile path old new JournalFull = ⊥
  IsFaultOfFile path old new (CannotRead at) = (at.now ≡ path) × outside.gives old path None × (new ≡ outside.missed old path)
  IsFaultOfFile path old new (CannotWriteFile at) = ⊥
  IsFaultOfFile path old new CannotWrite = ⊥
  IsFaultOfFile path old new Layout = ⊥
  IsFaultOfFile path old new OutOfMemory = ((bytes : List ℕ) × outside.gives old path (Some bytes)) × (new ≡ old)
  IsFaultOfFile path old new Exhausted = ⊥
  IsFaultOfFile path old new Spawn = ⊥
  IsFaultOfFile path old new Torn = ⊥

  -- why the file with this path gave no network: it was not read, or a read of it may give bytes with this fault
  abbrev pub IsFaultOfNet : List ℕ → S → S → Fault → Type 0
  IsFaultOfNet path old new fault =
      IsFaultOfFile path old new fault ⊎ ((bytes : List ℕ) × outside.gives old path (Some bytes) × TellsOf bytes fault × (new ≡ old))
