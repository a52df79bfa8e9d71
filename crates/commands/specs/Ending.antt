-- What a stream took, how a fault is reported on it, and why standard output did not take a text.
use Rattle.std.specs.Prelude.{◌≡◌, ℕ, ◌+◌, Bool, true, List, Option}
use Rattle.std.specs.Borrow.{Bor}
use Rattle.std.specs.Io.KnownBytes.{append_known}
use Rattle.trace_segments.specs.declared.fault.OutFault.{OutFault}
use Rattle.trace_segments.specs.declared.fault.OutFault.TheVariants as out
use Rattle.trace_segments.specs.declared.segment_fault.SegmentFault.TheVariants as segment
use Rattle.trace_segments.specs.declared.trace_fault.TraceFault.{TraceFault}
use Rattle.trace_segments.specs.declared.trace_fault.TraceFault.TheVariants.{Segment, Out}
use Rattle.commands.specs.declared.fault.Fault.{Fault}
use Rattle.commands.specs.declared.fault.Fault.TheVariants.{Description, JournalLine, JournalFull, CannotRead, CannotWriteFile, CannotWrite, Layout, OutOfMemory, Exhausted, Spawn, Torn}
use Rattle.commands.specs.Telling.{Telling}

-- a stream took this text behind what it had taken
abbrev pub Took : {A : Type 0} → (A → Option (List ℕ)) → A → A → List ℕ → Type 0
Took taken old new text = taken new ≡ append_known (taken old) text

-- error output took the line of what is told, unless a write to it failed; the status is the one that goes with the line
abbrev pub Told : {A : Type 0} → (A → Option (List ℕ)) → (A → ℕ) → A → A → ℕ → Telling → Type 0
Told taken failures old new status told = (status ≡ told.status) × (failures new ≡ failures old → Took taken old new told.line)

-- why a text did not go out, as a fault of the program, where it was for the file with this path
abbrev pub fault_of_file : Bor (List ℕ) → OutFault → Fault
fault_of_file path out.Device = CannotWriteFile path
fault_of_file path out.OutOfMemory = OutOfMemory
fault_of_file path out.Layout = Layout

-- why a run by workers did not write its trace, as a fault of the program, where the file has this path. Segments that are missing or come twice
-- are no fault of the file
abbrev pub fault_of_trace : Bor (List ℕ) → TraceFault → Fault
fault_of_trace path (Segment segment.OutOfMemory) = OutOfMemory
fault_of_trace path (Segment why) = Torn
fault_of_trace path (Out why) = fault_of_file path why

-- why a text, which has rows or has none, is not on a stream: one more write failed than before; or a growth was refused, or its rows were
-- not laid out, and then the stream is as it was
abbrev pub IsFaultOfOutput : {A : Type 0} → Bool → (A → ℕ) → A → A → Fault → Type 0
IsFaultOfOutput has_rows failures old new (Description fault) = ⊥
IsFaultOfOutput has_rows failures old new (JournalLine n) = ⊥
IsFaultOfOutput has_rows failures old new JournalFull = ⊥
IsFaultOfOutput has_rows failures old new (CannotRead path) = ⊥
IsFaultOfOutput has_rows failures old new (CannotWriteFile path) = ⊥
IsFaultOfOutput has_rows failures old new CannotWrite = failures new ≡ failures old + 1
IsFaultOfOutput has_rows failures old new Layout = (has_rows ≡ true) × (new ≡ old)
IsFaultOfOutput has_rows failures old new OutOfMemory = new ≡ old
IsFaultOfOutput has_rows failures old new Exhausted = ⊥
IsFaultOfOutput has_rows failures old new Spawn = ⊥
IsFaultOfOutput has_rows failures old new Torn = ⊥
