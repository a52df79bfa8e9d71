-- What the program writes of a one-thread run, and why it gives up a run.
use Rattle.std.specs.Prelude.{◌≡◌, ℕ, Bool, true, List}
use Rattle.vlink.specs.Letters.{Row}
use Rattle.network.specs.Words.{Plan}
use Rattle.nodes.specs.Words.{simulation_of}
use Rattle.actor_run.specs.Running.{IsExhaustedAt}
use Rattle.actor_run.specs.declared.fault.SimFault.{SimFault}
use Rattle.actor_run.specs.declared.fault.SimFault.TheVariants as sim
use Rattle.journal.specs.declared.fault.PoolFault.{PoolFault}
use Rattle.journal.specs.declared.fault.PoolFault.TheVariants as pool
use Rattle.trace_tables.specs.Tables.{tables_of}
use Rattle.trace_segments.specs.Words.{trace_text}
use Rattle.trace_tables.specs.Text.{tables_text}
use Rattle.seqsim.specs.Networks.{AreRowsOf}
use Rattle.commands.specs.declared.fault.Fault.{Fault}
use Rattle.commands.specs.declared.fault.Fault.TheVariants.{Description, JournalLine, JournalFull, CannotRead, CannotWriteFile, CannotWrite, Layout, OutOfMemory, Exhausted, Spawn, Torn}

-- why a one-thread run was given up, as a fault of the program
abbrev pub fault_of_run : SimFault → Fault
fault_of_run sim.OutOfMemory = OutOfMemory
fault_of_run sim.Exhausted = Exhausted

-- why a run by workers was given up, as a fault of the program
abbrev pub fault_of_pool : PoolFault → Fault
fault_of_pool pool.OutOfMemory = OutOfMemory
fault_of_pool pool.Exhausted = Exhausted
fault_of_pool pool.JournalFull = JournalFull
fault_of_pool pool.Spawn = Spawn
fault_of_pool pool.Torn = Torn

-- this is the text of the tables of the one-thread run of the network
abbrev pub IsTablesText : Plan → List ℕ → Type 0
IsTablesText plan text = (rows : List Row) × AreRowsOf plan rows × (text ≡ tables_text plan (tables_of plan rows))

-- this is the text of its trace
abbrev pub IsTraceText : Plan → List ℕ → Type 0
IsTraceText plan text = (rows : List Row) × AreRowsOf plan rows × (text ≡ trace_text plan rows)

-- why the one-thread run of a network, whose rows are kept or counted alone, was given up: a growth was refused; or, if they are kept, after
-- some events the process that is next has not enough numbers left
abbrev pub IsFaultOfRun : Bool → Plan → Fault → Type 0
IsFaultOfRun keeps plan (Description fault) = ⊥
IsFaultOfRun keeps plan (JournalLine n) = ⊥
IsFaultOfRun keeps plan JournalFull = ⊥
IsFaultOfRun keeps plan (CannotRead path) = ⊥
IsFaultOfRun keeps plan (CannotWriteFile path) = ⊥
IsFaultOfRun keeps plan CannotWrite = ⊥
IsFaultOfRun keeps plan Layout = ⊥
IsFaultOfRun keeps plan OutOfMemory = Unit
IsFaultOfRun keeps plan Exhausted = (keeps ≡ true) × (n : ℕ) × IsExhaustedAt (simulation_of plan) n
IsFaultOfRun keeps plan Spawn = ⊥
IsFaultOfRun keeps plan Torn = ⊥
