-- What a run makes, and why one was given up, as a fault of the program.
use Rattle.std.proofs.Common.{◌≡◌, ◌≢◌, ℕ, true, false, List, Result, Err, refl, sym, ap, subst}
use Rattle.nodes.specs.Words.{simulation_of}
use Rattle.network.specs.Words.{Plan}
use Rattle.actor_run.specs.Running.{IsExhaustedAt}
use Rattle.actor_run.specs.declared.fault.SimFault.{SimFault}
use Rattle.actor_run.specs.declared.fault.SimFault.TheVariants as sim
use Rattle.vlink.specs.Letters.{Row}
use Rattle.trace_tables.specs.Tables.{TableLists, tables_of}
use Rattle.trace_tables.specs.Text.{tables_text}
use Rattle.seqsim.specs.Networks.{AreRowsOf}
use Rattle.commands.specs.declared.fault.Fault.{Fault}
use Rattle.commands.specs.Sequencing.{fault_of_run, IsFaultOfRun, IsTablesText}

-- the fault of a run that keeps its rows is named
pub given_up : {X : Type 0} (plan : Plan) (r : Result X SimFault) (e : SimFault) (fault : Fault) → r ≡ Err e →
    (r ≡ Err sim.Exhausted → (n : ℕ) × IsExhaustedAt (simulation_of plan) n) → fault ≡ fault_of_run e → IsFaultOfRun true plan fault
given_up plan r e fault is exhausted named = subst (IsFaultOfRun true plan) (sym named) (of e is)
  where
    of : (e : SimFault) → r ≡ Err e → IsFaultOfRun true plan (fault_of_run e)
    of sim.OutOfMemory is = tt
    of sim.Exhausted is = let e = exhausted is in (refl, e.0, e.1)

-- and that of one that counts them: a growth was refused
pub lacked_memory : {X : Type 0} (plan : Plan) (r : Result X SimFault) (e : SimFault) (fault : Fault) → r ≡ Err e → r ≢ Err sim.Exhausted → fault ≡ fault_of_run e →
    IsFaultOfRun false plan fault
lacked_memory plan r e fault is enough named = subst (IsFaultOfRun false plan) (sym named) (of e is)
  where
    of : (e : SimFault) → r ≡ Err e → IsFaultOfRun false plan (fault_of_run e)
    of sim.OutOfMemory is = tt
    of sim.Exhausted is = absurd (enough is)

-- the text of the tables of a run
pub tables_made : (plan : Plan) (tables : TableLists) (rows : List Row) → AreRowsOf plan rows → tables ≡ tables_of plan rows →
    IsTablesText plan (tables_text plan tables)
tables_made plan tables rows are is = (rows, are, ap (tables_text plan) is)
