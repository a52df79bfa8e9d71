-- Why a run by workers was given up, as a fault of the program.
use Rattle.std.proofs.Common.{◌≡◌, Result, Ok, Err, refl, sym, ap, subst, arith, min, IfErr}
use Rattle.command_line.specs.declared.orders.Run.{Run}
use Rattle.network.specs.Words.{Plan, process_count}
use Rattle.group_choice.specs.Groups.{run_groups}
use Rattle.worker_pool.specs.declared.pace.Pace.{Pace}
use Rattle.journal.specs.declared.fault.PoolFault.{PoolFault}
use Rattle.journal.specs.declared.fault.PoolFault.TheVariants as pool
use Rattle.worker_pool.specs.Outcomes.{CanWantWorkers, UsesUpNumbers}
use Rattle.commands.specs.declared.fault.Fault.{Fault}
use Rattle.commands.specs.declared.fault.Fault.TheVariants.{Description, JournalLine, JournalFull, CannotRead, CannotWriteFile, CannotWrite, Layout, OutOfMemory, Exhausted, Spawn, Torn}
use Rattle.commands.specs.Sequencing.{fault_of_pool}
use Rattle.afdxsim.specs.Workers.{IsFaultOfPool, ordered_pace}

-- a run's own fault is named
pub workers_gave_up : {X : Type 0} (plan : Plan) (CanSpawn : Type 0) (r : Result X PoolFault) (why : PoolFault) (fault : Fault) → r ≡ Err why →
    IfErr r (λ fault. fault ≡ pool.Exhausted → UsesUpNumbers plan) → IfErr r (λ fault. fault ≡ pool.Spawn → CanSpawn) → fault ≡ fault_of_pool why →
    IsFaultOfPool plan CanSpawn fault
workers_gave_up plan CanSpawn r why fault is exhausted spawn named =
    subst (IsFaultOfPool plan CanSpawn) (sym named)
    (of why (subst (λ r. IfErr r (λ fault. fault ≡ pool.Exhausted → UsesUpNumbers plan)) is exhausted)
    (subst (λ r. IfErr r (λ fault. fault ≡ pool.Spawn → CanSpawn)) is spawn))
  where
    of : (why : PoolFault) → (why ≡ pool.Exhausted → UsesUpNumbers plan) → (why ≡ pool.Spawn → CanSpawn) → IsFaultOfPool plan CanSpawn (fault_of_pool why)
    of pool.OutOfMemory exhausted spawn = tt
    of pool.Exhausted exhausted spawn = exhausted refl
    of pool.JournalFull exhausted spawn = tt
    of pool.Spawn exhausted spawn = spawn refl
    of pool.Torn exhausted spawn = tt

-- what can be wanted of fewer workers can be of more
pub for_more : (plan : Plan) (Few Many : Type 0) (fault : Fault) → (Few → Many) → IsFaultOfPool plan Few fault → IsFaultOfPool plan Many fault
for_more plan Few Many (Description fault) f is = is
for_more plan Few Many (JournalLine n) f is = is
for_more plan Few Many JournalFull f is = is
for_more plan Few Many (CannotRead path) f is = is
for_more plan Few Many (CannotWriteFile path) f is = is
for_more plan Few Many CannotWrite f is = is
for_more plan Few Many Layout f is = is
for_more plan Few Many OutOfMemory f is = is
for_more plan Few Many Exhausted f is = is
for_more plan Few Many Spawn f is = f is
for_more plan Few Many Torn f is = is

-- and so of the workers of a run, which are no more than are ordered
pub for_fewer : (order : Run) (plan : Plan) (pace : Pace) (fault : Fault) → pace ≡ ordered_pace (process_count plan) order →
    IsFaultOfPool plan (CanWantWorkers pace.workers (process_count plan)) fault → IsFaultOfPool plan (CanWantWorkers order.workers (process_count plan)) fault
for_fewer order plan pace fault ordered is =
    for_more plan (CanWantWorkers pace.workers (process_count plan)) (CanWantWorkers order.workers (process_count plan)) fault
    (λ can. (
      let workers : pace.workers ≡ min order.workers (run_groups (process_count plan) order.workers order.groups) = ap (λ (p : Pace). p.workers) ordered in
          let some = can.0 in omega arith,
      can.1,
    )) is

-- of a run that writes its trace nothing tells why a worker does not start
pub tracers_gave_up : {X : Type 0} (plan : Plan) (r : Result X PoolFault) (why : PoolFault) (fault : Fault) → r ≡ Err why →
    IfErr r (λ fault. fault ≡ pool.Exhausted → UsesUpNumbers plan) → fault ≡ fault_of_pool why → IsFaultOfPool plan Unit fault
tracers_gave_up plan r why fault is exhausted named = workers_gave_up plan Unit r why fault is exhausted (any r) named
  where
    any : {X : Type 0} (r : Result X PoolFault) → IfErr r (λ fault. fault ≡ pool.Spawn → Unit)
    any (Ok x) = tt
    any (Err e) = λ _. tt
