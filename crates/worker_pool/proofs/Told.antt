-- What the workers of a run ended with reaches the answer.
use Rattle.std.specs.Prelude.{⊤}
use Rattle.std.proofs.Common.{◌≡◌, ℕ, Result, Ok, Err, IfErr, IsErrAnd, refl, sym, subst}
use Rattle.journal.specs.Faults.{fault_number}
use Rattle.journal.specs.declared.fault.PoolFault.{PoolFault}
use Rattle.journal.specs.declared.fault.PoolFault.TheVariants.{OutOfMemory, Spawn}
use Rattle.turns.proofs.Told.{no-memory, no-start}
use Rattle.worker_pool.specs.Outcomes.{HandsOnFaults, IsMemory, IsUnstarted}

-- memory was refused before the workers were started
pub before-memory : {A : Type 0} (workers : ℕ) → HandsOnFaults {A = A} workers (Err OutOfMemory)
before-memory workers = record { worked = Err OutOfMemory; least = no-memory fault_number IsMemory IsUnstarted workers OutOfMemory refl; handed_on = refl }

pub memory-is : {A : Type 0} (workers : ℕ) (fault : PoolFault) → fault ≡ OutOfMemory → HandsOnFaults {A = A} workers (Err fault)
memory-is {A} workers fault is = subst (λ z. HandsOnFaults {A = A} workers (Err z)) (sym is) (before-memory workers)

pub memory-first : {A : Type 0} (workers : ℕ) (result : Result A PoolFault) → IsErrAnd result (λ z. z ≡ OutOfMemory) → HandsOnFaults workers result
memory-first workers (Ok a) p = absurd p
memory-first workers (Err z) p = memory-is workers z p

-- a thread could not be started before them
pub before-start : {A : Type 0} (workers : ℕ) → HandsOnFaults {A = A} workers (Err Spawn)
before-start workers = record { worked = Err Spawn; least = no-start fault_number IsMemory IsUnstarted workers Spawn refl; handed_on = refl }

same-fault : {A : Type 0} (one other : PoolFault) → (let r : Result A PoolFault = Err one in r ≡ Err other) → one ≡ other
same-fault one other is = subst (λ r. IfErr r (λ fault. fault ≡ other)) (sym is) refl

handed : {A B : Type 0} (worked : Result ⊤ PoolFault) (one : Result A PoolFault) (other : Result B PoolFault) → IfErr one (λ fault. other ≡ Err fault) →
    IfErr worked (λ fault. one ≡ Err fault) → IfErr worked (λ fault. other ≡ Err fault)
handed (Ok x) one other then is = tt
handed (Err why) (Ok a) other then is = absurd (cc)
handed (Err why) (Err fault) other then is = subst (λ z. other ≡ Err z) (same-fault fault why is) then

-- where a fault of one result is that of another, what the workers ended with reaches the other too
pub passed-on : {A B : Type 0} (workers : ℕ) (one : Result A PoolFault) (other : Result B PoolFault) → IfErr one (λ fault. other ≡ Err fault) →
    HandsOnFaults workers one → HandsOnFaults workers other
passed-on workers one other then H = record { worked = H.worked; least = H.least; handed_on = handed H.worked one other then H.handed_on }

-- and so it does where one went well
pub went-on : {A B : Type 0} (workers : ℕ) (a : A) (one : Result A PoolFault) (other : Result B PoolFault) → one ≡ Ok a → HandsOnFaults workers one → HandsOnFaults workers other
went-on workers a one other well H = passed-on workers one other (subst (λ r. IfErr r (λ fault. other ≡ Err fault)) (sym well) tt) H
