-- When a run by workers is refused.
use Rattle.std.specs.Prelude.{◌≡◌, ℕ, ◌<◌, Result, Err, IfErr, ⊤}
use Rattle.journal.specs.Faults.{fault_number}
use Rattle.journal.specs.declared.fault.PoolFault.{PoolFault}
use Rattle.journal.specs.declared.fault.PoolFault.TheVariants.{OutOfMemory, Spawn}
use Rattle.turn_words.specs.Outcomes.{IsToldByWorkers}
pub use Rattle.group_turns.specs.Limit.{TakesMany}
pub use Rattle.group_turns.specs.Numbers.{UsesUpNumbers}

-- there are workers to be started: some are asked for, and there is a process
abbrev pub CanWantWorkers : ℕ → ℕ → Type 0
CanWantWorkers workers processes = (0 < workers) × (0 < processes)

abbrev pub IsMemory : PoolFault → Type 0
IsMemory fault = fault ≡ OutOfMemory

abbrev pub IsUnstarted : PoolFault → Type 0
IsUnstarted fault = fault ≡ Spawn

-- what so many workers ended with, the least fault of all of them and of their start: if it is a fault, the run reports it
pub record HandsOnFaults {A : Type 0} (workers : ℕ) (result : Result A PoolFault) : Type 0 where
  pub worked : Result ⊤ PoolFault
  pub least : IsToldByWorkers fault_number IsMemory IsUnstarted workers worked
  pub handed_on : IfErr worked (λ fault. result ≡ Err fault)
