-- Where a worker cannot be started, there are workers.
use Rattle.std.proofs.Common.{◌≡◌, Result, Ok, Err, IfErr, IsErr}
use Rattle.std.proofs.lemmas.Bool.{false≢true}
use Rattle.journal.specs.declared.fault.PoolFault.{PoolFault}
use Rattle.journal.specs.declared.fault.PoolFault.TheVariants.{Spawn}

pub spawned : {A B : Type 0} (P : Type 0) (told : Result A PoolFault) (worked : Result B PoolFault) → IfErr told (λ fault. fault ≡ Spawn → IsErr worked) →
    IfErr worked (λ fault. P) → IfErr told (λ fault. fault ≡ Spawn → P)
spawned P (Ok a) worked is then = tt
spawned P (Err fault) (Ok b) is then = λ e. absurd (false≢true (is e))
spawned P (Err fault) (Err why) is then = λ e. then
