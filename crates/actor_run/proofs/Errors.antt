-- Clauses on results and errors.
use Rattle.std.proofs.Common.{◌≡◌, ◌∙◌, Result, Ok, Err, IfOk, OnOk, OnErr, IsErrAnd}
use Rattle.actor_run.specs.declared.fault.SimFault.{SimFault}
use Rattle.actor_run.specs.declared.fault.SimFault.TheVariants.{OutOfMemory, Exhausted}

-- what holds in any case holds after an error
pub after-error : {T E P : Type 0} → P → (r : Result T E) → OnErr r P
after-error p (Ok x) = tt
after-error p (Err y) = p

-- what follows from what holds of the value of a call that went well holds of it too
pub ok-weaker : {T E : Type 0} (P Q : T → Type 0) → ((x : T) → P x → Q x) → (r : Result T E) → IfOk r P → IfOk r Q
ok-weaker P Q follows (Ok x) p = follows x p
ok-weaker P Q follows (Err y) p = tt

-- what follows from a fact that holds where a call went well holds there too
pub on-ok : {T E P Q : Type 0} → (P → Q) → (r : Result T E) → OnOk r P → OnOk r Q
on-ok follows (Ok x) p = follows p
on-ok follows (Err y) p = tt

-- a fault that is passed on is that of the call
pub passed-on : {T U E : Type 0} {d e : E} {r : Result T E} (q : Result U E) → IsErrAnd q (λ z. z ≡ d) → r ≡ Err d → q ≡ Err e → r ≡ Err e
passed-on (Ok x) is was told = absurd is
passed-on (Err y) is was told = cc

-- want of memory that is passed on is not that of numbers
pub passed-short : {T X : Type 0} {d : SimFault} (r : Result T SimFault) → IsErrAnd r (λ z. z ≡ d) → d ≡ OutOfMemory → r ≡ Err Exhausted → X
passed-short (Ok v) was memory e = absurd was
passed-short (Err z) was memory e = absurd (let m = was ∙ memory in cc)

-- a fault that is passed on is no success
pub not-passed : {T E X : Type 0} {v : T} (d : E) (r : Result T E) → IsErrAnd r (λ z. z ≡ d) → r ≡ Ok v → X
not-passed d (Ok x) was e = absurd was
not-passed d (Err z) was e = absurd (let k = e in cc)

pub err-on-ok : {T E : Type 0} (P : Type 0) (d : E) (r : Result T E) → IsErrAnd r (λ z. z ≡ d) → OnOk r P
err-on-ok P d (Ok x) was = absurd was
err-on-ok P d (Err z) was = tt
