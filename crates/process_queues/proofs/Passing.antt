-- A fault that is passed on: what is said of success says nothing there.
use Rattle.std.proofs.Common.{◌≡◌, Result, Ok, Err, IfOk, OnOk, IsErrAnd}

pub err-if-ok : {T E : Type 0} (P : T → Type 0) (d : E) (r : Result T E) → IsErrAnd r (λ z. z ≡ d) → IfOk r P
err-if-ok P d (Ok v) was = absurd was
err-if-ok P d (Err e) was = tt

pub err-on-ok : {T E : Type 0} (P : Type 0) (d : E) (r : Result T E) → IsErrAnd r (λ z. z ≡ d) → OnOk r P
err-on-ok P d (Ok v) was = absurd was
err-on-ok P d (Err e) was = tt
