-- What a call gives that is known to succeed or to be refused.
use Rattle.std.proofs.Common.{◌≡◌, false, true, Result, Ok, Err, OnErr, sym, subst, IsOk, OnOk, IfErr, IsErrAnd, is_err}

pub when-ok : {T E P : Type 0} (r : Result T E) → IsOk r → OnOk r P → P
when-ok (Ok v) i h = h
when-ok (Err e) i h = absurd (cc)

pub when-no-err : {T E P : Type 0} (r : Result T E) → is_err r ≡ false → OnOk r P → P
when-no-err (Ok v) e h = h
when-no-err (Err d) e h = absurd (cc)

pub when-err : {T E P : Type 0} (r : Result T E) → is_err r ≡ true → OnErr r P → P
when-err (Ok v) e h = absurd (cc)
when-err (Err d) e h = h

-- what holds of the fault of a call holds where it is passed on
pub if-err : {T E : Type 0} (P : E → Type 0) (e : E) (r : Result T E) → IsErrAnd r (λ z. z ≡ e) → P e → IfErr r P
if-err P e (Ok v) was p = tt
if-err P e (Err z) was p = subst P (sym was) p
