-- What a call answered, and what that rules out.
use Rattle.std.proofs.Common.{◌≡◌, Bool, true, false, Result, Ok, Err, OnOk, OnErr}

-- an answer, and no fault
pub not-err : {T E P : Type 0} (x : T) (y : E) (r : Result T E) → r ≡ Ok x → r ≡ Err y → P
not-err x y r a e = absurd cc

-- one answer, and not another
pub not-both : {E P : Type 0} (r : Result Bool E) → r ≡ Ok true → r ≡ Ok false → P
not-both r a e = absurd cc

-- what is said of an answer, where there is one, and where there is none; and of a fault, where there is none
pub where-ok : {T E P : Type 0} (x : T) (r : Result T E) → r ≡ Ok x → P → OnOk r P
where-ok x (Ok y) e p = p
where-ok x (Err y) e p = absurd cc

pub no-ok : {T E : Type 0} (P : Type 0) (y : E) (r : Result T E) → r ≡ Err y → OnOk r P
no-ok P y (Ok x) e = absurd cc
no-ok P y (Err z) e = tt

pub no-err : {T E : Type 0} (P : Type 0) (x : T) (r : Result T E) → r ≡ Ok x → OnErr r P
no-err P x (Ok y) e = tt
no-err P x (Err y) e = absurd cc
