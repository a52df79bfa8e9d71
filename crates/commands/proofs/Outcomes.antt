-- What follows of an answer, from what holds of its value or of its fault.
use Rattle.std.proofs.Common.{◌≡◌, Result, Ok, Err, sym, subst, OnOk, IfOk, IfErr, IsErrAnd}
use Rattle.commands.specs.declared.fault.Fault.{Fault}

-- what follows from what holds of an answer that is good, and of a fault
pub ok_then : {T F P Q : Type 0} (r : Result T F) → OnOk r P → (P → Q) → OnOk r Q
ok_then (Ok x) p f = f p
ok_then (Err e) p f = tt

pub err_then : {T F : Type 0} {P Q : F → Type 0} (r : Result T F) → IfErr r P → ((e : F) → P e → Q e) → IfErr r Q
err_then (Ok x) p f = tt
err_then (Err e) p f = f e p

pub ok_if : {T F : Type 0} {P Q : T → Type 0} (r : Result T F) → IfOk r P → ((x : T) → P x → Q x) → IfOk r Q
ok_if (Ok x) p f = f x p
ok_if (Err e) p f = tt

pub on_three : {T F P Q R V : Type 0} (r : Result T F) → OnOk r P → OnOk r Q → OnOk r R → (P → Q → R → V) → OnOk r V
on_three (Ok x) p q s f = f p q s
on_three (Err e) p q s f = tt

-- an answer that is a fault has no value of which something would have to hold
pub no_value : {T F : Type 0} (P : T → Type 0) (Q : F → Type 0) (r : Result T F) → IsErrAnd r Q → IfOk r P
no_value P Q (Ok x) is = absurd is
no_value P Q (Err x) is = tt

-- an answer that is this fault
pub same_err : {T : Type 0} (P : Fault → Type 0) (r : Result T Fault) (fault : Fault) → IsErrAnd r (λ x. x ≡ fault) → P fault → IfErr r P
same_err P (Ok x) fault same p = tt
same_err P (Err x) fault same p = subst P (sym same) p

-- what holds of the value or the fault that an answer has
pub at_ok : {T F : Type 0} (P : Type 0) (r : Result T F) (x : T) → r ≡ Ok x → OnOk r P → P
at_ok P r x is holds = subst (λ y. OnOk y P) is holds

pub at_err : {T F : Type 0} (P : F → Type 0) (r : Result T F) (why : F) → r ≡ Err why → IfErr r P → P why
at_err P r why is holds = subst (λ x. IfErr x P) is holds
