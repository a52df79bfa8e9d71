-- What can be nothing else.
use Rattle.std.proofs.Common.{◌≡◌, Option, Some, None, refl}

pub none-of : {X : Type 0} (o : Option X) → ((x : X) → o ≡ Some x → ⊥) → o ≡ None
none-of None h = refl
none-of (Some x) h = absurd (h x refl)
