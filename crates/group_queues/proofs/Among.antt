-- Whether a message is in a list, as code finds it and as the law counts it.
use Rattle.std.proofs.Common.{◌≡◌, ℕ, zero, suc, ◌<◌, List, [], ◌∷◌, length, get_or, All, Contains, ◌≢◌, refl, sym, subst, arith}
use Rattle.vlink.specs.declared.message.Message.{Message}
use Rattle.vlink.specs.Order.{message_order}
use Rattle.virtual_time.specs.Law.{IsOrder, IsIn, times_in}
use Rattle.virtual_time.proofs.Lists.{in-head, times-none}
use Rattle.reverse.proofs.Members.{in-all}

-- a message at a place of a list is in it
pub at-in : IsOrder message_order → (all : List Message) (k : ℕ) (m : Message) → k < length all → m ≡ get_or all k m → IsIn message_order m all
at-in O [] k m l e = absurd (omega arith)
at-in O (x ∷ xs) zero m l e = subst (λ z. IsIn message_order m (z ∷ xs)) e (in-head message_order O m xs)
at-in O (x ∷ xs) (suc k) m l e = let i = at-in O xs k m (omega arith) e in omega arith

pub contains-in : IsOrder message_order → (xs : List Message) (m : Message) → Contains xs m → IsIn message_order m xs
contains-in O xs m c = at-in O xs c.0 m c.1 (sym c.2)

pub none-among : IsOrder message_order → (xs : List Message) (m : Message) → All (λ x. x ≢ m) xs → times_in message_order m xs ≡ 0
none-among O xs m a = times-none message_order O m xs (λ i. in-all message_order O (λ x. x ≢ m) m xs a i refl)
