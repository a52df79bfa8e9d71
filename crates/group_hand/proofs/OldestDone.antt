-- The oldest done event, and which are earlier than a moment.
use Rattle.std.proofs.Common.{◌≡◌, ℕ, ◌<◌, ◌≤◌, inl, inr, nat_lt, true, Option, Some, List, [], ◌∷◌, All, Contains, IfSome, slice_get, option_map, refl, sym, subst, arith}
use Rattle.std.proofs.lemmas.Bool.{le-ltb}
use Rattle.std.proofs.lemmas.List.Elements.{All-nil, All-cons}
use Rattle.vlink.specs.declared.message.Message.{Message}
use Rattle.vlink.specs.declared.note.Note.{Note}
use Rattle.vlink.specs.Order.{message_order}
use Rattle.virtual_time.specs.Law.{Rules, IsOrder, World, IsAscending, IsIn, earlier}
use Rattle.virtual_time.proofs.Lists.{filter-none, in-cons, in-head}
use Rattle.virtual_time.proofs.Order.{less-time}
use Rattle.reverse.specs.Setting.{Setting}
use Rattle.reverse.proofs.Members.{in-all}
use Rattle.group_queues.specs.DoneEvents.{messages_of}
use Rattle.group_hand.specs.Hands.{Held, StandsForGroup, is_ours}
use Rattle.group_hand.proofs.Going.{done-in, held-is}

-- what holds of each message in a list
all-in : IsOrder message_order → (P : Message → Type 0) (ms : List Message) → ((y : Message) → IsIn message_order y ms → P y) → All P ms
all-in O P [] p = All-nil P
all-in O P (m ∷ ms) p = All-cons P m ms (p m (in-head message_order O m ms)) (all-in O P ms (λ y i. p y (omega arith)))

-- where the first is not earlier than the moment, none is
pub from-first : IsOrder message_order → (moment : ℕ) (ms : List Message) → IsAscending message_order ms → IfSome (slice_get ms 0) (λ m. moment ≤ m.time) → All (λ m. moment ≤ m.time) ms
from-first O moment [] up first = All-nil (λ (m : Message). moment ≤ m.time)
from-first O moment (m ∷ ms) up first = all-in O (λ y. moment ≤ y.time) (m ∷ ms) (λ y i. elim (in-cons message_order O y m ms i) [
  | inl e ↦ subst (λ (z : Message). moment ≤ z.time) (sym e) first
  | inr j ↦ (let k = less-time message_order O m y (up.0 y j) in omega arith)
])

-- the first, as its moment tells
pub first-late : (moment : ℕ) (ms : List Message) (o : Option ℕ) → o ≡ option_map (λ m. m.time) (slice_get ms 0) → IfSome o (λ t. moment ≤ t) → IfSome (slice_get ms 0) (λ m. moment ≤ m.time)
first-late moment [] o e l = tt
first-late moment (m ∷ ms) o e l = subst (λ z. IfSome z (λ t. moment ≤ t)) e l

pub first-early : (moment : ℕ) (ms : List Message) (t : ℕ) → Some t ≡ option_map (λ m. m.time) (slice_get ms 0) → t < moment → (m : Message) × Contains ms m × (m.time < moment)
first-early moment [] t e l = absurd (let k : ⊥ = cc in k)
first-early moment (m ∷ ms) t e l = (m, (0, omega arith, refl), (let k : t ≡ m.time = cc in omega arith))

-- none of a member
pub none-of : {S K : Type 0} (r : Rules Message S K Note) (O : IsOrder r.order) (V : S → Message → Type 0) (x : Setting S) (v : World Message S) (h : Held S K) (moment : ℕ) →
    All (λ m. moment ≤ r.order.time m) (messages_of h.done) → StandsForGroup r V x v h → (p : ℕ) → is_ours h.members p ≡ true → earlier r.order moment (v.parts p).done ≡ []
none-of r O V x v h moment late g p t =
    let at = held-is (slice_get h.members p) t in
    filter-none r.order O (λ m. nat_lt (r.order.time m) moment) (v.parts p).done
    (λ y i. le-ltb (r.order.time y) moment
    (in-all r.order O (λ m. moment ≤ r.order.time m) y (messages_of h.done) late (done-in r O V (x.opening p) p (v.parts p) at.0 h (g.members p at.0 at.1) y i)))
