-- The least of a moment and of the times of messages or letters, as code finds it.
use Rattle.std.proofs.Common.{◌≡◌, ℕ, ◌+◌, ◌<◌, min, false, List, [], ◌∷◌, ◌++◌, map, length, take, Option, Some, None, All, Contains, IfSome, IfNone, slice_get, refl, sym, ap, ◌∙◌, arith}
use Rattle.std.proofs.lemmas.List.{take_more, map-append}
use Rattle.std.proofs.lemmas.Option.{get_or_from_slice_get}
use Rattle.vlink.specs.declared.message.Message.{Message}
use Rattle.vlink.specs.Letters.{Letter}
use Rattle.vlink.specs.Order.{message_order}
use Rattle.virtual_time.specs.Law.{IsOrder, lowest, times_of}
use Rattle.virtual_time.proofs.Lowest.{lowest-top, lowest-message, lowest-messages}
use Rattle.virtual_time.proofs.Order.{not_less-time}
use Rattle.reverse.specs.Rules.{is_before}
use Rattle.reverse.proofs.Members.{in-all}
use Rattle.group_queues.proofs.Among.{at-in}

-- the least also of x
lowest-min : (x d : ℕ) (ys : List ℕ) → lowest (min x d) ys ≡ min x (lowest d ys)
lowest-min x d [] = refl
lowest-min x d (y ∷ ys) = let a = lowest-min x d ys in omega arith

-- the least of the moment and of messages, none of which comes before this one of them
pub lowest-first : IsOrder message_order → (d : ℕ) (m : Message) (xs : List Message) → Contains xs m → All (λ x. is_before x m ≡ false) xs →
    lowest d (map message_order.time xs) ≡ min m.time d
lowest-first O d m xs c a =
    let u = lowest-top message_order O d (map message_order.time xs) in
    let w = lowest-message message_order O d xs m (at-in O xs c.0 m c.1 (sym c.2)) in
    let z = lowest-messages message_order O (min m.time d) d xs (omega arith)
    (λ y i. let k = not_less-time message_order O y m (in-all message_order O (λ y. is_before y m ≡ false) y xs a i) in omega arith) in
    omega arith

-- where there is none, the moment
pub lowest-none : (d : ℕ) (xs : List Message) → xs ≡ [] → lowest d (map message_order.time xs) ≡ d
lowest-none d xs e = ap (λ ms. lowest d (map message_order.time ms)) e

-- the least of the moment and of the first of messages, if there is one
pub lowest-of : IsOrder message_order → (o : Option Message) (n d : ℕ) (xs : List Message) → IfSome o (Contains xs) → IfSome o (λ m. All (λ x. is_before x m ≡ false) xs) → IfNone o (xs ≡ []) →
    IfSome o (λ m. n ≡ min m.time d) → IfNone o (n ≡ d) → lowest d (map message_order.time xs) ≡ n
lowest-of O None n d xs among first none some end = lowest-none d xs none ∙ sym end
lowest-of O (Some m) n d xs among first none some end = lowest-first O d m xs among first ∙ sym some

-- the least of two lists: that of the second, begun with that of the first
lowest-append : (d : ℕ) (xs ys : List ℕ) → lowest d (xs ++ ys) ≡ lowest (lowest d xs) ys
lowest-append d [] ys = refl
lowest-append d (x ∷ xs) ys = ap (min x) (lowest-append d xs ys) ∙ sym (lowest-min x (lowest d xs) ys)

-- the least time of the first letters and of the one behind them
pub times-more : (d : ℕ) (ls : List Letter) (i : ℕ) (l : Letter) → i < length ls → slice_get ls i ≡ Some l →
    lowest d (times_of message_order (take (i + 1) ls)) ≡ min l.message.time (lowest d (times_of message_order (take i ls)))
times-more d ls i l h e =
    ap (λ z. lowest d (times_of message_order z)) (take_more ls i l h ∙ ap (λ z. take i ls ++ z ∷ []) (get_or_from_slice_get ls i l l e)) ∙
    (ap (lowest d) (map-append (λ (x : Letter). x.message.time) (take i ls) (l ∷ [])) ∙
    lowest-append d (times_of message_order (take i ls)) (l.message.time ∷ []))
