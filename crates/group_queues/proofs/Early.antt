-- Whether a done event is early enough to be committed: earlier than a moment, and before the first message of the queue.
use Rattle.std.proofs.Common.{◌≡◌, ℕ, ◌<◌, ◌≤◌, ◌⊎◌, inl, inr, min, true, false, List, Option, Some, None, IfSome, IfNone, All, ap, subst, arith}
use Rattle.std.proofs.lemmas.Bool.{both_ways}
use Rattle.vlink.specs.declared.message.Message.{Message}
use Rattle.vlink.specs.Order.{message_order}
use Rattle.virtual_time.specs.Law.{IsOrder, times_in}
use Rattle.virtual_time.proofs.Lists.{times-none}
use Rattle.reverse.specs.Rules.{is_before}
use Rattle.reverse.proofs.Members.{in-all}
use Rattle.group_queues.specs.Flow.{Flow, IsFirst}
use Rattle.group_queues.specs.Sealing.{Stays}

-- what comes before the first of the queue is not in it
pub none-before : IsOrder message_order → (m first : Message) (xs : List Message) → message_order.less m first ≡ true → All (λ x. is_before x first ≡ false) xs →
    times_in message_order m xs ≡ 0
none-before O m first xs b a =
    times-none message_order O m xs (λ i. both_ways (message_order.less m first) (in-all message_order O (λ x. is_before x first ≡ false) m xs a i) b)

-- nothing of it is in the queue, where it comes before the first message, if there is one
pub none-in : IsOrder message_order → (m : Message) (first : Option Message) (queue : List Message) → IsFirst first queue → IfSome first (λ f. message_order.less m f ≡ true) →
    times_in message_order m queue ≡ 0
none-in O m None queue e b = ap (times_in message_order m) e
none-in O m (Some f) queue i b = none-before O m f queue b i.1

-- what is earlier than a limit comes before the first of the queue, if that is not earlier
pub before-first : IsOrder message_order → (m : Message) (limit : ℕ) (first : Option Message) → m.time < limit → IfSome first (λ f. limit ≤ f.time) →
    IfSome first (λ f. message_order.less m f ≡ true)
before-first O m limit None l w = tt
before-first O m limit (Some f) l w = O.by_time m f (omega (arith, l, w))

-- a done message stays that is not early enough
pub late-stays : (moment : ℕ) (flow : Flow) (m : Message) (first : Option Message) → IsFirst first flow.queue →
    (moment ≤ m.time) ⊎ ((f : Message) × (first ≡ Some f) × (message_order.less m f ≡ false)) → Stays moment flow m
late-stays moment flow m first i (inl l) = inl l
late-stays moment flow m first i (inr b) = inr (inr (b.0, (subst (λ o. IsFirst o flow.queue) b.1 i).0, b.2))

-- the earlier of a moment and that of the first message, if there is one, is not after either
pub limit-within : (limit moment : ℕ) (first : Option Message) → IfSome first (λ f. limit ≡ min f.time moment) → IfNone first (limit ≡ moment) →
    (limit ≤ moment) × IfSome first (λ f. limit ≤ f.time)
limit-within limit moment None s n = (omega (arith, n), tt)
limit-within limit moment (Some f) s n = (omega (arith, s), omega (arith, s))
