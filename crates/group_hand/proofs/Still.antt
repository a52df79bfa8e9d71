-- Where nothing changed but room, the group stands for what it stood for.
use Rattle.std.proofs.Common.{◌≡◌, ◌≢◌, ℕ, ◌<◌, false, Option, Some, None, IfSome, IfNone, List, [], ◌++◌, All, Contains, Result, Ok, Err, OnErr, refl, sym, ap, ◌∙◌, subst, append-nil, arith}
use Rattle.std.proofs.lemmas.List.Elements.{All-contains, All-tail}
use Rattle.vlink.specs.declared.message.Message.{Message}
use Rattle.vlink.specs.Order.{message_order}
use Rattle.virtual_time.specs.Law.{IsOrder, IsAscending, World, received_by, times_in}
use Rattle.virtual_time.proofs.Order.{not_less-time}
use Rattle.reverse.specs.Plain.{Plain}
use Rattle.reverse.specs.Rules.{rules_of, is_before}
use Rattle.reverse.specs.Setting.{Setting}
use Rattle.reverse.specs.declared.sends.Sends.{Sends}
use Rattle.group_queues.specs.Block.{AddsRun}
use Rattle.group_queues.specs.DoneEvents.{DoneEvent, messages_of}
use Rattle.group_queues.specs.Flow.{Flow, IsFirst, TookFirst}
use Rattle.group_hand.specs.Handling.{IsHandled, RanFirst}
use Rattle.group_hand.specs.Hands.{Held, DoesSent, StandsForSent, IsAsBefore, is_ours}
use Rattle.group_hand.specs.Passing.{held}
use Rattle.group_queues.specs.Rows.{Sealed}
use Rattle.group_queues.specs.Waiting.{placed}
use Rattle.group_hand.proofs.Going.{stands-kept}
use Rattle.group_hand.proofs.Telling.{of_members-none}
use Rattle.group_queues.proofs.Waiting.{placed-first}

-- room was made, or the queue was looked at, for a group that is seen as h
pub as-roomy : {S K : Type 0} (h : Held S K) (members : List (Option S)) (done later : List (DoneEvent K)) (rows : Sealed) (flow next : Flow) → held members done rows flow ≡ h → later ≡ done →
    next ≡ record flow { room = next.room } → IsAsBefore h (held members later rows next)
as-roomy {S} {K} h members done later rows flow next v d e = (λ j. held members (d j) rows (e j)) ∙ ap (λ (z : Held S K). record z { flow = record z.flow { room = next.room } }) v

pub as-both : {S K : Type 0} (h mid new : Held S K) → IsAsBefore h mid → IsAsBefore mid new → IsAsBefore h new
as-both {S} {K} h mid new a b = b ∙ ap (λ (z : Held S K). record z { flow = record z.flow { room = new.flow.room } }) a

-- room was made, and then again
pub roomy-both : (flow mid next : Flow) → mid ≡ record flow { room = mid.room } → next ≡ record mid { room = next.room } → next ≡ record flow { room = next.room }
roomy-both flow mid next a b = b ∙ ap (λ (z : Flow). record z { room = next.room }) a

-- the first message was taken out, and waits again
pub put-back : (flow next last : Flow) (m : Message) → TookFirst m flow next → last.queue ≡ placed m next.queue → last ≡ record next { queue = last.queue; room = last.room } → last ≡ record flow { room = last.room }
put-back flow next last m t p e =
    let none = All-tail (λ x. is_before x m ≡ false) m next.queue (subst (All (λ x. is_before x m ≡ false)) t.taken t.first) in
    e ∙ (λ j. record (t.others j) { queue = (p ∙ (placed-first m next.queue none ∙ sym t.taken)) j; room = last.room })

-- there was none, and there is none
pub none-back : (flow next : Flow) → flow.queue ≡ [] → next.queue ≡ [] → next ≡ record flow { queue = next.queue; room = next.room } → next ≡ record flow { room = next.room }
none-back flow next none empty e = e ∙ (λ j. record flow { queue = (empty ∙ sym none) j; room = next.room })

pub took-first : (m : Message) (old new : Flow) → TookFirst m old new → Contains old.queue m × All (λ x. is_before x m ≡ false) old.queue
took-first m old new t = (subst (λ (xs : List Message). Contains xs m) (sym t.taken) (0, omega arith, refl), t.first)

pub on-err : {X Y : Type 0} (r : Result X Y) (P : Type 0) → P → OnErr r P
on-err (Ok x) P p = tt
on-err (Err e) P p = p

pub is-first : (o : Option Message) (queue : List Message) → IfSome o (Contains queue) → IfSome o (λ m. All (λ x. is_before x m ≡ false) queue) → IfNone o (queue ≡ []) → IsFirst o queue
is-first None queue among first none = none
is-first (Some m) queue among first none = (among, first)

-- some message is earlier than the limit, so the first is
pub first-soon : IsOrder message_order → (limit : ℕ) (queue : List Message) (m : Message) → All (λ x. is_before x m ≡ false) queue → ((y : Message) × Contains queue y × (y.time < limit)) → m.time < limit
first-soon O limit queue m first soon =
    let e = not_less-time message_order O soon.0 m (All-contains (λ x. is_before x m ≡ false) queue soon.0 first soon.1) in
    let l = soon.2 in
    omega arith

-- the first message was handled, where only room had changed before
pub handled-again : {S K : Type 0} (m : Message) (h mid new : Held S K) → IsAsBefore h mid → IsHandled m mid new → IsHandled m h new
handled-again m h mid new a r = subst (λ (z : Held _ _). IsHandled m z new) a r

-- the same of the first message, which is not done
pub ran-again : {S K : Type 0} (m : Message) (h mid new : Held S K) → IsAsBefore h mid → RanFirst m mid new → RanFirst m h new
ran-again m h mid new a k = record {
  among = subst (λ (z : Held _ _). Contains z.flow.queue m) a k.among;
  first = subst (λ (z : Held _ _). All (λ x. is_before x m ≡ false) z.flow.queue) a k.first;
  not_done = subst (λ (z : Held _ _). IsAscending message_order (messages_of z.done) → All (λ x. x ≢ m) (messages_of z.done)) a k.not_done;
  words = subst (λ (z : Held _ _). AddsRun m.receiver z.flow.words new.flow.words) a k.words;
}

module _ {S K : Type 0} (plain : Plain S Message Sends K) (V : S → Message → Type 0) (O : IsOrder message_order)
    (law : (s : S) (e : Message) → plain.before (plain.after s e) e (plain.saves s e) ≡ s) where
  pub stands-still : (h new : Held S K) → IsAsBefore h new → (x : Setting S) (v : World Message S) → StandsForSent (rules_of plain) V x v h [] → StandsForSent (rules_of plain) V x v new []
  stands-still h new a x v g =
      stands-kept (rules_of plain) O V law x v h new [] [] (ap (λ z. z.members) a) (ap (λ z. z.done) a) (ap (λ z. z.rows.all) a) (λ y. ap (λ z. times_in message_order y z.flow.queue) a)
      (ap (λ z. z.flow.extra) a) (ap (λ z. z.flow.tray) a) (λ q. ap (λ z. received_by message_order q (z.flow.abroad ++ [])) (sym a))
      (subst (λ z. All (λ l. is_ours h.members (message_order.receiver l.message) ≡ false) z.flow.abroad) (sym a) g.elsewhere) g

  pub still : (h new : Held S K) → IsAsBefore h new → DoesSent (rules_of plain) V h [] new []
  still h new a = record {
    did = [];
    block = ap (λ z. z.flow.words) a ∙ sym (append-nil h.flow.words);
    keeps = ap (λ z. z.flow.keeps) a;
    rows = ap (λ z. z.rows) a;
    stands = λ x L v g. (tt, stands-still h new a x v g, of_members-none h.members new.members (ap (λ z. z.members) a));
  }
