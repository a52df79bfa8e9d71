-- The receiver of a message that waits has done nothing later: so a late event stops at none of its receiver.
use Rattle.std.proofs.Common.{◌≡◌, ◌≢◌, ◌+◌, List, [], ◌∷◌, ◌++◌, Option, Some, None, true, false, reverse, length, slice_get, All, Contains, refl, ap, ◌∙◌, arith}
use Rattle.std.proofs.lemmas.Bool.{both_ways}
use Rattle.std.proofs.lemmas.List.{length-append, length-reverse}
use Rattle.vlink.specs.declared.message.Message.{Message}
use Rattle.vlink.specs.Order.{message_order}
use Rattle.virtual_time.specs.Law.{IsOrder, IsAscending, World, times_in}
use Rattle.virtual_time.proofs.Lists.{times-append}
use Rattle.reverse.specs.Plain.{Plain}
use Rattle.reverse.specs.Rules.{rules_of}
use Rattle.reverse.specs.Setting.{Setting}
use Rattle.reverse.specs.declared.sends.Sends.{Sends}
use Rattle.antimessages.specs.Counting.{is_after, newest_of}
use Rattle.group_queues.specs.DoneEvents.{DoneEvent, messages_of}
use Rattle.group_hand.specs.Handling.{HasLater, SetAside, StopsAt}
use Rattle.group_hand.specs.Hands.{Held, StandsForSent}
use Rattle.group_queues.proofs.Among.{contains-in, none-among}
use Rattle.group_queues.proofs.Shares.{messages-append}
use Rattle.group_hand.proofs.Member.{present-here, done-times}
use Rattle.group_queues.proofs.NewestDone.{newest-among}

module _ {K : Type 0} (O : IsOrder message_order) (m : Message) (done front aside : List (DoneEvent K)) (a : SetAside message_order m done front aside) where
  -- setting aside stopped at an event that does not come before m: that is of its receiver
  pub has-later : StopsAt message_order m front → is_after message_order (newest_of (messages_of front)) m ≡ false → HasLater message_order m done
  has-later stops not = go (newest_of (messages_of front)) refl not
    where
      go : (newest : Option Message) → newest_of (messages_of front) ≡ newest → is_after message_order newest m ≡ false → HasLater message_order m done
      go None e h = absurd (both_ways true h refl)
      go (Some y) e h = record {
        later = y;
        is_done =
            let i = newest-among O (messages_of front) y e in
            let w = ap (λ z. times_in message_order y (messages_of z)) a.was ∙ (ap (times_in message_order y) (messages-append front a.behind) ∙
            times-append message_order O y (messages_of front) (messages_of a.behind)) in
            omega arith;
        of_receiver = stops y e h;
        not_before = h;
      }

  -- one event more
  pub one-more : (later : List (DoneEvent K)) (d : DoneEvent K) → later ≡ (front ++ d ∷ []) ++ reverse aside → length later ≡ length done + 1
  one-more later d e =
      let x = ap length e in
      let y = length-append (front ++ d ∷ []) (reverse aside) in
      let z = length-append front (d ∷ []) in
      let u = length-reverse aside in
      let v = ap length a.is_aside ∙ length-reverse a.behind in
      let w = ap length a.was ∙ length-append front a.behind in
      omega arith

module _ {S K : Type 0} (plain : Plain S Message Sends K) (V : S → Message → Type 0) (O : IsOrder message_order) (x : Setting S) (v : World Message S) where
  pub not-later : (h : Held S K) (m : Message) (s : S) → StandsForSent (rules_of plain) V x v h [] → slice_get h.members m.receiver ≡ Some (Some s) → Contains h.flow.queue m →
      (IsAscending message_order (messages_of h.done) → All (λ y. y ≢ m) (messages_of h.done)) → HasLater message_order m h.done → ⊥
  not-later h m s g at there not_done l =
      let r = rules_of plain in
      let k = g.members m.receiver s at in
      let part = v.parts m.receiver in
      let waits = contains-in O h.flow.queue m there in
      let both = times-append message_order O m h.flow.queue (messages_of h.done) in
      let present = present-here r O V (x.opening m.receiver) m.receiver part s h g.beside k m refl (omega arith) in
      let none = done-times r O V (x.opening m.receiver) m.receiver part s h g.beside k m refl ∙ none-among O (messages_of h.done) m (not_done g.ascending) in
      let again = done-times r O V (x.opening m.receiver) m.receiver part s h g.beside k l.later l.of_receiver in
      let i = l.is_done in
      both_ways _ l.not_before (k.well.done_first m present none l.later (omega arith))
