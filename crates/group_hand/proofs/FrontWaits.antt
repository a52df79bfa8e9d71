-- Messages at the front of the queue that are done already count beside, until the first one waits.
use Rattle.std.proofs.Common.{◌≡◌, ◌≢◌, false, Option, Some, IfSome, List, [], All, Contains, refl, sym, ap, ◌∙◌, subst, arith}
use Rattle.vlink.specs.declared.message.Message.{Message}
use Rattle.vlink.specs.declared.note.Note.{Note}
use Rattle.vlink.specs.Order.{message_order}
use Rattle.virtual_time.specs.Law.{Rules, IsOrder, World, least, times_in}
use Rattle.virtual_time.proofs.Least.{least-from}
use Rattle.reverse.specs.Plain.{Plain}
use Rattle.reverse.specs.Rules.{is_before, rules_of}
use Rattle.reverse.specs.Setting.{Setting}
use Rattle.reverse.specs.declared.sends.Sends.{Sends}
use Rattle.reverse.proofs.Members.{in-all}
use Rattle.group_queues.specs.DoneEvents.{DoneEvent, messages_of}
use Rattle.group_queues.specs.Flow.{Flow}
use Rattle.group_hand.specs.Handling.{CountsAgain}
use Rattle.group_hand.specs.Hands.{Held, FirstWaits, IsAsBefore, StandsForGroup}
use Rattle.group_hand.specs.Passing.{held}
use Rattle.group_queues.specs.Rows.{Sealed}
use Rattle.group_queues.proofs.Among.{contains-in, none-among}
use Rattle.group_hand.proofs.CountsAgain.{stands-again}
use Rattle.group_hand.proofs.Still.{stands-still}

-- the first message as code finds it
pub first-least : IsOrder message_order → (m : Message) (queue : List Message) → Contains queue m → All (λ x. is_before x m ≡ false) queue → least message_order queue ≡ Some m
first-least O m queue c a =
    least-from message_order O queue m (record { inside = contains-in O queue m c; lowest = λ y i. in-all message_order O (λ x. is_before x m ≡ false) y queue a i })

-- it is none of the done events
pub front-waits : {S K : Type 0} → IsOrder message_order → (h : Held S K) (m : Message) → least message_order h.flow.queue ≡ Some m → All (λ x. x ≢ m) (messages_of h.done) → FirstWaits message_order h
front-waits O h m e a = subst (λ o. IfSome o (λ y. times_in message_order y (messages_of h.done) ≡ 0)) (sym e) (none-among O (messages_of h.done) m a)

-- so a done message is not the first
pub not-waiting : {S K : Type 0} → IsOrder message_order → (h : Held S K) (m : Message) → Contains h.flow.queue m → All (λ x. is_before x m ≡ false) h.flow.queue → Contains (messages_of h.done) m →
    FirstWaits message_order h → ⊥
not-waiting O h m c a there w =
    let e = first-least O m h.flow.queue c a in
    let i = contains-in O (messages_of h.done) m there in
    let z = subst (λ o. IfSome o (λ y. times_in message_order y (messages_of h.done) ≡ 0)) e w in
    omega arith

-- there is none
pub nothing-waits : {S K : Type 0} (h : Held S K) → h.flow.queue ≡ [] → FirstWaits message_order h
nothing-waits h e = subst (λ q. IfSome (least message_order q) (λ y. times_in message_order y (messages_of h.done) ≡ 0)) (sym e) tt

-- messages of the queue count beside, and nothing else changed but for how much more there is room
pub record CountedBeside {S K : Type 0} (r : Rules Message S K Note) (V : S → Message → Type 0) (old new : Held S K) : Type 0 where
  pub stands : (x : Setting S) (v : World Message S) → StandsForGroup r V x v old → StandsForGroup r V x v new
  pub others : new ≡ record old { flow = record old.flow { queue = new.flow.queue; extra = new.flow.extra; room = new.flow.room } }

module _ {S K : Type 0} (r : Rules Message S K Note) (V : S → Message → Type 0) where
  pub counted-none : (h : Held S K) → CountedBeside r V h h
  counted-none h = record { stands = λ x v g. g; others = refl }

  pub counted-both : (h mid new : Held S K) → CountedBeside r V h mid → CountedBeside r V mid new → CountedBeside r V h new
  counted-both h mid new a b = record {
    stands = λ x v g. b.stands x v (a.stands x v g);
    others = b.others ∙ (λ j. record (a.others j) { flow = record (a.others j).flow { queue = new.flow.queue; extra = new.flow.extra; room = new.flow.room } });
  }

  -- one message, which is done already
  pub counted-again : IsOrder r.order → (members : List (Option S)) (done : List (DoneEvent K)) (rows : Sealed) (m : Message) (old new : Flow) → CountsAgain r.order m done old new →
      new ≡ record old { queue = new.queue; extra = new.extra; room = new.room } → CountedBeside r V (held members done rows old) (held members done rows new)
  counted-again O members done rows m old new a e = record {
    stands = λ x v g. stands-again r O V members done rows m old new a x v [] g;
    others = λ j. held members done rows (e j);
  }

-- nothing changed but room
pub counted-as : {S K : Type 0} (plain : Plain S Message Sends K) (V : S → Message → Type 0) → IsOrder message_order →
    ((s : S) (e : Message) → plain.before (plain.after s e) e (plain.saves s e) ≡ s) → (old new : Held S K) → IsAsBefore old new → CountedBeside (rules_of plain) V old new
counted-as plain V O law old new a = record {
  stands = stands-still plain V O law old new a;
  others = a ∙ (λ j. record old { flow = record old.flow { queue = (ap (λ z. z.flow.queue) (sym a)) j; extra = (ap (λ z. z.flow.extra) (sym a)) j; room = new.flow.room } });
}
