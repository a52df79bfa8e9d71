use Rattle.std.proofs.Common.{◌≡◌, false, List, [], ◌∷◌, ◌++◌, length, subst, sym, ap, ◌∙◌, eqb-true, arith, length-append, rules}
use Rattle.std.proofs.lemmas.Bool.{both_ways}
use Rattle.vlink.specs.declared.message.Message.{Message}
use Rattle.vlink.specs.Order.{message_order}
use Rattle.antimessages.specs.Counting.{is_after, newest_of}
use Rattle.group_queues.specs.DoneEvents.{DoneEvent, messages_of, HasRoomFor}
use Rattle.group_hand.specs.Handling.{SetAside}
use Rattle.group_queues.proofs.Shares.{messages-append}
use Rattle.group_hand.proofs.LateEvent.{aside-more}
use Rattle.group_queues.proofs.NewestDone.{newest-last}
use Rattle.group_hand.proofs.Rooms.{room-behind}
use Rattle.group_hand.proofs.out_of_order.set_newest_aside.Goals.{then-is_before-via-then-is_before, then-is_before-via-else-is_before+then-newest_is_for}
use Rattle.group_hand.proofs.out_of_order.set_newest_aside.Goals as goal

late-newest : {K : Type 0} (ds front : List (DoneEvent K)) (d : DoneEvent K) (m : Message) → ds ≡ front ++ d ∷ [] → is_after message_order (newest_of (messages_of ds)) m ≡ false →
    message_order.less d.message m ≡ false
late-newest ds front d m e h =
    sym (ap (λ z. is_after message_order z m) (ap (λ z. newest_of (messages_of z)) e ∙ (ap newest_of (messages-append front (d ∷ [])) ∙ newest-last (messages_of front) d.message))) ∙ h

pub returns-clause-aside : goal.returns-clause-aside
returns-clause-aside g c = λ all a.
    let m = c.args.message.now in
    let d = c.move_newest.ensures.moved.0 in
    let was = c.move_newest.ensures.moved.1 in
    let now = c.move_newest.ensures.moved.2 in
    let left = c.move_newest.new.self.events in
    subst (λ z. SetAside message_order m all left z) (sym now)
    (aside-more message_order m all left c.args.aside.now.events d
    (late-newest c.args.done.now.events left d m was (search rules)) (search rules)
    (subst (λ z. SetAside message_order m all z c.args.aside.now.events) was a))

pub returns-clause-again : goal.returns-clause-again
returns-clause-again g c = λ more h.
    let d = c.move_newest.ensures.moved.0 in
    let now = c.move_newest.ensures.moved.2 in
    let aside = c.args.aside.now.events in
    subst (λ z. HasRoomFor (more ++ z) c.move_newest.new.self) (sym now) (room-behind more aside d c.move_newest.new.self (c.move_newest.ensures.moved.3 (more ++ aside) h))

pub returns-then-is_before-clause-stops : goal.returns-then-is_before-clause-stops
returns-then-is_before-clause-stops g c = λ _ y e h. elim c.then-is_before.branch [
  | then-is_before-via-then-is_before w ↦ absurd (both_ways (message_order.less y c.args.message.now) h
      (sym (ap (λ z. is_after message_order z c.args.message.now) e) ∙ sym w.if-is_before.ensures))
  | then-is_before-via-else-is_before+then-newest_is_for w ↦ eqb-true _ _ (sym (w.if-newest_is_for.ensures.newest y e))
]

-- nothing was set aside
pub returns-then-is_before-clause-aside : goal.returns-then-is_before-clause-aside
returns-then-is_before-clause-aside g c = λ all a. a

pub returns-then-is_before-clause-space : goal.returns-then-is_before-clause-space
returns-then-is_before-clause-space g c = c.requires.space

pub returns-then-is_before-clause-again : goal.returns-then-is_before-clause-again
returns-then-is_before-clause-again g c = λ more h. h

pub returns-clause-space : goal.returns-clause-space
returns-clause-space g c = c.move_newest.ensures.room

pub returns-clause-fewer : goal.returns-clause-fewer
returns-clause-fewer g c = λ _.
    let d = c.move_newest.ensures.moved in let a = ap length d.1 ∙ length-append c.move_newest.new.self.events (d.0 ∷ []) in omega arith
