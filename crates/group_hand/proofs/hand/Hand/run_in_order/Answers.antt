use Rattle.std.proofs.Common.{◌≡◌, ℕ, ◌≤◌, List, [], ◌∷◌, ◌++◌, Some, Result, Ok, Err, false, All, Contains, slice_get, subst, sym, ap, ◌∙◌, refl, rules, arith}
use Rattle.std.proofs.lemmas.List.{with_items_is}
use Rattle.std.proofs.lemmas.List.Elements.{All-weaker, All-nil}
use Rattle.vlink.specs.declared.message.Message.{Message}
use Rattle.vlink.specs.Order.{message_order}
use Rattle.virtual_time.specs.Law.{IsOrder}
use Rattle.virtual_time.proofs.Order.{not_less-time}
use Rattle.reverse.specs.Rules.{is_before, rules_of}
use Rattle.reverse.specs.declared.sends.TheConstants.{MOST_SENT}
use Rattle.group_hand.specs.Answered.{RunsInOrder}
use Rattle.group_hand.specs.Becoming.{Becomes}
use Rattle.group_queues.specs.DoneEvents.{messages_of}
use Rattle.group_hand.specs.Hands.{DoesSent, Held, IsAsBefore}
use Rattle.group_hand.specs.Passing.{held}
use Rattle.group_hand.specs.declared.in_order.InOrder.TheVariants.{Ran, Idle, Late}
use Rattle.group_hand.specs.declared.in_order.InOrder.{InOrder}
use Rattle.group_hand.specs.declared.fault.HandFault.{HandFault}
use Rattle.group_hand.specs.declared.fault.HandFault.TheVariants.{Exhausted, OutOfMemory}
use Rattle.group_hand.proofs.Adding.{adds-run-again}
use Rattle.group_queues.proofs.NewestDone.{after-none}
use Rattle.group_hand.proofs.Still.{as-roomy, none-back, put-back, roomy-both, still, took-first}
use Rattle.group_hand.proofs.Telling.{does-both}
use Rattle.group_hand.proofs.Came.{came-alike}
use Rattle.group_hand.proofs.Rooms.{room-still, some-room}
use Rattle.group_hand.proofs.hand.Hand.run_in_order.Given.{Over}
use Rattle.group_hand.proofs.hand.Hand.run_in_order.Goals.{After-in_order_of-outcome, After-make_room, After-pop, After-wait_again, In-Some}
use Rattle.group_hand.proofs.hand.Hand.run_in_order.Goals as goal

-- where the first message is not earlier than the limit, none is
all-late : IsOrder message_order → (limit : ℕ) (m : Message) (queue : List Message) → All (λ x. is_before x m ≡ false) queue → limit ≤ m.time → All (λ x. limit ≤ x.time) queue
all-late O limit m queue first late =
    All-weaker (λ x. is_before x m ≡ false) (λ x. limit ≤ x.time) (λ x b. let e = not_less-time message_order O x m b in omega (arith, late)) queue first

-- after room was made
roomy : (g : Over) (c : After-make_room g) → IsAsBefore c.args.self.now (held c.self.inside.members.items c.make_room.new.done.events c.self.inside.rows c.make_room.new.letters)
roomy g c =
    as-roomy c.args.self.now c.self.inside.members.items c.self.inside.done.events c.make_room.new.done.events c.self.inside.rows c.self.inside.letters c.make_room.new.letters
    c.self.view_is c.make_room.ensures.done c.make_room.ensures.letters

-- there was no message
empty : (g : Over) (c : After-pop g) → c.make_room.new.letters.queue ≡ [] → c.pop.new.self.queue ≡ [] → IsAsBefore c.args.self.now (held c.self.inside.members.items c.make_room.new.done.events c.self.inside.rows c.pop.new.self)
empty g c was is =
    as-roomy c.args.self.now c.self.inside.members.items c.self.inside.done.events c.make_room.new.done.events c.self.inside.rows c.self.inside.letters c.pop.new.self c.self.view_is c.make_room.ensures.done
    (roomy-both c.self.inside.letters c.make_room.new.letters c.pop.new.self c.make_room.ensures.letters
    (none-back c.make_room.new.letters c.pop.new.self was is c.pop.ensures.others))

pub returns-in_default-clause-did : goal.returns-in_default-clause-did
returns-in_default-clause-did g c =
    still g.R.Reversible.plain g.R.Reversible.is_value c.actor_rules_law.ensures.order c.actor_rules_law.ensures.undoes c.args.self.now
    (held c.self.inside.members.items c.make_room.new.done.events c.self.inside.rows c.make_room.new.letters) (roomy g (goal.at.returns-in_default-clause-did g c).After-make_room)

pub returns-in_default-pop-clause-did : goal.returns-in_default-pop-clause-did
returns-in_default-pop-clause-did g c =
    still g.R.Reversible.plain g.R.Reversible.is_value c.actor_rules_law.ensures.order c.actor_rules_law.ensures.undoes c.args.self.now
    (held c.self.inside.members.items c.make_room.new.done.events c.self.inside.rows c.pop.new.self) (empty g (goal.at.returns-in_default-pop-clause-did g c).After-pop c.in_default-pop.ensures.none c.in_default-pop.ensures.empty)

-- the first message waits again
back : (g : Over) (c : After-wait_again g) → IsAsBefore c.args.self.now (held c.self.inside.members.items c.make_room.new.done.events c.self.inside.rows c.wait_again.new.self)
back g c =
    as-roomy c.args.self.now c.self.inside.members.items c.self.inside.done.events c.make_room.new.done.events c.self.inside.rows c.self.inside.letters c.wait_again.new.self c.self.view_is c.make_room.ensures.done
    (roomy-both c.self.inside.letters c.make_room.new.letters c.wait_again.new.self c.make_room.ensures.letters
    (put-back c.make_room.new.letters c.pop.new.self c.wait_again.new.self c.in-Some.message c.in-Some.ensures.taken c.wait_again.ensures.placed c.wait_again.ensures.others))

-- it is the first of the queue
first : (g : Over) (c : In-Some g) → Contains c.args.self.now.flow.queue c.in-Some.message × All (λ x. is_before x c.in-Some.message ≡ false) c.args.self.now.flow.queue
first g c =
    subst (λ (q : List Message). Contains q c.in-Some.message × All (λ x. is_before x c.in-Some.message ≡ false) q)
    (ap (λ z. z.queue) c.make_room.ensures.letters ∙ ap (λ h. h.flow.queue) c.self.view_is)
    (took-first c.in-Some.message c.make_room.new.letters c.pop.new.self c.in-Some.ensures.taken)

pub returns-in_default-outcome-clause-did : goal.returns-in_default-outcome-clause-did
returns-in_default-outcome-clause-did g c =
    still g.R.Reversible.plain g.R.Reversible.is_value c.actor_rules_law.ensures.order c.actor_rules_law.ensures.undoes c.args.self.now
    (held c.self.inside.members.items c.make_room.new.done.events c.self.inside.rows c.wait_again.new.self) (back g (goal.at.returns-in_default-outcome-clause-did g c).After-wait_again)

pub returns-in-Ok-Ran-clause-did : goal.returns-in-Ok-Ran-clause-did
returns-in-Ok-Ran-clause-did g c =
    let r = rules_of g.R.Reversible.plain in
    let V = g.R.Reversible.is_value in
    let rows = c.self.inside.rows in
    let mid = held c.self.inside.members.items c.make_room.new.done.events rows c.make_room.new.letters in
    let new = held c.handle_in_order.new.members c.handle_in_order.new.done.events rows c.handle_in_order.new.letters in
    subst (λ ms. DoesSent r V c.args.self.now [] (held ms c.handle_in_order.new.done.events rows c.handle_in_order.new.letters) [])
    (sym (with_items_is c.self.inside.members c.handle_in_order.new.members (c.handle_in_order.ensures.len ∙ c.deref_mut.ensures.len)))
    (does-both r V c.args.self.now mid new [] [] []
    (still g.R.Reversible.plain V c.actor_rules_law.ensures.order c.actor_rules_law.ensures.undoes c.args.self.now mid (roomy g (goal.at.returns-in-Ok-Ran-clause-did g c).After-make_room))
    (subst (λ ms. DoesSent r V (held ms c.make_room.new.done.events rows c.make_room.new.letters) [] new []) c.deref_mut.ensures.value
    (c.handle_in_order.ensures.did rows c.make_room.new.letters c.in-Some.ensures.taken)))

third : {A B C : Type 0} → A × B × C → C
third x = x.2

pub handle_in_order-requires-clause-early : goal.handle_in_order-requires-clause-early
handle_in_order-requires-clause-early g c =
    let e : c.in_order_of-outcome.result ≡ Ok Ran = search rules in
    let b = rw e at c.in_order_of-outcome.ensures in
    b.1

pub handle_in_order-requires-clause-able : goal.handle_in_order-requires-clause-able
handle_in_order-requires-clause-able g c =
    let e : c.in_order_of-outcome.result ≡ Ok Ran = search rules in
    let a = third (rw e at c.in_order_of-outcome.ensures) in
    (a.0, subst (λ ms. slice_get ms c.in-Some.message.receiver ≡ Some (Some a.0)) (c.deref.ensures.value ∙ sym c.deref_mut.ensures.value) a.1, a.2)

-- what holds of the group is kept
pub invariant_of-self : goal.invariant_of-self
invariant_of-self g c = (
  came-alike (rules_of g.R.Reversible.plain) g.R.Reversible.is_value c.self.inside.members.items _ c.self.inside.done.events _ refl c.make_room.ensures.done c.self.invariant.0,
  c.self.invariant.1,
  c.self.invariant.2,
)

pub invariant_of-self-in_default-pop : goal.invariant_of-self-in_default-pop
invariant_of-self-in_default-pop g c = (
  came-alike (rules_of g.R.Reversible.plain) g.R.Reversible.is_value c.self.inside.members.items _ c.self.inside.done.events _ refl c.make_room.ensures.done c.self.invariant.0,
  c.self.invariant.1,
  c.self.invariant.2,
)

pub invariant_of-self-in_default-outcome : goal.invariant_of-self-in_default-outcome
invariant_of-self-in_default-outcome g c = (
  came-alike (rules_of g.R.Reversible.plain) g.R.Reversible.is_value c.self.inside.members.items _ c.self.inside.done.events _ refl c.make_room.ensures.done c.self.invariant.0,
  c.self.invariant.1,
  c.self.invariant.2,
)

pub invariant_of-self-in-Ran-1 : goal.invariant_of-self-in-Ran-1
invariant_of-self-in-Ran-1 g c = (
  came-alike (rules_of g.R.Reversible.plain) g.R.Reversible.is_value c.handle_in_order.new.members _ c.handle_in_order.new.done.events _
      (with_items_is c.self.inside.members c.handle_in_order.new.members (c.handle_in_order.ensures.len ∙ c.deref_mut.ensures.len)) refl
      (c.handle_in_order.ensures.came
      (came-alike (rules_of g.R.Reversible.plain) g.R.Reversible.is_value c.self.inside.members.items _ c.self.inside.done.events _ c.deref_mut.ensures.value c.make_room.ensures.done c.self.invariant.0)),
  c.self.invariant.1,
  c.self.invariant.2,
)

pub handle_in_order-requires-clause-events : goal.handle_in_order-requires-clause-events
handle_in_order-requires-clause-events g c = c.in-Ok.ensures.events

pub handle_in_order-requires-clause-sends : goal.handle_in_order-requires-clause-sends
handle_in_order-requires-clause-sends g c = c.in-Ok.ensures.sends

pub handle_in_order-requires-clause-rows : goal.handle_in_order-requires-clause-rows
handle_in_order-requires-clause-rows g c = c.in-Ok.ensures.rows

pub handle_in_order-requires-clause-room : goal.handle_in_order-requires-clause-room
handle_in_order-requires-clause-room g c = room-still _ _ _ c.in-Ok.ensures.room c.pop.ensures.room

pub wait_again-requires : goal.wait_again-requires
wait_again-requires g c = some-room MOST_SENT _ _ c.in-Ok.ensures.room c.pop.ensures.room

-- what is told of the first message where it waits again
told-back : {S K : Type 0} → IsOrder message_order → (counter : S → ℕ) (limit : ℕ) (h new : Held S K) (m : Message) → IsAsBefore h new → Contains h.flow.queue m × All (λ x. is_before x m ≡ false) h.flow.queue →
    (told : Result InOrder HandFault) → (told ≡ Ok Ran → ⊥) → Becomes counter h.members h.done m limit told → RunsInOrder counter limit h new told
told-back O counter limit h new m a k (Ok Ran) other b = absurd (other refl)
told-back O counter limit h new m a k (Ok Idle) other b = (a, all-late O limit m h.flow.queue k.1 b)
told-back O counter limit h new m a k (Ok Late) other b = (a, (m, k.0, k.1, b.0, b.1))
told-back O counter limit h new m a k (Err OutOfMemory) other b = (a, λ e. (m, k.0, b.1))
told-back O counter limit h new m a k (Err Exhausted) other b = ((a, (m, k.0, k.1, (λ up. after-none O m (messages_of h.done) up b.2), b.3)), λ e. (m, k.0, b.1))

-- the result for it, as the group is seen
becomes : (g : Over) (c : After-in_order_of-outcome g) →
    Becomes (λ s. g.R.Reversible.plain.counter s) c.args.self.now.members c.args.self.now.done c.in-Some.message c.args.limit c.in_order_of-outcome.result
becomes g c =
    subst (λ ms. Becomes (λ s. g.R.Reversible.plain.counter s) ms c.args.self.now.done c.in-Some.message c.args.limit c.in_order_of-outcome.result) (c.deref.ensures.value ∙ ap (λ h. h.members) c.self.view_is)
    (subst (λ ds. Becomes (λ s. g.R.Reversible.plain.counter s) c.deref.result.now ds c.in-Some.message c.args.limit c.in_order_of-outcome.result) (c.make_room.ensures.done ∙ ap (λ h. h.done) c.self.view_is)
    c.in_order_of-outcome.ensures)

pub returns-in_default-clause-told : goal.returns-in_default-clause-told
returns-in_default-clause-told g c = (roomy g (goal.at.returns-in_default-clause-told g c).After-make_room, λ e. absurd (let bad : OutOfMemory ≡ Exhausted = e in cc))

pub returns-in_default-pop-clause-told : goal.returns-in_default-pop-clause-told
returns-in_default-pop-clause-told g c =
    let none = sym c.in_default-pop.ensures.none ∙ (ap (λ z. z.queue) c.make_room.ensures.letters ∙ ap (λ h. h.flow.queue) c.self.view_is) in (
      empty g (goal.at.returns-in_default-pop-clause-told g c).After-pop c.in_default-pop.ensures.none c.in_default-pop.ensures.empty,
      subst (λ (q : List Message). All (λ m. c.args.limit ≤ m.time) q) none (All-nil (λ (m : Message). c.args.limit ≤ m.time)),
    )

pub returns-in_default-outcome-clause-told : goal.returns-in_default-outcome-clause-told
returns-in_default-outcome-clause-told g c =
    let at = goal.at.returns-in_default-outcome-clause-told g c in
    told-back c.actor_rules_law.ensures.order (λ s. g.R.Reversible.plain.counter s) c.args.limit c.args.self.now _ c.in-Some.message (back g at.After-wait_again) (first g at.In-Some)
    c.in_order_of-outcome.result (search rules) (becomes g at.After-in_order_of-outcome)

-- the first message, which is not done, was handled
pub returns-in-Ok-Ran-clause-told : goal.returns-in-Ok-Ran-clause-told
returns-in-Ok-Ran-clause-told g c =
    let here = goal.at.returns-in-Ok-Ran-clause-told g c in
    let k = first g here.In-Some in
    let is : c.in_order_of-outcome.result ≡ Ok Ran = search rules in
    let b = rw is at (becomes g here.After-in_order_of-outcome) in
    let d = c.handle_in_order.ensures.done in
    let words = ap (λ z. z.words) c.in-Some.ensures.taken.others ∙ (ap (λ z. z.words) c.make_room.ensures.letters ∙ ap (λ h. h.flow.words) c.self.view_is) in (
      c.in-Some.message,
      b.0,
      record {
        among = k.0;
        first = k.1;
        not_done = λ up. after-none c.actor_rules_law.ensures.order c.in-Some.message (messages_of c.args.self.now.done) up b.1;
        words = adds-run-again c.in-Some.message.receiver c.args.self.now.flow.words c.pop.new.self.words c.handle_in_order.new.letters.words words c.handle_in_order.ensures.words;
      },
      (d.0, d.2, d.1 ∙ ap (λ z. z ++ d.0 ∷ []) (c.make_room.ensures.done ∙ ap (λ h. h.done) c.self.view_is)),
    )
