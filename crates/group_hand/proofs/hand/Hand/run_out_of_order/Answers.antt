use Rattle.std.proofs.Common.{ℕ, ◌≡◌, ◌≢◌, ◌+◌, [], ◌∷◌, List, Some, inl, inr, false, All, Contains, IsPermutation, length, slice_get, subst, sym, ap, ◌∙◌, refl, rules}
use Rattle.std.proofs.lemmas.List.{with_items_is}
use Rattle.vlink.specs.declared.message.Message.{Message}
use Rattle.vlink.specs.Order.{message_order}
use Rattle.virtual_time.specs.Law.{IsAscending}
use Rattle.reverse.specs.Rules.{rules_of, is_before}
use Rattle.group_hand.specs.Answered.{RunsOutOfOrder}
use Rattle.group_queues.specs.DoneEvents.{messages_of}
use Rattle.group_queues.specs.Flow.{Flow}
use Rattle.group_hand.specs.Handling.{HasLater}
use Rattle.group_hand.specs.Hands.{DoesSent, IsAsBefore}
use Rattle.group_hand.specs.Passing.{held}
use Rattle.group_hand.specs.Undoing.{CameTo}
use Rattle.group_hand.proofs.Adding.{adds-run-again}
use Rattle.group_queues.proofs.Among.{contains-in}
use Rattle.group_hand.proofs.CountsAgain.{counts-again}
use Rattle.group_hand.proofs.FrontWaits.{not-waiting}
use Rattle.group_hand.proofs.NotLater.{not-later}
use Rattle.group_hand.proofs.Telling.{does-both}
use Rattle.group_hand.proofs.Still.{as-roomy, roomy-both, still}
use Rattle.group_hand.proofs.Came.{came-alike}
use Rattle.group_hand.proofs.hand.Hand.run_out_of_order.Given.{Over}
use Rattle.group_hand.proofs.hand.Hand.run_out_of_order.Goals.{After-first, After-make_late_room, In-Some, in-Ok, in-Err}
use Rattle.group_hand.proofs.hand.Hand.run_out_of_order.Goals as goal

-- after a look at the first message
as-looked : (g : Over) (c : After-first g) → IsAsBefore c.args.self.now (held c.self.inside.members.items c.self.inside.done.events c.self.inside.rows c.first.new.self)
as-looked g c =
    as-roomy c.args.self.now c.self.inside.members.items c.self.inside.done.events c.self.inside.done.events c.self.inside.rows c.self.inside.letters c.first.new.self c.self.view_is refl c.first.ensures.unchanged

-- the first message is still the first
ahead : (g : Over) (c : In-Some g) → Contains c.first.new.self.queue c.in-Some.message × All (λ x. is_before x c.in-Some.message ≡ false) c.first.new.self.queue
ahead g c =
    subst (λ (z : Flow). Contains z.queue c.in-Some.message × All (λ x. is_before x c.in-Some.message ≡ false) z.queue) (sym c.first.ensures.unchanged)
    (c.in-Some.ensures.among, c.in-Some.ensures.first)

looked : (g : Over) (c : After-first g) → DoesSent (rules_of g.R.Reversible.plain) g.R.Reversible.is_value c.args.self.now []
    (held c.self.inside.members.items c.self.inside.done.events c.self.inside.rows c.first.new.self) []
looked g c =
    still g.R.Reversible.plain g.R.Reversible.is_value c.actor_rules_law.ensures.order c.actor_rules_law.ensures.undoes c.args.self.now
    (held c.self.inside.members.items c.self.inside.done.events c.self.inside.rows c.first.new.self)
    (as-looked g c)

pub count_again-requires-clause-among : goal.count_again-requires-clause-among
count_again-requires-clause-among g c = (ahead g (goal.at.count_again-requires-clause-among g c).In-Some).0

pub count_again-requires-clause-first : goal.count_again-requires-clause-first
count_again-requires-clause-first g c = (ahead g (goal.at.count_again-requires-clause-first g c).In-Some).1

pub returns-then-not-has_numbers-clause-did : goal.returns-then-not-has_numbers-clause-did
returns-then-not-has_numbers-clause-did g c = looked g (goal.at.returns-then-not-has_numbers-clause-did g c).After-first

-- after room was made
as-it-was : (g : Over) (c : After-make_late_room g) → IsAsBefore c.args.self.now (held c.self.inside.members.items c.make_late_room.new.done.events c.self.inside.rows c.make_late_room.new.letters)
as-it-was g c =
    as-roomy c.args.self.now c.self.inside.members.items c.self.inside.done.events c.make_late_room.new.done.events c.self.inside.rows c.self.inside.letters c.make_late_room.new.letters
    c.self.view_is c.make_late_room.ensures.done (roomy-both c.self.inside.letters c.first.new.self c.make_late_room.new.letters c.first.ensures.unchanged c.make_late_room.ensures.letters)

roomy : (g : Over) (c : After-make_late_room g) → DoesSent (rules_of g.R.Reversible.plain) g.R.Reversible.is_value c.args.self.now []
    (held c.self.inside.members.items c.make_late_room.new.done.events c.self.inside.rows c.make_late_room.new.letters) []
roomy g c =
    still g.R.Reversible.plain g.R.Reversible.is_value c.actor_rules_law.ensures.order c.actor_rules_law.ensures.undoes c.args.self.now
    (held c.self.inside.members.items c.make_late_room.new.done.events c.self.inside.rows c.make_late_room.new.letters) (as-it-was g c)

pub returns-in_default-make_late_room-clause-did : goal.returns-in_default-make_late_room-clause-did
returns-in_default-make_late_room-clause-did g c = roomy g (goal.at.returns-in_default-make_late_room-clause-did g c).After-make_late_room

pub handle_out_of_order-requires-clause-among : goal.handle_out_of_order-requires-clause-among
handle_out_of_order-requires-clause-among g c =
    subst (λ (xs : List Message). Contains xs c.in-Some.message) (sym (ap (λ z. z.queue) c.make_late_room.ensures.letters))
    (ahead g (goal.at.handle_out_of_order-requires-clause-among g c).In-Some).0

pub handle_out_of_order-requires-clause-first : goal.handle_out_of_order-requires-clause-first
handle_out_of_order-requires-clause-first g c =
    subst (λ (xs : List Message). All (λ x. is_before x c.in-Some.message ≡ false) xs) (sym (ap (λ z. z.queue) c.make_late_room.ensures.letters))
    (ahead g (goal.at.handle_out_of_order-requires-clause-first g c).In-Some).1

pub returns-clause-did : goal.returns-clause-did
returns-clause-did g c =
    let r = rules_of g.R.Reversible.plain in
    let V = g.R.Reversible.is_value in
    let rows = c.self.inside.rows in
    subst (λ ms. DoesSent r V c.args.self.now [] (held ms c.handle_out_of_order.new.done.events rows c.handle_out_of_order.new.letters) [])
    (sym (with_items_is c.self.inside.members c.handle_out_of_order.new.members (c.handle_out_of_order.ensures.len ∙ c.deref_mut.ensures.len)))
    (does-both r V c.args.self.now (held c.self.inside.members.items c.make_late_room.new.done.events rows c.make_late_room.new.letters) (held c.handle_out_of_order.new.members c.handle_out_of_order.new.done.events rows c.handle_out_of_order.new.letters)
    [] [] [] (roomy g (goal.at.returns-clause-did g c).After-make_late_room)
    (subst (λ ms. DoesSent r V (held ms c.make_late_room.new.done.events rows c.make_late_room.new.letters) [] (held c.handle_out_of_order.new.members c.handle_out_of_order.new.done.events rows c.handle_out_of_order.new.letters) [])
    c.deref_mut.ensures.value (c.handle_out_of_order.ensures.did rows)))

pub invariant_of-self-2 : goal.invariant_of-self-2
invariant_of-self-2 g c = (
  subst (λ ms. (p : ℕ) → CameTo (rules_of g.R.Reversible.plain) g.R.Reversible.is_value ms c.handle_out_of_order.new.done.events p)
      (sym (with_items_is c.self.inside.members c.handle_out_of_order.new.members (c.handle_out_of_order.ensures.len ∙ c.deref_mut.ensures.len))) c.handle_out_of_order.ensures.came,
  c.handle_out_of_order.ensures.empty,
  c.self.invariant.2,
)

-- the first of the queue, as it was
first : (g : Over) (c : In-Some g) → Contains c.args.self.now.flow.queue c.in-Some.message × All (λ x. is_before x c.in-Some.message ≡ false) c.args.self.now.flow.queue
first g c =
    subst (λ (q : List Message). Contains q c.in-Some.message × All (λ x. is_before x c.in-Some.message ≡ false) q) (ap (λ h. h.flow.queue) c.self.view_is)
    (c.in-Some.ensures.among, c.in-Some.ensures.first)

pub handle_out_of_order-requires-clause-able : goal.handle_out_of_order-requires-clause-able
handle_out_of_order-requires-clause-able g c =
    let a = c.if-not-has_numbers.ensures.yes refl in
    (a.0, subst (λ ms. slice_get ms c.in-Some.message.receiver ≡ Some (Some a.0)) (c.deref.ensures.value ∙ sym c.deref_mut.ensures.value) a.1, a.2)

pub handle_out_of_order-requires-clause-not_done : goal.handle_out_of_order-requires-clause-not_done
handle_out_of_order-requires-clause-not_done g c =
    subst (λ ds. IsAscending message_order (messages_of ds) → All (λ x. x ≢ c.in-Some.message) (messages_of ds)) (sym c.make_late_room.ensures.done) (c.if-has.ensures.no refl)

pub handle_out_of_order-requires-clause-came : goal.handle_out_of_order-requires-clause-came
handle_out_of_order-requires-clause-came g c =
    came-alike (rules_of g.R.Reversible.plain) g.R.Reversible.is_value c.self.inside.members.items _ c.self.inside.done.events _ c.deref_mut.ensures.value c.make_late_room.ensures.done c.self.invariant.0

pub handle_out_of_order-requires-clause-empty : goal.handle_out_of_order-requires-clause-empty
handle_out_of_order-requires-clause-empty g c = c.make_late_room.ensures.aside ∙ c.self.invariant.1

-- what holds of the group is kept
pub invariant_of-self : goal.invariant_of-self
invariant_of-self g c = (c.self.invariant.0, c.self.invariant.1, c.self.invariant.2)

pub invariant_of-self-then-not-has_numbers : goal.invariant_of-self-then-not-has_numbers
invariant_of-self-then-not-has_numbers g c = (c.self.invariant.0, c.self.invariant.1, c.self.invariant.2)

pub invariant_of-self-in_default-make_late_room : goal.invariant_of-self-in_default-make_late_room
invariant_of-self-in_default-make_late_room g c = (
  came-alike (rules_of g.R.Reversible.plain) g.R.Reversible.is_value c.self.inside.members.items _ c.self.inside.done.events _ refl c.make_late_room.ensures.done c.self.invariant.0,
  c.make_late_room.ensures.aside ∙ c.self.invariant.1,
  c.self.invariant.2,
)

pub handle_out_of_order-requires-clause-room : goal.handle_out_of_order-requires-clause-room
handle_out_of_order-requires-clause-room g c = c.in-Ok-make_late_room.ensures.room

pub handle_out_of_order-requires-clause-events : goal.handle_out_of_order-requires-clause-events
handle_out_of_order-requires-clause-events g c = c.in-Ok-make_late_room.ensures.events

pub handle_out_of_order-requires-clause-sends : goal.handle_out_of_order-requires-clause-sends
handle_out_of_order-requires-clause-sends g c = c.in-Ok-make_late_room.ensures.sends

pub handle_out_of_order-requires-clause-rows : goal.handle_out_of_order-requires-clause-rows
handle_out_of_order-requires-clause-rows g c = c.in-Ok-make_late_room.ensures.rows

pub handle_out_of_order-requires-clause-space : goal.handle_out_of_order-requires-clause-space
handle_out_of_order-requires-clause-space g c = c.in-Ok-make_late_room.ensures.space

-- it is done already, and counts beside where the call was not refused
pub returns-then-has-clause-did : goal.returns-then-has-clause-did
returns-then-has-clause-did g c =
    let r = rules_of g.R.Reversible.plain in
    let V = g.R.Reversible.is_value in
    let O = c.actor_rules_law.ensures.order in
    let members = c.self.inside.members.items in
    let done = c.self.inside.done.events in
    let rows = c.self.inside.rows in
    let before = looked g (goal.at.returns-then-has-clause-did g c).After-first in
    elim c.match-count_again.branch [
      | in-Ok w ↦
          does-both r V c.args.self.now (held members done rows c.first.new.self) (held members done rows c.count_again.new.self) [] [] [] before
          (counts-again r O V members done rows c.in-Some.message c.first.new.self c.count_again.new.self (record {
            is_done = contains-in O (messages_of done) c.in-Some.message (c.if-has.ensures.yes refl);
            queue = w.in-Ok.ensures.queue;
            extra = w.in-Ok.ensures.extra;
            tray = ap (λ z. z.tray) w.in-Ok.ensures.others;
            abroad = ap (λ z. z.abroad) w.in-Ok.ensures.others;
            words = ap (λ z. z.words) w.in-Ok.ensures.others;
            keeps = ap (λ z. z.keeps) w.in-Ok.ensures.others;
          }))
      | in-Err w ↦ subst (λ ls. DoesSent r V c.args.self.now [] (held members done rows ls) []) (sym w.in-Err.ensures.unchanged) before
    ]

pub returns-then-not-has_numbers-clause-told : goal.returns-then-not-has_numbers-clause-told
returns-then-not-has_numbers-clause-told g c =
    let at = goal.at.returns-then-not-has_numbers-clause-told g c in
    let k = first g at.In-Some in (
      as-looked g at.After-first,
      (
        c.in-Some.message,
        k.0,
        k.1,
        subst (λ ds. IsAscending message_order (messages_of ds) → All (λ x. x ≢ c.in-Some.message) (messages_of ds)) (ap (λ h. h.done) c.self.view_is) (c.has.ensures.no (search rules)),
        λ s i. c.if-not-has_numbers.ensures.no refl s
            (subst (λ ms. slice_get ms c.in-Some.message.receiver ≡ Some (Some s)) (sym c.deref.ensures.value)
            (subst (λ h. slice_get h.members c.in-Some.message.receiver ≡ Some (Some s)) (sym c.self.view_is) i)),
      ),
    )

pub returns-in_default-make_late_room-clause-told : goal.returns-in_default-make_late_room-clause-told
returns-in_default-make_late_room-clause-told g c = as-it-was g (goal.at.returns-in_default-make_late_room-clause-told g c).After-make_late_room

-- a message that is done already counts beside
pub returns-then-has-clause-told : goal.returns-then-has-clause-told
returns-then-has-clause-told g c =
    let at = goal.at.returns-then-has-clause-told g c in
    let r = rules_of g.R.Reversible.plain in
    let V = g.R.Reversible.is_value in
    let k = first g at.In-Some in
    let m = c.in-Some.message in
    let there = subst (λ ds. Contains (messages_of ds) m) (ap (λ h. h.done) c.self.view_is) (c.if-has.ensures.yes refl) in
    let new = held c.self.inside.members.items c.self.inside.done.events c.self.inside.rows c.count_again.new.self in
    elim c.match-count_again.branch [
      | in-Ok w ↦ subst (RunsOutOfOrder r V (λ s. g.R.Reversible.plain.counter s) c.args.self.now new) (sym w.result-is) (λ x v stands. (
        m,
        k.1,
        k.0,
        inr (subst (λ (q : List Message). IsPermutation q (m ∷ c.count_again.new.self.queue)) (ap (λ (z : Flow). z.queue) c.first.ensures.unchanged ∙ ap (λ h. h.flow.queue) c.self.view_is) w.in-Ok.ensures.queue),
        λ waits. absurd (not-waiting c.actor_rules_law.ensures.order c.args.self.now m k.0 k.1 there (waits stands.ascending)),
      ))
      | in-Err w ↦ subst (RunsOutOfOrder r V (λ s. g.R.Reversible.plain.counter s) c.args.self.now new) (sym w.result-is)
          (subst (λ ls. IsAsBefore c.args.self.now (held c.self.inside.members.items c.self.inside.done.events c.self.inside.rows ls)) (sym w.in-Err.ensures.unchanged) (as-looked g at.After-first))
    ]

pub returns-clause-told : goal.returns-clause-told
returns-clause-told g c = λ x v stands.
    let at = goal.at.returns-clause-told g c in
    let m = c.in-Some.message in
    let k = first g at.In-Some in
    let same = c.make_late_room.ensures.done ∙ ap (λ h. h.done) c.self.view_is in
    let able : (s : g.row.R.Denot) × (slice_get c.args.self.now.members m.receiver ≡ Some (Some s)) =
    let a = c.if-not-has_numbers.ensures.yes refl in
    (a.0, subst (λ ms. slice_get ms m.receiver ≡ Some (Some a.0)) (c.deref.ensures.value ∙ ap (λ h. h.members) c.self.view_is) a.1) in
    let not_done = subst (λ ds. IsAscending message_order (messages_of ds) → All (λ y. y ≢ m) (messages_of ds)) (ap (λ h. h.done) c.self.view_is) (c.if-has.ensures.no refl) in
    let words = ap (λ h. h.flow.words) (as-it-was g at.After-make_late_room) in
    let never : HasLater message_order m c.make_late_room.new.done.events → ⊥ =
    λ l. not-later g.R.Reversible.plain g.R.Reversible.is_value c.actor_rules_law.ensures.order x v c.args.self.now m able.0 stands able.1 k.0 not_done (subst (HasLater message_order m) same l) in (
      m,
      k.1,
      k.0,
      elim c.handle_out_of_order.ensures.handled [ inl e ↦ inl (e ∙ ap (λ z. length z + 1) same) | inr l ↦ absurd (never l) ],
      λ waits. record {
        among = k.0;
        first = k.1;
        not_done = not_done;
        words = elim c.handle_out_of_order.ensures.words [
          | inl e ↦ adds-run-again m.receiver c.args.self.now.flow.words c.make_late_room.new.letters.words c.handle_out_of_order.new.letters.words words e
          | inr l ↦ absurd (never l)
        ];
      },
    )
