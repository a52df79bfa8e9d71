use Rattle.std.proofs.Common.{◌≡◌, ◌∷◌, ◌∙◌, All, Contains, IsPermutation, length, false, sym, ap, subst, refl, arith, true}
use Rattle.std.proofs.lemmas.List.Sorted.{length_permutation}
use Rattle.vlink.specs.declared.message.Message.{Message}
use Rattle.vlink.specs.Order.{message_order}
use Rattle.reverse.specs.Rules.{rules_of, is_before}
use Rattle.virtual_time.specs.Law.{plus_of}
use Rattle.antimessages.specs.Counting.{HaveSameCounts}
use Rattle.group_queues.specs.DoneEvents.{messages_of}
use Rattle.group_queues.specs.Flow.{Flow}
use Rattle.group_hand.specs.Passing.{held}
use Rattle.group_hand.proofs.Answering.{not-both, not-err}
use Rattle.group_queues.proofs.Among.{contains-in}
use Rattle.group_hand.proofs.FrontWaits.{CountedBeside, counted-again, counted-as, counted-both, first-least, front-waits, nothing-waits}
use Rattle.group_hand.proofs.Still.{as-roomy}
use Rattle.group_hand.proofs.hand.Hand.count_first_done.Given.{Over}
use Rattle.group_hand.proofs.hand.Hand.count_first_done.Goals.{After-first, In-Some, in-Ok, in-Err}
use Rattle.group_hand.proofs.hand.Hand.count_first_done.Goals as goal

-- after a look at the first message
looked : (g : Over) (c : After-first g) → CountedBeside (rules_of g.R.Reversible.plain) g.R.Reversible.is_value c.args.self.now
    (held c.self.inside.members.items c.self.inside.done.events c.self.inside.rows c.first.new.self)
looked g c =
    counted-as g.R.Reversible.plain g.R.Reversible.is_value c.actor_rules_law.ensures.order c.actor_rules_law.ensures.undoes c.args.self.now
    (held c.self.inside.members.items c.self.inside.done.events c.self.inside.rows c.first.new.self)
    (as-roomy c.args.self.now c.self.inside.members.items c.self.inside.done.events c.self.inside.done.events c.self.inside.rows c.self.inside.letters c.first.new.self c.self.view_is refl c.first.ensures.unchanged)

-- the first message is still the first
first : (g : Over) (c : In-Some g) → Contains c.first.new.self.queue c.in-Some.message × All (λ x. is_before x c.in-Some.message ≡ false) c.first.new.self.queue
first g c =
    subst (λ (z : Flow). Contains z.queue c.in-Some.message × All (λ x. is_before x c.in-Some.message ≡ false) z.queue) (sym c.first.ensures.unchanged)
    (c.in-Some.ensures.among, c.in-Some.ensures.first)

pub returns-in_default-clause-stands : goal.returns-in_default-clause-stands
returns-in_default-clause-stands g c = (looked g (goal.at.returns-in_default-clause-stands g c).After-first).stands

pub returns-in_default-clause-others : goal.returns-in_default-clause-others
returns-in_default-clause-others g c = (looked g (goal.at.returns-in_default-clause-others g c).After-first).others

pub returns-in_default-clause-waits : goal.returns-in_default-clause-waits
returns-in_default-clause-waits g c = λ e up.
    nothing-waits (held c.self.inside.members.items c.self.inside.done.events c.self.inside.rows c.first.new.self)
    (ap (λ (z : Flow). z.queue) c.first.ensures.unchanged ∙ c.in_default.ensures.none)

pub returns-then-not-has-clause-stands : goal.returns-then-not-has-clause-stands
returns-then-not-has-clause-stands g c = (looked g (goal.at.returns-then-not-has-clause-stands g c).After-first).stands

pub returns-then-not-has-clause-others : goal.returns-then-not-has-clause-others
returns-then-not-has-clause-others g c = (looked g (goal.at.returns-then-not-has-clause-others g c).After-first).others

pub returns-then-not-has-clause-waits : goal.returns-then-not-has-clause-waits
returns-then-not-has-clause-waits g c = λ e up.
    front-waits c.actor_rules_law.ensures.order (held c.self.inside.members.items c.self.inside.done.events c.self.inside.rows c.first.new.self) c.in-Some.message
    (first-least c.actor_rules_law.ensures.order c.in-Some.message c.first.new.self.queue (first g (goal.at.returns-then-not-has-clause-waits g c).In-Some).0 (first g (goal.at.returns-then-not-has-clause-waits g c).In-Some).1)
    (c.if-not-has.ensures.no refl up)

pub count_again-requires-clause-among : goal.count_again-requires-clause-among
count_again-requires-clause-among g c = (first g (goal.at.count_again-requires-clause-among g c).In-Some).0

pub count_again-requires-clause-first : goal.count_again-requires-clause-first
count_again-requires-clause-first g c = (first g (goal.at.count_again-requires-clause-first g c).In-Some).1

-- nothing was counted
refused : (g : Over) (c : After-first g) (now : Flow) → now ≡ c.first.new.self → CountedBeside (rules_of g.R.Reversible.plain) g.R.Reversible.is_value c.args.self.now
    (held c.self.inside.members.items c.self.inside.done.events c.self.inside.rows now)
refused g c now e =
    subst (λ z. CountedBeside (rules_of g.R.Reversible.plain) g.R.Reversible.is_value c.args.self.now (held c.self.inside.members.items c.self.inside.done.events c.self.inside.rows z)) (sym e)
    (looked g c)

-- it counts beside
counted : (g : Over) (c : After-first g) (m : Message) (now : Flow) → Contains (messages_of c.self.inside.done.events) m → IsPermutation c.first.new.self.queue (m ∷ now.queue) →
    HaveSameCounts message_order now.extra (plus_of m ∷ c.first.new.self.extra) → now ≡ record c.first.new.self { queue = now.queue; extra = now.extra; room = now.room } →
    CountedBeside (rules_of g.R.Reversible.plain) g.R.Reversible.is_value c.args.self.now (held c.self.inside.members.items c.self.inside.done.events c.self.inside.rows now)
counted g c m now there queue extra others =
    counted-both (rules_of g.R.Reversible.plain) g.R.Reversible.is_value c.args.self.now
    (held c.self.inside.members.items c.self.inside.done.events c.self.inside.rows c.first.new.self) (held c.self.inside.members.items c.self.inside.done.events c.self.inside.rows now) (looked g c)
    (counted-again (rules_of g.R.Reversible.plain) g.R.Reversible.is_value c.actor_rules_law.ensures.order c.self.inside.members.items c.self.inside.done.events c.self.inside.rows m c.first.new.self now
    (record {
      is_done = contains-in c.actor_rules_law.ensures.order (messages_of c.self.inside.done.events) m there;
      queue = queue;
      extra = extra;
      tray = ap (λ z. z.tray) others;
      abroad = ap (λ z. z.abroad) others;
      words = ap (λ z. z.words) others;
      keeps = ap (λ z. z.keeps) others;
    }) others)

pub returns-in_default-clause-fewer : goal.returns-in_default-clause-fewer
returns-in_default-clause-fewer g c = λ e. not-both _ e refl

pub returns-in_default-clause-memory : goal.returns-in_default-clause-memory
returns-in_default-clause-memory g c = tt

pub returns-then-not-has-clause-fewer : goal.returns-then-not-has-clause-fewer
returns-then-not-has-clause-fewer g c = λ e. not-both _ e refl

pub returns-then-not-has-clause-memory : goal.returns-then-not-has-clause-memory
returns-then-not-has-clause-memory g c = tt

-- the message counts beside, where the call was not refused
pub returns-clause-stands : goal.returns-clause-stands
returns-clause-stands g c =
    let at = (goal.at.returns-clause-stands g c).After-first in
    elim c.match-count_again.branch [
      | in-Ok w ↦ (counted g at c.in-Some.message c.count_again.new.self (c.if-not-has.ensures.yes refl) w.in-Ok.ensures.queue w.in-Ok.ensures.extra w.in-Ok.ensures.others).stands
      | in-Err w ↦ (refused g at c.count_again.new.self w.in-Err.ensures.unchanged).stands
    ]

pub returns-clause-others : goal.returns-clause-others
returns-clause-others g c =
    let at = (goal.at.returns-clause-others g c).After-first in
    elim c.match-count_again.branch [
      | in-Ok w ↦ (counted g at c.in-Some.message c.count_again.new.self (c.if-not-has.ensures.yes refl) w.in-Ok.ensures.queue w.in-Ok.ensures.extra w.in-Ok.ensures.others).others
      | in-Err w ↦ (refused g at c.count_again.new.self w.in-Err.ensures.unchanged).others
    ]

pub returns-clause-waits : goal.returns-clause-waits
returns-clause-waits g c = elim c.match-count_again.branch [
  | in-Ok w ↦ λ e. not-both _ w.result-is e
  | in-Err w ↦ λ e. not-err false _ _ e w.result-is
]

pub returns-clause-fewer : goal.returns-clause-fewer
returns-clause-fewer g c = elim c.match-count_again.branch [
  | in-Ok w ↦ λ e.
      let a = length_permutation c.first.new.self.queue (c.in-Some.message ∷ c.count_again.new.self.queue) w.in-Ok.ensures.queue in
      let b = ap (λ (z : Flow). length z.queue) c.first.ensures.unchanged in
      let d = ap (λ h. length h.flow.queue) c.self.view_is in
      omega arith
  | in-Err w ↦ λ e. not-err true _ _ e w.result-is
]
