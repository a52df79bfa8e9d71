use Rattle.std.proofs.Common.{◌≡◌, ◌<◌, ◌∙◌, ◌∷◌, ℕ, [], inl, Bool, Result, Ok, Err, IsErrAnd, All, Contains, false, ap, length, length-append, subst, sym}
use Rattle.vlink.specs.declared.message.Message.{Message}
use Rattle.vlink.specs.declared.note.Note.{Note}
use Rattle.vlink.specs.Order.{message_order}
use Rattle.virtual_time.specs.Law.{IsAscending, IsOrder, Rules}
use Rattle.reverse.specs.Plain.{Plain}
use Rattle.reverse.specs.Rules.{is_before, rules_of}
use Rattle.reverse.specs.declared.sends.Sends.{Sends}
use Rattle.group_hand.specs.Answered.{HandlesOne, IsLateBefore, RefusesBefore, RefusesFirst, RunsInOrder, RunsNext}
use Rattle.group_queues.specs.DoneEvents.{messages_of}
use Rattle.group_hand.specs.Handling.{FirstLacksNumbers}
use Rattle.group_hand.specs.Hands.{FirstWaits, Held, IsAsBefore}
use Rattle.group_hand.specs.declared.fault.HandFault.{HandFault}
use Rattle.group_hand.specs.declared.fault.HandFault.TheVariants.{Exhausted, OutOfMemory}
use Rattle.group_hand.proofs.Telling.{does-both}
use Rattle.group_hand.proofs.Still.{as-both, first-soon, handled-again, ran-again, stands-still}
use Rattle.group_hand.proofs.hand.Hand.run_next.Given.{Over}
use Rattle.group_hand.proofs.hand.Hand.run_next.Goals.{In-Late}
use Rattle.group_hand.proofs.hand.Hand.run_next.Goals as goal

-- a fault of the first call is passed on
passed : {S K : Type 0} (r : Rules Message S K Note) (V : S → Message → Type 0) (counter : S → ℕ) (limit : ℕ) (old new : Held S K) (fault : HandFault) (told : Result Bool HandFault) →
    IsErrAnd told (λ z. z ≡ fault) → RefusesBefore counter limit old new fault → RunsNext r V counter limit old new told
passed r V counter limit old new fault (Ok b) was t = absurd was
passed r V counter limit old new fault (Err f) was t = subst (RefusesBefore counter limit old new) (sym was) t

-- so is one of the second, since the first changed nothing but room
later : {S K : Type 0} (counter : S → ℕ) (old mid new : Held S K) → IsAsBefore old mid → (fault : HandFault) → RefusesFirst counter mid new fault → RefusesFirst counter old new fault
later counter old mid new a OutOfMemory t = as-both old mid new a t
later counter old mid new a Exhausted t = (as-both old mid new a t.0, subst (FirstLacksNumbers counter) a t.1)

-- the message that it handled is earlier than the limit
handled-late : {S K : Type 0} (plain : Plain S Message Sends K) (V : S → Message → Type 0) → IsOrder message_order → ((s : S) (e : Message) → plain.before (plain.after s e) e (plain.saves s e) ≡ s) →
    (limit : ℕ) (old mid new : Held S K) → IsAsBefore old mid → IsLateBefore limit old → HandlesOne (rules_of plain) V (λ m. All (λ y. is_before y m ≡ false) mid.flow.queue) mid new →
    HandlesOne (rules_of plain) V (λ m. m.time < limit) old new
handled-late plain V O law limit old mid new a late handles x v stands =
    let r = handles x v (stands-still plain V O law old mid a x v stands) in
    let m = r.0 in
    let first = subst (λ (h : Held _ _). All (λ y. is_before y m ≡ false) h.flow.queue) a r.1 in (
      m,
      first-soon O limit old.flow.queue m first (late.0, late.1, late.3),
      subst (λ (h : Held _ _). Contains h.flow.queue m) a r.2,
      handled-again m old mid new a r.3,
      λ waits. ran-again m old mid new a (r.4 (subst (λ (h : Held _ _). IsAscending message_order (messages_of h.done) → FirstWaits message_order h) (sym a) waits)),
    )

pub returns-in_err-run_in_order-clause-did : goal.returns-in_err-run_in_order-clause-did
returns-in_err-run_in_order-clause-did g c = c.run_in_order.ensures.did

pub returns-in-Ran-clause-did : goal.returns-in-Ran-clause-did
returns-in-Ran-clause-did g c = c.run_in_order.ensures.did

pub returns-in-Idle-clause-did : goal.returns-in-Idle-clause-did
returns-in-Idle-clause-did g c = c.run_in_order.ensures.did

pub returns-in_err-run_out_of_order-in-Late-clause-did : goal.returns-in_err-run_out_of_order-in-Late-clause-did
returns-in_err-run_out_of_order-in-Late-clause-did g c =
    does-both (rules_of g.R.Reversible.plain) g.R.Reversible.is_value c.args.self.now c.run_in_order.new.self c.run_out_of_order.new.self [] [] [] c.run_in_order.ensures.did c.run_out_of_order.ensures.did

pub returns-in_ok-run_out_of_order-in-Late-clause-did : goal.returns-in_ok-run_out_of_order-in-Late-clause-did
returns-in_ok-run_out_of_order-in-Late-clause-did g c =
    does-both (rules_of g.R.Reversible.plain) g.R.Reversible.is_value c.args.self.now c.run_in_order.new.self c.run_out_of_order.new.self [] [] [] c.run_in_order.ensures.did c.run_out_of_order.ensures.did

pub returns-in_err-run_in_order-clause-told : goal.returns-in_err-run_in_order-clause-told
returns-in_err-run_in_order-clause-told g c =
    passed (rules_of g.R.Reversible.plain) g.R.Reversible.is_value (λ s. g.R.Reversible.plain.counter s) c.args.limit c.args.self.now c.run_in_order.new.self _ c.from_residual.result c.from_residual.ensures.1
    c.in_err-run_in_order.ensures.told

pub returns-in-Ran-clause-told : goal.returns-in-Ran-clause-told
returns-in-Ran-clause-told g c =
    let t = subst (λ z. RunsInOrder (λ s. g.R.Reversible.plain.counter s) c.args.limit c.args.self.now c.run_in_order.new.self (Ok z)) c.in-Ran.is c.in_ok-run_in_order.ensures.told in
    λ x v stands. (t.0, t.1, t.2.among, inl (ap length t.3.2 ∙ length-append c.args.self.now.done (t.3.0 ∷ [])), λ waits. t.2)

pub returns-in-Idle-clause-told : goal.returns-in-Idle-clause-told
returns-in-Idle-clause-told g c = subst (λ z. RunsInOrder (λ s. g.R.Reversible.plain.counter s) c.args.limit c.args.self.now c.run_in_order.new.self (Ok z)) c.in-Idle.is c.in_ok-run_in_order.ensures.told

-- the first message is late, and nothing changed but room
late : (g : Over) (c : In-Late g) → IsAsBefore c.args.self.now c.run_in_order.new.self × IsLateBefore c.args.limit c.args.self.now
late g c = subst (λ z. RunsInOrder (λ s. g.R.Reversible.plain.counter s) c.args.limit c.args.self.now c.run_in_order.new.self (Ok z)) c.in-Late.is c.in_ok-run_in_order.ensures.told

pub run_out_of_order-requires : goal.run_out_of_order-requires
run_out_of_order-requires g c =
    let k = late g (goal.at.run_out_of_order-requires g c).In-Late in
    (k.1.0, subst (λ h. Contains h.flow.queue k.1.0) (sym k.0) k.1.1)

pub returns-in_err-run_out_of_order-in-Late-clause-told : goal.returns-in_err-run_out_of_order-in-Late-clause-told
returns-in_err-run_out_of_order-in-Late-clause-told g c =
    passed (rules_of g.R.Reversible.plain) g.R.Reversible.is_value (λ s. g.R.Reversible.plain.counter s) c.args.limit c.args.self.now c.run_out_of_order.new.self _
    c.from_residual-in_err-run_out_of_order-in-Late.result c.from_residual-in_err-run_out_of_order-in-Late.ensures.1
    (let k = late g (goal.at.returns-in_err-run_out_of_order-in-Late-clause-told g c).In-Late in (
      later (λ s. g.R.Reversible.plain.counter s) c.args.self.now c.run_in_order.new.self c.run_out_of_order.new.self k.0 _ c.in_err-run_out_of_order-in-Late.ensures.told,
      λ _. (k.1.0, k.1.1, k.1.3),
    ))

pub returns-in_ok-run_out_of_order-in-Late-clause-told : goal.returns-in_ok-run_out_of_order-in-Late-clause-told
returns-in_ok-run_out_of_order-in-Late-clause-told g c =
    let k = late g (goal.at.returns-in_ok-run_out_of_order-in-Late-clause-told g c).In-Late in
    handled-late g.R.Reversible.plain g.R.Reversible.is_value c.actor_rules_law.ensures.order c.actor_rules_law.ensures.undoes c.args.limit c.args.self.now c.run_in_order.new.self c.run_out_of_order.new.self
    k.0 k.1 c.in_ok-run_out_of_order-in-Late.ensures.told
