use Rattle.std.proofs.Common.{◌≡◌, ◌==◌, ◌∷◌, [], Some, length, slice_get, IsPermutation, sym, ap, ◌∙◌, subst, arith, length-append}
use Rattle.std.proofs.lemmas.Bool.{eqb-true, eq-eqb, both_ways}
use Rattle.reverse.specs.Rules.{rules_of}
use Rattle.group_queues.specs.DoneEvents.{sent_in}
use Rattle.group_queues.proofs.NewestDone.{sent_in-push}
use Rattle.group_hand.proofs.Origin.{came-from, undone-came, aside-came}
use Rattle.group_hand.proofs.Retreating.{rolls-undone, rolls-aside, newest-late, room-fewer, some-late}
use Rattle.group_hand.proofs.rollback.step_back.Given.{Over}
use Rattle.group_hand.proofs.rollback.step_back.Goals.{After-pop_newest-event, After-move_newest}
use Rattle.group_hand.proofs.rollback.step_back.Goals as goal

-- the newest event is of the message's receiver
mine : (g : Over) (c : After-pop_newest-event g) → c.pop_newest-event.ensures.popped.0.message.receiver ≡ c.args.message.now.receiver
mine g c =
    let d = c.pop_newest-event.ensures.popped in
    eqb-true d.0.message.receiver c.args.message.now.receiver (sym (c.if-newest_is_for.ensures.last c.pop_newest-event.new.self.events d.0 d.1))

pub undo-requires : goal.undo-requires
undo-requires g c = λ s e.
    let d = c.pop_newest-event.ensures.popped in
    let m = mine g (goal.at.undo-requires g c).After-pop_newest-event in
    let place : c.pop_newest-event.result.message.receiver ≡ c.args.message.now.receiver = ap (λ z. z.receiver) d.3 ∙ m in
    came-from (rules_of g.R.Reversible.plain) g.R.Reversible.is_value c.args.message.now.receiver c.args.members.now c.args.members.now c.args.done.now.events c.pop_newest-event.new.self.events
    d.0 d.1 c.requires.came m c.pop_newest-event.result.message c.pop_newest-event.result.kept d.3 d.4 s (subst (λ q. slice_get c.args.members.now q ≡ Some (Some s)) place e)

pub returns-then-newest_is_for-clause-came : goal.returns-then-newest_is_for-clause-came
returns-then-newest_is_for-clause-came g c =
    let d = c.pop_newest-event.ensures.popped in
    let m = mine g (goal.at.returns-then-newest_is_for-clause-came g c).After-pop_newest-event in
    let place : c.pop_newest-event.result.message.receiver ≡ c.args.message.now.receiver = ap (λ z. z.receiver) d.3 ∙ m in
    undone-came (rules_of g.R.Reversible.plain) g.R.Reversible.is_value c.args.message.now.receiver c.args.members.now c.undo.new.members c.args.done.now.events c.pop_newest-event.new.self.events
    d.0 d.1 c.requires.came m c.pop_newest-event.result.message c.pop_newest-event.result.kept d.3 d.4 c.actor_rules_law.ensures.undoes (c.undo.ensures.ours c.args.message.now.receiver)
    (λ s e. subst (λ q. slice_get c.undo.new.members q ≡ Some (Some (g.R.Reversible.plain.before s c.pop_newest-event.result.message c.pop_newest-event.result.kept))) place
    (c.undo.ensures.member s (subst (λ q. slice_get c.args.members.now q ≡ Some (Some s)) (sym place) e)))

pub returns-then-newest_is_for-clause-rolls : goal.returns-then-newest_is_for-clause-rolls
returns-then-newest_is_for-clause-rolls g c = λ start k.
    let d = c.pop_newest-event.ensures.popped in
    let m = mine g (goal.at.returns-then-newest_is_for-clause-rolls g c).After-pop_newest-event in
    let p = c.args.message.now.receiver in
    let place : c.pop_newest-event.result.message.receiver ≡ c.args.message.now.receiver = ap (λ z. z.receiver) d.3 ∙ m in
    rolls-undone (rules_of g.R.Reversible.plain) g.R.Reversible.is_value c.args.message.now start _ d.0 c.pop_newest-event.new.self.events d.1
    (newest-late c.args.message.now c.args.done.now.events c.pop_newest-event.new.self.events d.0 d.1 c.requires.late) k
    c.undo.new.members c.wait_again.new.self.queue c.pop_newest-event.new.back.items m
    (subst (λ z. IsPermutation (z ∷ c.args.letters.now.queue) c.wait_again.new.self.queue) d.3 c.wait_again.ensures.waits) d.2 c.undo.ensures.len c.undo.ensures.ours
    (λ s e. subst (λ q. slice_get c.undo.new.members q ≡ Some (Some (g.R.Reversible.plain.before s d.0.message d.0.kept))) place
    (subst (λ z. slice_get c.undo.new.members c.pop_newest-event.result.message.receiver ≡ Some (Some (g.R.Reversible.plain.before s z d.0.kept))) d.3
    (subst (λ z. slice_get c.undo.new.members c.pop_newest-event.result.message.receiver ≡ Some (Some (g.R.Reversible.plain.before s c.pop_newest-event.result.message z))) d.4
    (c.undo.ensures.member s (subst (λ q. slice_get c.args.members.now q ≡ Some (Some s)) (sym place) e)))))
    (λ q n. c.undo.ensures.others q (λ e. n (e ∙ place)))

pub returns-then-newest_is_for-clause-fewer : goal.returns-then-newest_is_for-clause-fewer
returns-then-newest_is_for-clause-fewer g c =
    let d = c.pop_newest-event.ensures.popped in let a = ap length d.1 ∙ length-append c.pop_newest-event.new.self.events (d.0 ∷ []) in omega arith

pub returns-then-newest_is_for-clause-space : goal.returns-then-newest_is_for-clause-space
returns-then-newest_is_for-clause-space g c =
    let d = c.pop_newest-event.ensures.popped in
    room-fewer c.args.done.now.events c.pop_newest-event.new.self.events d.0 c.args.undoing.now.aside d.1 c.requires.space

pub returns-then-newest_is_for-clause-again : goal.returns-then-newest_is_for-clause-again
returns-then-newest_is_for-clause-again g c = λ h. c.pop_newest-event.ensures.space c.args.undoing.now.aside.events h

-- the newest event is of another member
another : (g : Over) (c : After-move_newest g) → c.move_newest.ensures.moved.0.message.receiver ≡ c.args.message.now.receiver → ⊥
another g c e =
    let d = c.move_newest.ensures.moved in
    both_ways (d.0.message.receiver == c.args.message.now.receiver) (sym (c.if-newest_is_for.ensures.last c.move_newest.new.self.events d.0 d.1))
    (eq-eqb d.0.message.receiver c.args.message.now.receiver e)

pub returns-else-newest_is_for-clause-came : goal.returns-else-newest_is_for-clause-came
returns-else-newest_is_for-clause-came g c =
    let d = c.move_newest.ensures.moved in
    aside-came (rules_of g.R.Reversible.plain) g.R.Reversible.is_value c.args.message.now.receiver c.args.members.now c.args.members.now c.args.done.now.events c.move_newest.new.self.events
    d.0 d.1 c.requires.came (another g (goal.at.returns-else-newest_is_for-clause-came g c).After-move_newest)

pub returns-else-newest_is_for-clause-rolls : goal.returns-else-newest_is_for-clause-rolls
returns-else-newest_is_for-clause-rolls g c = λ start k.
    let d = c.move_newest.ensures.moved in
    rolls-aside (rules_of g.R.Reversible.plain) g.R.Reversible.is_value c.args.message.now start _ d.0 c.move_newest.new.self.events d.1
    (newest-late c.args.message.now c.args.done.now.events c.move_newest.new.self.events d.0 d.1 c.requires.late) k c.move_newest.new.other.events
    (another g (goal.at.returns-else-newest_is_for-clause-rolls g c).After-move_newest) d.2

pub returns-else-newest_is_for-clause-fewer : goal.returns-else-newest_is_for-clause-fewer
returns-else-newest_is_for-clause-fewer g c =
    let d = c.move_newest.ensures.moved in let a = ap length d.1 ∙ length-append c.move_newest.new.self.events (d.0 ∷ []) in omega arith

pub returns-else-newest_is_for-clause-sends : goal.returns-else-newest_is_for-clause-sends
returns-else-newest_is_for-clause-sends g c =
    let d = c.move_newest.ensures.moved in let a = ap sent_in d.1 ∙ sent_in-push c.move_newest.new.self.events d.0 in let h = c.requires.sends in omega arith

pub pop_newest-event-requires-clause-some : goal.pop_newest-event-requires-clause-some
pop_newest-event-requires-clause-some g c = some-late c.args.message.now c.args.done.now.events c.requires.late

pub move_newest-requires-clause-some : goal.move_newest-requires-clause-some
move_newest-requires-clause-some g c = some-late c.args.message.now c.args.done.now.events c.requires.late

pub returns-then-newest_is_for-clause-others : goal.returns-then-newest_is_for-clause-others
returns-then-newest_is_for-clause-others g c = c.wait_again.ensures.others

pub returns-then-newest_is_for-clause-sends : goal.returns-then-newest_is_for-clause-sends
returns-then-newest_is_for-clause-sends g c = c.pop_newest-event.ensures.room

pub returns-else-newest_is_for-clause-space : goal.returns-else-newest_is_for-clause-space
returns-else-newest_is_for-clause-space g c = c.move_newest.ensures.room

pub returns-else-newest_is_for-clause-again : goal.returns-else-newest_is_for-clause-again
returns-else-newest_is_for-clause-again g c = λ h. c.move_newest.ensures.back h
