use Rattle.std.proofs.Common.{◌≡◌, [], true, false, refl, sym, ap, ◌∙◌, subst}
use Rattle.std.proofs.lemmas.List.{with_items_is}
use Rattle.reverse.specs.Rules.{rules_of}
use Rattle.group_queues.specs.Flow.{Flow}
use Rattle.group_hand.specs.Hands.{DoesSent, IsAsBefore}
use Rattle.group_hand.specs.Passing.{held}
use Rattle.group_hand.proofs.Adding.{adds-both, adds-none}
use Rattle.group_hand.proofs.Telling.{does-nothing, does-both}
use Rattle.group_hand.proofs.Answering.{no-err, not-both, not-err}
use Rattle.group_hand.proofs.Still.{as-roomy, on-err, roomy-both, still}
use Rattle.group_hand.proofs.Came.{came-alike}
use Rattle.group_hand.proofs.hand.Hand.arrive_front.Given.{Over}
use Rattle.group_hand.proofs.hand.Hand.arrive_front.Goals.{After-make_room, After-arrive, in-Ok-arrive, in-Err}
use Rattle.group_hand.proofs.hand.Hand.arrive_front.Goals as goal

-- after room was made
as-it-was : (g : Over) (c : After-make_room g) → IsAsBefore c.args.self.now (held c.self.inside.members.items c.self.inside.done.events c.self.inside.rows c.make_room.new.letters)
as-it-was g c =
    as-roomy c.args.self.now c.self.inside.members.items c.self.inside.done.events c.self.inside.done.events c.self.inside.rows c.self.inside.letters c.make_room.new.letters c.self.view_is refl c.make_room.ensures.letters

roomy : (g : Over) (c : After-make_room g) → DoesSent (rules_of g.R.Reversible.plain) g.R.Reversible.is_value c.args.self.now []
    (held c.self.inside.members.items c.self.inside.done.events c.self.inside.rows c.make_room.new.letters) []
roomy g c =
    still g.R.Reversible.plain g.R.Reversible.is_value c.actor_rules_law.ensures.order c.actor_rules_law.ensures.undoes c.args.self.now
    (held c.self.inside.members.items c.self.inside.done.events c.self.inside.rows c.make_room.new.letters) (as-it-was g c)

pub returns-in_default-clause-did : goal.returns-in_default-clause-did
returns-in_default-clause-did g c = does-nothing (rules_of g.R.Reversible.plain) g.R.Reversible.is_value c.args.self.now []

pub returns-in_default-make_room-clause-did : goal.returns-in_default-make_room-clause-did
returns-in_default-make_room-clause-did g c = roomy g (goal.at.returns-in_default-make_room-clause-did g c).After-make_room

-- where the letter was refused
refused : (g : Over) (c : After-arrive g) → c.arrive.new.done.events ≡ c.self.inside.done.events → c.arrive.new.letters ≡ record c.make_room.new.letters { room = c.arrive.new.letters.room } →
    IsAsBefore c.args.self.now (held c.self.inside.members.items c.arrive.new.done.events c.self.inside.rows c.arrive.new.letters)
refused g c d e =
    as-roomy c.args.self.now c.self.inside.members.items c.self.inside.done.events c.arrive.new.done.events c.self.inside.rows c.self.inside.letters c.arrive.new.letters c.self.view_is d
    (roomy-both c.self.inside.letters c.make_room.new.letters c.arrive.new.letters c.make_room.ensures.letters e)

pub returns-in_default-make_room-clause-quiet : goal.returns-in_default-make_room-clause-quiet
returns-in_default-make_room-clause-quiet g c = λ e. not-err false _ _ e refl

pub returns-in_default-make_room-clause-fewer : goal.returns-in_default-make_room-clause-fewer
returns-in_default-make_room-clause-fewer g c = λ e. not-err true _ _ e refl

pub returns-in_default-make_room-clause-memory : goal.returns-in_default-make_room-clause-memory
returns-in_default-make_room-clause-memory g c = refl

pub returns-in_default-make_room-clause-unchanged : goal.returns-in_default-make_room-clause-unchanged
returns-in_default-make_room-clause-unchanged g c = as-it-was g (goal.at.returns-in_default-make_room-clause-unchanged g c).After-make_room

pub returns-in_default-clause-fewer : goal.returns-in_default-clause-fewer
returns-in_default-clause-fewer g c = λ e. not-both _ e refl

pub returns-in_default-clause-unchanged : goal.returns-in_default-clause-unchanged
returns-in_default-clause-unchanged g c = tt

pub returns-in_default-clause-memory : goal.returns-in_default-clause-memory
returns-in_default-clause-memory g c = tt

-- what the letter's arrival asks for
pub arrive-requires-clause-front : goal.arrive-requires-clause-front
arrive-requires-clause-front g c = (c.in-Some.ensures.front.0, ap (λ z. z.tray) c.make_room.ensures.letters ∙ c.in-Some.ensures.front.1)

pub arrive-requires-clause-came : goal.arrive-requires-clause-came
arrive-requires-clause-came g c =
    came-alike (rules_of g.R.Reversible.plain) g.R.Reversible.is_value c.self.inside.members.items _ c.self.inside.done.events _ c.deref_mut.ensures.value refl c.self.invariant.0

pub arrive-requires-clause-empty : goal.arrive-requires-clause-empty
arrive-requires-clause-empty g c = c.make_room.ensures.aside ∙ c.self.invariant.1

pub arrive-requires-clause-none_back : goal.arrive-requires-clause-none_back
arrive-requires-clause-none_back g c = c.make_room.ensures.back ∙ c.self.invariant.2

-- what holds of the group is kept
pub invariant_of-self : goal.invariant_of-self
invariant_of-self g c = (c.self.invariant.0, c.make_room.ensures.aside ∙ c.self.invariant.1, c.make_room.ensures.back ∙ c.self.invariant.2)

pub invariant_of-self-2 : goal.invariant_of-self-2
invariant_of-self-2 g c = (
  came-alike (rules_of g.R.Reversible.plain) g.R.Reversible.is_value c.arrive.new.members _ c.arrive.new.done.events _
      (with_items_is c.self.inside.members c.arrive.new.members (c.arrive.ensures.len ∙ c.deref_mut.ensures.len)) refl c.arrive.ensures.came,
  c.arrive.ensures.empty,
  c.arrive.ensures.none_back,
)

pub arrive-requires-clause-room : goal.arrive-requires-clause-room
arrive-requires-clause-room g c = c.in-Ok.ensures.room

pub arrive-requires-clause-space : goal.arrive-requires-clause-space
arrive-requires-clause-space g c = c.in-Ok.ensures.space

pub arrive-requires-clause-sends : goal.arrive-requires-clause-sends
arrive-requires-clause-sends g c = c.in-Ok.ensures.sends

-- the letter arrived, or was refused
pub returns-clause-did : goal.returns-clause-did
returns-clause-did g c =
    let r = rules_of g.R.Reversible.plain in
    let V = g.R.Reversible.is_value in
    let rows = c.self.inside.rows in
    let at = goal.at.returns-clause-did g c in
    subst (λ ms. DoesSent r V c.args.self.now [] (held ms c.arrive.new.done.events rows c.arrive.new.letters) [])
    (sym (with_items_is c.self.inside.members c.arrive.new.members (c.arrive.ensures.len ∙ c.deref_mut.ensures.len)))
    (elim c.match-arrive.branch [
      | in-Ok-arrive w ↦
          does-both r V c.args.self.now (held c.self.inside.members.items c.self.inside.done.events rows c.make_room.new.letters)
          (held c.arrive.new.members c.arrive.new.done.events rows c.arrive.new.letters) [] [] [] (roomy g at.After-make_room)
          (subst (λ ms. DoesSent r V (held ms c.self.inside.done.events rows c.make_room.new.letters) [] (held c.arrive.new.members c.arrive.new.done.events rows c.arrive.new.letters) [])
          c.deref_mut.ensures.value (w.in-Ok-arrive.ensures.did rows))
      | in-Err w ↦
          subst (λ ms. DoesSent r V c.args.self.now [] (held ms c.arrive.new.done.events rows c.arrive.new.letters) [])
          (sym (w.in-Err.ensures.members ∙ c.deref_mut.ensures.value))
          (still g.R.Reversible.plain V c.actor_rules_law.ensures.order c.actor_rules_law.ensures.undoes c.args.self.now
          (held c.self.inside.members.items c.arrive.new.done.events rows c.arrive.new.letters)
          (refused g at.After-arrive w.in-Err.ensures.done w.in-Err.ensures.letters))
    ])

pub returns-clause-quiet : goal.returns-clause-quiet
returns-clause-quiet g c = elim c.match-arrive.branch [
  | in-Ok-arrive w ↦ λ e. not-both _ w.result-is e
  | in-Err w ↦ λ e. not-err false _ _ e w.result-is
]

pub returns-clause-unchanged : goal.returns-clause-unchanged
returns-clause-unchanged g c =
    elim c.match-arrive.branch [
      | in-Ok-arrive w ↦ no-err _ _ _ w.result-is
      | in-Err w ↦ on-err _ _
          (subst (λ ms. IsAsBefore c.args.self.now (held ms c.arrive.new.done.events c.self.inside.rows c.arrive.new.letters))
          (sym (with_items_is c.self.inside.members c.arrive.new.members (c.arrive.ensures.len ∙ c.deref_mut.ensures.len) ∙ (w.in-Err.ensures.members ∙ c.deref_mut.ensures.value)))
          (refused g (goal.at.returns-clause-unchanged g c).After-arrive w.in-Err.ensures.done w.in-Err.ensures.letters))
    ]

-- the words that joined the block
pub returns-in_default-clause-words : goal.returns-in_default-clause-words
returns-in_default-clause-words g c = adds-none c.args.self.now.flow.words c.args.self.now.flow.words refl

made : (g : Over) (c : After-make_room g) → c.make_room.new.letters.words ≡ c.args.self.now.flow.words
made g c = ap (λ h. h.flow.words) (as-it-was g c)

pub returns-in_default-make_room-clause-words : goal.returns-in_default-make_room-clause-words
returns-in_default-make_room-clause-words g c = adds-none _ _ (made g (goal.at.returns-in_default-make_room-clause-words g c).After-make_room)

pub returns-clause-words : goal.returns-clause-words
returns-clause-words g c =
    let at = goal.at.returns-clause-words g c in
    let before = made g at.After-make_room in
    elim c.match-arrive.branch [
      | in-Ok-arrive w ↦ adds-both c.args.self.now.flow.words c.make_room.new.letters.words c.arrive.new.letters.words (adds-none _ _ before) w.in-Ok-arrive.ensures.words
      | in-Err w ↦ adds-none _ _ (ap (λ (z : Flow). z.words) w.in-Err.ensures.letters ∙ before)
    ]
