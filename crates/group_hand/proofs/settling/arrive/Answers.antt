use Rattle.std.proofs.Common.{[], ◌∷◌, ◌++◌, map, refl, ap, ◌∙◌, arith}
use Rattle.reverse.specs.Rules.{rules_of}
use Rattle.virtual_time.specs.Law.{minus_of}
use Rattle.group_queues.specs.declared.block.Word.TheVariants.{Arrived}
use Rattle.group_hand.specs.Arriving.{to_members, words_taken}
use Rattle.group_hand.specs.Passing.{held}
use Rattle.group_hand.proofs.Adding.{adds-arrival}
use Rattle.group_queues.proofs.Among.{contains-in, none-among}
use Rattle.group_hand.proofs.Fronted.{Fronted, fronted, tray-fewer}
use Rattle.group_hand.proofs.FrontTold.{front-told}
use Rattle.group_hand.proofs.Rolled.{settled-sent}
use Rattle.group_hand.proofs.settling.arrive.Given.{Over}
use Rattle.group_hand.proofs.settling.arrive.Goals.{After-take_back_all}
use Rattle.group_hand.proofs.settling.arrive.Goals as goal

pub take_back_all-requires : goal.take_back_all-requires
take_back_all-requires g c =
    let s = settled-sent (rules_of g.R.Reversible.plain) c.actor_rules_law.ensures.order g.R.Reversible.is_value c.args.letter.now.message
    (record { members = c.args.members.now; done = c.args.done.now.events; aside = []; queue = c.take_front.new.self.queue; back = [] })
    (record { members = c.settle.new.members; done = c.settle.new.done.events; aside = []; queue = c.settle.new.letters.queue; back = c.settle.new.undoing.back.items }) refl c.in_ok-way.way c.settle.ensures.settled in
    let h = c.requires.room in
    let a = c.in_ok-way.ensures.room in
    let b = c.take_front.ensures.room in
    let d = c.settle.ensures.room in
    omega arith

arrived : (g : Over) (c : After-take_back_all g) → (rows : _) → Fronted g.R.Reversible.plain g.R.Reversible.is_value c.actor_rules_law.ensures.order c.args.letter.now c.requires.front.0 c.has.result
    c.args.members.now c.settle.new.members c.args.done.now.events c.settle.new.done.events rows c.args.letters.now c.count.new.self c.take_front.new.self c.settle.new.letters c.take_back_all.new.letters
    c.settle.new.undoing.back.items c.requires.front.1 (λ e. contains-in c.actor_rules_law.ensures.order _ _ (c.has.ensures.yes e)) (λ e up. none-among c.actor_rules_law.ensures.order _ _ (c.has.ensures.no e up))
    c.count.ensures.others (c.take_front.ensures.tray c.requires.front.0 (ap (λ z. z.tray) c.count.ensures.others ∙ c.requires.front.1)) c.take_front.ensures.words c.take_front.ensures.others
    c.settle.ensures.others c.take_back_all.ensures.went c.take_back_all.ensures.queue c.take_back_all.ensures.extra
arrived g c rows =
    fronted g.R.Reversible.plain g.R.Reversible.is_value c.actor_rules_law.ensures.order c.args.letter.now c.requires.front.0 c.has.result
    c.args.members.now c.settle.new.members c.args.done.now.events c.settle.new.done.events rows c.args.letters.now c.count.new.self c.take_front.new.self c.settle.new.letters c.take_back_all.new.letters
    c.settle.new.undoing.back.items c.requires.front.1 (λ e. contains-in c.actor_rules_law.ensures.order _ _ (c.has.ensures.yes e)) (λ e up. none-among c.actor_rules_law.ensures.order _ _ (c.has.ensures.no e up))
    c.count.ensures.others (c.take_front.ensures.tray c.requires.front.0 (ap (λ z. z.tray) c.count.ensures.others ∙ c.requires.front.1)) c.take_front.ensures.words c.take_front.ensures.others
    c.settle.ensures.others c.take_back_all.ensures.went c.take_back_all.ensures.queue c.take_back_all.ensures.extra c.in_ok-way.way (c.in_ok-way.ensures.counted c.in_ok-way.way refl) c.settle.ensures.settled

pub returns-clause-did : goal.returns-clause-did
returns-clause-did g c = λ rows.
    let f = arrived g (goal.at.returns-clause-did g c).After-take_back_all rows in
    front-told g.R.Reversible.plain g.R.Reversible.is_value c.actor_rules_law.ensures.order c.actor_rules_law.ensures.undoes c.args.letter.now c.requires.front.0 f.late
    (held c.args.members.now c.args.done.now.events rows c.args.letters.now) (held c.settle.new.members c.settle.new.done.events rows c.take_back_all.new.letters) f.went refl f.arrived

pub returns-clause-fewer : goal.returns-clause-fewer
returns-clause-fewer g c =
    tray-fewer g.R.Reversible.plain g.R.Reversible.is_value c.actor_rules_law.ensures.order c.args.letter.now c.requires.front.0 c.has.result
    c.args.members.now c.settle.new.members c.args.done.now.events c.settle.new.done.events (record { all = []; left = 0 }) c.args.letters.now c.count.new.self c.take_front.new.self c.settle.new.letters c.take_back_all.new.letters
    c.settle.new.undoing.back.items c.requires.front.1 (λ e. contains-in c.actor_rules_law.ensures.order _ _ (c.has.ensures.yes e)) (λ e up. none-among c.actor_rules_law.ensures.order _ _ (c.has.ensures.no e up))
    c.count.ensures.others (c.take_front.ensures.tray c.requires.front.0 (ap (λ z. z.tray) c.count.ensures.others ∙ c.requires.front.1)) c.take_front.ensures.words c.take_front.ensures.others
    c.settle.ensures.others c.take_back_all.ensures.went c.take_back_all.ensures.queue c.take_back_all.ensures.extra c.in_ok-way.way c.settle.ensures.settled

-- what each call asks for, and what stays
pub settle-requires-clause-empty : goal.settle-requires-clause-empty
settle-requires-clause-empty g c = c.requires.empty

pub settle-requires-clause-none_back : goal.settle-requires-clause-none_back
settle-requires-clause-none_back g c = c.requires.none_back

pub settle-requires-clause-came : goal.settle-requires-clause-came
settle-requires-clause-came g c = c.requires.came

pub settle-requires-clause-space : goal.settle-requires-clause-space
settle-requires-clause-space g c = c.requires.space

pub settle-requires-clause-sends : goal.settle-requires-clause-sends
settle-requires-clause-sends g c = c.requires.sends

pub returns-clause-came : goal.returns-clause-came
returns-clause-came g c = c.settle.ensures.came

pub returns-clause-empty : goal.returns-clause-empty
returns-clause-empty g c = c.settle.ensures.empty

pub returns-clause-none_back : goal.returns-clause-none_back
returns-clause-none_back g c = c.take_back_all.ensures.none_back

-- the word of the arrival, and then those of what is taken back
pub returns-clause-words : goal.returns-clause-words
returns-clause-words g c =
    adds-arrival c.args.letters.now.words c.take_front.new.self.words c.take_back_all.new.letters.words (Arrived c.args.letter.now.message.receiver)
    (to_members c.settle.new.members (map minus_of c.settle.new.undoing.back.items)) refl refl
    (c.take_front.ensures.words ∙ ap (λ z. z.words ++ Arrived c.args.letter.now.message.receiver ∷ []) c.count.ensures.others)
    (c.take_back_all.ensures.went.words ∙ ap (λ z. z.words ++ words_taken (to_members c.settle.new.members (map minus_of c.settle.new.undoing.back.items))) c.settle.ensures.others)
