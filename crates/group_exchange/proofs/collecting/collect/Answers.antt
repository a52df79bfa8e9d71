use Rattle.std.proofs.Common.{◌≡◌, ◌≤◌, ◌++◌, inl, inr, true, List, [], All, map, get_or, length, slice_get, slice_index, option_map, refl, sym, ap, ◌∙◌, subst, arith, length-append}
use Rattle.std.proofs.lemmas.List.{length-map, nil_from_length}
use Rattle.vlink.specs.Order.{message_order}
use Rattle.vlink.specs.Letters.{Letter}
use Rattle.virtual_time.specs.Law.{lowest, times_of}
use Rattle.virtual_time.specs.declared.step.Step.{Step}
use Rattle.virtual_time.specs.declared.step.Step.TheVariants.{Take}
use Rattle.reverse.specs.Rules.{rules_of}
use Rattle.reverse.specs.Setting.{simulation_of}
use Rattle.group_hand.specs.Hands.{IsAsBefore, StandsForGroup, is_ours}
use Rattle.halves.specs.declared.LeftHalf.{LeftHalf}
use Rattle.halves.proofs.InLists.{half-within}
use Rattle.journal.proofs.Refused.{not-ok}
use Rattle.group_exchange.specs.declared.mark.Standing.{Standing}
use Rattle.group_exchange.specs.Views.{box_of, is_of, last_in, marks_in, with_letters}
use Rattle.group_exchange.specs.Keeps.{Holds, IsMarked}
use Rattle.group_exchange.specs.Effects.{AreWaiting, IsGroupAsBefore, TookLetters, takes_of}
use Rattle.group_exchange.proofs.Again.{group-as-before}
use Rattle.group_exchange.proofs.Collected.{collected-done, kept-collected, holds-collected}
use Rattle.group_exchange.proofs.Gathers.{collects-none, collects-shown, kept-none, holds-none, waiting}
use Rattle.group_exchange.proofs.Going.{not-full}
use Rattle.group_exchange.proofs.Halves.{marked-by, recorded-as}
use Rattle.group_exchange.proofs.Holding.{holds-again, holds-as}
use Rattle.group_exchange.proofs.RowsKept.{rows-again}
use Rattle.group_exchange.proofs.Trays.{took-letters, tray-all}
use Rattle.group_exchange.proofs.collecting.collect.Given.{Over}
use Rattle.group_exchange.proofs.collecting.collect.Goals.{After-deliver_all, After-join_law, After-reserve_collect, After-collect, After-stand_here}
use Rattle.group_exchange.proofs.collecting.collect.Goals as goal

-- where the group stands, as both halves of its mark tell it
marked : (g : Over) (c : After-join_law g) → IsMarked (rules_of g.R.Reversible.plain) g.R.Actor.number g.R.Actor.end g.R.Actor.is_placed g.J.GroupRun.setting g.J.GroupRun.owners
    c.exchange.inside.journal.steps c.exchange.inside.gvt c.group.inside.number c.group.inside.standing
marked g c =
    marked-by c.exchange.invariant.3 c.group.inside.number c.group.inside.standing
    (rw (sym c.group.view_is, sym c.exchange.view_is) at c.join_law.ensures.stands) c.group.invariant.3
    (rw (sym c.group.view_is, sym c.exchange.view_is) at c.join_law.ensures.seen)

-- the letters that wait, for the exchange and the group as they are seen
there : (g : Over) (c : After-join_law g) →
    AreWaiting (simulation_of (rules_of g.R.Reversible.plain) g.J.GroupRun.setting) g.J.GroupRun.owners c.args.exchange.now c.args.group.now (box_of c.exchange.inside.boxes.boxes c.group.inside.number)
there g c =
    rw (sym c.group.view_is, sym c.exchange.view_is)
    (waiting c.exchange.invariant.3 c.group.inside.number c.group.invariant.0.number_is c.group.inside.hand c.group.inside.standing c.exchange.inside.limit c.group.inside.gone)

-- the group with room for the letters
roomy : (g : Over) (c : After-reserve_collect g) → Holds (rules_of g.R.Reversible.plain) g.R.Actor.number g.R.Actor.end g.R.Actor.is_placed g.J.GroupRun.setting g.J.GroupRun.owners
    g.R.Reversible.is_value (length g.J.GroupRun.names) c.group.inside.number c.group.inside.standing.seen (last_in c.group.inside.standing) c.reserve_collect.new.hand
roomy g c =
    let same = c.reserve_collect.ensures.same in
    let h = c.group.inside.hand in
    let new = c.reserve_collect.new.hand in
    holds-again c.group.invariant.0 new (ap (λ z. z.members) same) (ap (λ z. z.flow.words) same) (c.hand_law.ensures.as_before h new same g.J.GroupRun.setting)

-- no letter is there
none-there : (g : Over) (c : After-stand_here g) → box_of c.exchange.inside.boxes.boxes c.group.inside.number ≡ []
none-there g c = sym c.letters-count.ensures ∙ nil_from_length c.letters-count.result.now c.if-count-eq0.true

pub invariant_of-exchange : goal.invariant_of-exchange
invariant_of-exchange g c =
    let now = c.stand_here.ensures in (
      c.exchange.invariant.0,
      c.exchange.invariant.1,
      c.exchange.invariant.2,
      kept-none c.exchange.invariant.3 c.group.inside.number c.group.invariant.0.number_is (none-there g c) c.stand_here.new.standing now.last now.steps now.seen _ c.stand_here.ensures.marks,
      c.stand_here.ensures.names ∙ c.exchange.invariant.4,
      c.exchange.invariant.5,
    )

pub invariant_of-group : goal.invariant_of-group
invariant_of-group g c =
    let k = c.exchange.invariant.3 in
    let m = marked g (goal.at.invariant_of-group g c).After-join_law in
    let now = c.stand_here.ensures in (
      holds-as
          (holds-none k c.group.inside.number c.group.invariant.0.number_is (none-there g c) c.stand_here.new.standing now.last now.steps now.seen _ c.stand_here.ensures.marks
          (c.actor_law.ensures g.J.GroupRun.setting k.laid) m c.group.invariant.0 (rw (sym c.group.view_is) at c.requires.posted))
          c.stand_here.new.standing.seen (last_in c.stand_here.new.standing) now.seen now.last,
      record { name = c.stand_here.ensures.name ∙ c.group.invariant.1.name; value = c.stand_here.ensures.mark },
      c.group.invariant.2,
      now.steps ∙ ap length (sym now.last),
      c.group.invariant.4,
      rows-again c.group.invariant.5 c.group.inside.hand refl refl c.stand_here.new.standing.seen (let a = m.seen_low in let b = now.seen in omega arith),
    )

pub returns-then-count-eq0-clause-ok : goal.returns-then-count-eq0-clause-ok
returns-then-count-eq0-clause-ok g c =
    let now = c.stand_here.ensures in
    rw (sym c.group.view_is, sym c.exchange.view_is)
    (collects-none c.exchange.invariant.3 c.group.inside.number c.group.invariant.0.number_is (none-there g c) c.stand_here.new.standing now.last now.steps now.seen _ c.stand_here.ensures.marks
    c.group.inside.hand c.group.inside.standing c.exchange.inside.limit c.group.inside.gone)

pub invariant_of-group-in-Err : goal.invariant_of-group-in-Err
invariant_of-group-in-Err g c =
    let same = c.reserve_collect.ensures.same in (
      roomy g (goal.at.invariant_of-group-in-Err g c).After-reserve_collect,
      c.group.invariant.1,
      ap (λ z. z.flow.keeps) same ∙ c.group.invariant.2,
      c.group.invariant.3,
      c.group.invariant.4,
      rows-again c.group.invariant.5 c.reserve_collect.new.hand (ap (λ z. z.rows) same) (ap (λ z. z.done) same) c.group.inside.standing.seen (omega arith),
    )

-- the steps that joined the journal
longer : (g : Over) (c : After-collect g) → c.collect.new.self.steps ≡ c.exchange.inside.journal.steps ++ takes_of message_order (box_of c.exchange.inside.boxes.boxes c.group.inside.number)
longer g c = c.collect.ensures.steps ∙ ap (λ (ss : List Step). ss ++ takes_of message_order (box_of c.exchange.inside.boxes.boxes c.group.inside.number)) c.reserve_collect.ensures.steps

pub invariant_of-exchange-2 : goal.invariant_of-exchange-2
invariant_of-exchange-2 g c =
    let k = c.exchange.invariant.3 in
    let n = c.group.inside.number in
    let box = box_of c.exchange.inside.boxes.boxes n in
    let more = longer g (goal.at.invariant_of-exchange-2 g c).After-collect in
    let now = c.stand_here-2.ensures in
    let floors = c.lower_floor.ensures in
    let here = floors.floor ∙ ap (λ ls. option_map (λ d. lowest d (times_of message_order ls)) (slice_get c.exchange.inside.floors.floors n)) c.letters-letters.ensures in (
      omega (
        arith,
        ap length more,
        length-append c.exchange.inside.journal.steps (takes_of message_order box),
        length-map box (λ (l : Letter). Take l.message.receiver 0),
        ap length c.letters-count.ensures,
        c.if-exchange-len.false,
        c.len.ensures,
        c.exchange.invariant.0,
      ),
      c.exchange.invariant.1,
      c.exchange.invariant.2,
      kept-collected k n c.group.invariant.0.number_is c.collect.new.self.steps more c.clear.new.self c.clear.ensures.owners c.clear.ensures.count c.clear.ensures.cleared c.clear.ensures.others
          c.lower_floor.new.floors floors.groups floors.until here floors.others c.stand_here-2.new.standing now.last now.steps now.seen _ c.stand_here-2.ensures.marks,
      c.stand_here-2.ensures.names ∙ c.exchange.invariant.4,
      c.collect.ensures.keeps ∙ (c.reserve_collect.ensures.keeps ∙ c.exchange.invariant.5),
    )

-- all letters are in the tray
took : (g : Over) (c : After-deliver_all g) → TookLetters (box_of c.exchange.inside.boxes.boxes c.group.inside.number) c.group.inside.hand c.deliver_all.new.hand
took g c =
    let letters = c.letters-letters.result.now in
    let roomy = c.reserve_collect.new.hand in
    let new = c.deliver_all.new.hand in
    took-letters c.group.inside.hand roomy new _ c.reserve_collect.ensures.same (tray-all roomy new letters _ c.deliver_all.ensures.told c.letters-letters.ensures)

pub invariant_of-group-2 : goal.invariant_of-group-2
invariant_of-group-2 g c =
    let k = c.exchange.invariant.3 in
    let n = c.group.inside.number in
    let h = c.group.inside.hand in
    let new = c.deliver_all.new.hand in
    let box = box_of c.exchange.inside.boxes.boxes n in
    let letters = c.letters-letters.ensures in
    let x = g.J.GroupRun.setting in
    let at = goal.at.invariant_of-group-2 g c in
    let m = marked g at.After-join_law in
    let t = took g at.After-deliver_all in
    let now = c.stand_here-2.ensures in
    let none = rw (sym c.group.view_is) at c.requires.posted in
    let in_time = subst (All (λ (l : Letter). l.message.time ≤ x.until)) (sym letters) (k.in_time n c.group.invariant.0.number_is) in (
      holds-as
          (holds-collected k n c.group.invariant.0.number_is c.collect.new.self.steps (longer g at.After-collect) (c.actor_law.ensures x k.laid) m c.group.invariant.0 none
          new (ap (λ z. z.members) t) (ap (λ z. z.flow.words) t ∙ none)
          (λ v s. subst (λ ls. StandsForGroup (rules_of g.R.Reversible.plain) g.R.Reversible.is_value x (with_letters message_order ls v) new) letters
          (c.deliver_all.ensures.stands x v in_time (c.hand_law.ensures.as_before h c.reserve_collect.new.hand c.reserve_collect.ensures.same x v s))))
          c.stand_here-2.new.standing.seen (last_in c.stand_here-2.new.standing) now.seen now.last,
      record { name = c.stand_here-2.ensures.name ∙ c.group.invariant.1.name; value = c.stand_here-2.ensures.mark },
      ap (λ z. z.flow.keeps) t ∙ c.group.invariant.2,
      now.steps ∙ ap length (sym now.last),
      c.group.invariant.4,
      rows-again c.group.invariant.5 new (ap (λ z. z.rows) t) (ap (λ z. z.done) t) c.stand_here-2.new.standing.seen (let a = m.seen_low in let b = now.seen in omega arith),
    )

pub returns-clause-ok : goal.returns-clause-ok
returns-clause-ok g c =
    let at = goal.at.returns-clause-ok g c in
    let now = c.stand_here-2.ensures in
    rw (sym c.group.view_is, sym c.exchange.view_is)
    (collects-shown c.exchange.invariant.3 c.group.inside.number c.group.invariant.0.number_is c.collect.new.self.steps (longer g at.After-collect) _ c.stand_here-2.new.standing c.stand_here-2.ensures.marks
    now.last now.steps now.seen (length c.letters-count.result.now) (ap length c.letters-count.ensures) c.group.inside.hand c.deliver_all.new.hand (took g at.After-deliver_all)
    c.group.inside.standing c.exchange.inside.limit c.group.inside.gone)

pub returns-then-count-eq0-clause-unchanged : goal.returns-then-count-eq0-clause-unchanged
returns-then-count-eq0-clause-unchanged g c = tt

pub returns-then-count-eq0-clause-full : goal.returns-then-count-eq0-clause-full
returns-then-count-eq0-clause-full g c = λ e. not-ok _ _ _ refl e

pub returns-then-count-eq0-clause-limited : goal.returns-then-count-eq0-clause-limited
returns-then-count-eq0-clause-limited g c =
    λ _. (
      box_of c.exchange.inside.boxes.boxes c.group.inside.number,
      there g (goal.at.returns-then-count-eq0-clause-limited g c).After-join_law,
      omega (arith, ap (λ z. z.limit) c.exchange.view_is, ap (λ z. length z.steps) c.exchange.view_is, ap length c.letters-count.ensures, c.if-count-eq0.true, c.exchange.invariant.0),
    )

pub returns-then-count-eq0-clause-long : goal.returns-then-count-eq0-clause-long
returns-then-count-eq0-clause-long g c = λ e. not-ok _ _ _ refl e

pub returns-then-count-eq0-clause-faults : goal.returns-then-count-eq0-clause-faults
returns-then-count-eq0-clause-faults g c = tt

pub returns-then-exchange-len-clause-ok : goal.returns-then-exchange-len-clause-ok
returns-then-exchange-len-clause-ok g c = tt

pub returns-then-exchange-len-clause-unchanged : goal.returns-then-exchange-len-clause-unchanged
returns-then-exchange-len-clause-unchanged g c = (refl, refl)

pub returns-then-exchange-len-clause-full : goal.returns-then-exchange-len-clause-full
returns-then-exchange-len-clause-full g c =
    λ _. (
      box_of c.exchange.inside.boxes.boxes c.group.inside.number,
      there g (goal.at.returns-then-exchange-len-clause-full g c).After-join_law,
      omega (arith, ap (λ z. z.limit) c.exchange.view_is, ap (λ z. length z.steps) c.exchange.view_is, ap length c.letters-count.ensures, c.if-exchange-len.true, c.len.ensures, c.exchange.invariant.0),
    )

pub returns-then-exchange-len-clause-long : goal.returns-then-exchange-len-clause-long
returns-then-exchange-len-clause-long g c =
    let steps = c.exchange.inside.journal.steps in
    let box = box_of c.exchange.inside.boxes.boxes c.group.inside.number in
    λ _. record {
      steps = steps ++ takes_of message_order box;
      enabled = collected-done c.exchange.invariant.3 c.group.inside.number c.group.invariant.0.number_is _ refl;
      many = omega (
        arith,
        length-append steps (takes_of message_order box),
        length-map box (λ (l : Letter). Take l.message.receiver 0),
        ap length c.letters-count.ensures,
        c.if-exchange-len.true,
        c.len.ensures,
        c.exchange.invariant.0,
        ap (λ z. z.limit) c.exchange.view_is,
      );
    }

pub returns-then-exchange-len-clause-limited : goal.returns-then-exchange-len-clause-limited
returns-then-exchange-len-clause-limited g c = λ other. absurd (other refl)

pub returns-then-exchange-len-clause-faults : goal.returns-then-exchange-len-clause-faults
returns-then-exchange-len-clause-faults g c = inr refl

pub invariant_of-exchange-in-Err : goal.invariant_of-exchange-in-Err
invariant_of-exchange-in-Err g c =
    let e = c.reserve_collect.ensures in (
      omega (arith, ap length e.steps, c.exchange.invariant.0),
      c.exchange.invariant.1,
      c.exchange.invariant.2,
      recorded-as c.exchange.invariant.3 c.reserve_collect.new.journal.steps e.steps,
      c.exchange.invariant.4,
      e.keeps ∙ c.exchange.invariant.5,
    )

pub returns-in-Err-clause-ok : goal.returns-in-Err-clause-ok
returns-in-Err-clause-ok g c = tt

pub returns-in-Err-clause-unchanged : goal.returns-in-Err-clause-unchanged
returns-in-Err-clause-unchanged g c =
    let e = c.reserve_collect.ensures in
    let new = c.reserve_collect.new.hand in (
      (λ i. record { steps = e.steps i; marks = marks_in (map (λ (b : LeftHalf Standing). b.value) c.exchange.inside.marks.items); limit = c.exchange.inside.limit }) ∙ c.exchange.view_is,
      subst (IsGroupAsBefore c.args.group.now) (λ i. record (sym c.group.view_is i) { held = new }) (group-as-before c.args.group.now new (subst (λ h. IsAsBefore h.held new) c.group.view_is e.same)),
    )

pub returns-in-Err-clause-full : goal.returns-in-Err-clause-full
returns-in-Err-clause-full g c = not-full c.in-Err.fault _ c.in-Err.ensures.memory refl

pub returns-in-Err-clause-limited : goal.returns-in-Err-clause-limited
returns-in-Err-clause-limited g c =
    λ _. (
      box_of c.exchange.inside.boxes.boxes c.group.inside.number,
      there g (goal.at.returns-in-Err-clause-limited g c).After-join_law,
      omega (arith, ap (λ z. z.limit) c.exchange.view_is, ap (λ z. length z.steps) c.exchange.view_is, ap length c.letters-count.ensures, c.if-exchange-len.false, c.len.ensures, c.exchange.invariant.0),
    )

pub returns-in-Err-clause-long : goal.returns-in-Err-clause-long
returns-in-Err-clause-long g c = not-full c.in-Err.fault _ c.in-Err.ensures.memory refl

pub returns-in-Err-clause-faults : goal.returns-in-Err-clause-faults
returns-in-Err-clause-faults g c = inl c.in-Err.ensures.memory

pub returns-clause-unchanged : goal.returns-clause-unchanged
returns-clause-unchanged g c = tt

pub returns-clause-full : goal.returns-clause-full
returns-clause-full g c = λ e. not-ok _ _ _ refl e

pub returns-clause-limited : goal.returns-clause-limited
returns-clause-limited g c =
    λ _. (
      box_of c.exchange.inside.boxes.boxes c.group.inside.number,
      there g (goal.at.returns-clause-limited g c).After-join_law,
      omega (arith, ap (λ z. z.limit) c.exchange.view_is, ap (λ z. length z.steps) c.exchange.view_is, ap length c.letters-count.ensures, c.if-exchange-len.false, c.len.ensures, c.exchange.invariant.0),
    )

pub returns-clause-long : goal.returns-clause-long
returns-clause-long g c = λ e. not-ok _ _ _ refl e

pub returns-clause-faults : goal.returns-clause-faults
returns-clause-faults g c = tt

pub letters-count-requires : goal.letters-count-requires
letters-count-requires g c = omega (arith, c.exchange.invariant.3.boxes, c.group.invariant.0.number_is)

pub stand_here-requires-clause-within : goal.stand_here-requires-clause-within
stand_here-requires-clause-within g c = half-within c.exchange.inside.marks.items c.exchange.invariant.3.marked.count c.group.invariant.0.number_is

pub stand_here-requires-clause-one : goal.stand_here-requires-clause-one
stand_here-requires-clause-one g c = ap (λ ns. slice_index ns c.group.inside.number) c.exchange.invariant.4 ∙ sym c.group.invariant.1.name

pub overflow_sub-exchange-inside : goal.overflow_sub-exchange-inside
overflow_sub-exchange-inside g c = omega (arith, c.len.ensures, c.exchange.invariant.0)

pub letters-letters-requires : goal.letters-letters-requires
letters-letters-requires g c = omega (arith, c.exchange.invariant.3.boxes, c.group.invariant.0.number_is)

pub collect-requires-clause-within : goal.collect-requires-clause-within
collect-requires-clause-within g c = omega (arith, c.exchange.invariant.3.boxes, c.group.invariant.0.number_is)

pub collect-requires-clause-some : goal.collect-requires-clause-some
collect-requires-clause-some g c = omega (arith, c.in_default.ensures.step_room, c.if-count-eq0.false)

pub collect-requires-clause-room : goal.collect-requires-clause-room
collect-requires-clause-room g c = omega (arith, c.in_default.ensures.step_room, ap length c.letters-count.ensures)

pub collect-requires-clause-few : goal.collect-requires-clause-few
collect-requires-clause-few g c =
    omega (
      arith,
      ap length c.reserve_collect.ensures.steps,
      ap length c.letters-count.ensures,
      c.if-exchange-len.false,
      c.len.ensures,
      c.exchange.invariant.0,
      c.exchange.invariant.1,
    )

pub deliver_all-requires-clause-ours : goal.deliver_all-requires-clause-ours
deliver_all-requires-clause-ours g c =
    let n = c.group.inside.number in
    let letters = c.letters-letters.result.now in
    let home = subst (All (λ (l : Letter). is_of g.J.GroupRun.owners n l.message.receiver ≡ true)) (sym c.letters-letters.ensures) (c.exchange.invariant.3.home n c.group.invariant.0.number_is) in
    λ i d w. ap (λ h. is_ours h.members (get_or letters i d).message.receiver) c.reserve_collect.ensures.same ∙ (c.group.invariant.0.ours (get_or letters i d).message.receiver ∙ home i d w)

pub deliver_all-requires-clause-room : goal.deliver_all-requires-clause-room
deliver_all-requires-clause-room g c = omega (arith, c.in_default.ensures.room, ap length c.letters-letters.ensures, ap length c.letters-count.ensures)

pub clear-requires : goal.clear-requires
clear-requires g c = omega (arith, c.exchange.invariant.3.boxes, c.group.invariant.0.number_is)

pub stand_here-requires-2-clause-within : goal.stand_here-requires-2-clause-within
stand_here-requires-2-clause-within g c = half-within c.exchange.inside.marks.items c.exchange.invariant.3.marked.count c.group.invariant.0.number_is

pub stand_here-requires-2-clause-one : goal.stand_here-requires-2-clause-one
stand_here-requires-2-clause-one g c = ap (λ ns. slice_index ns c.group.inside.number) c.exchange.invariant.4 ∙ sym c.group.invariant.1.name
