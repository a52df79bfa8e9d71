use Rattle.std.proofs.Common.{◌≡◌, ◌<◌, ◌≤◌, ◌++◌, inl, inr, All, map, length, slice_index, refl, sym, ap, ◌∙◌, subst, arith, length-append}
use Rattle.vlink.specs.Letters.{Letter}
use Rattle.vlink.specs.Order.{message_order}
use Rattle.virtual_time.specs.Law.{AreBy, behind, waiting_in}
use Rattle.reverse.specs.Rules.{rules_of}
use Rattle.reverse.specs.Setting.{simulation_of}
use Rattle.group_queues.specs.Block.{steps_told}
use Rattle.group_boxes.specs.Boxing.{waiting_for}
use Rattle.halves.specs.declared.LeftHalf.{LeftHalf}
use Rattle.halves.proofs.InLists.{half-within}
use Rattle.journal.proofs.Refused.{not-ok}
use Rattle.group_exchange.specs.declared.mark.Standing.{Standing}
use Rattle.group_exchange.specs.Effects.{CountsDone}
use Rattle.group_exchange.specs.Views.{block_of, box_of, for_group, is_of, last_in, marks_in, world_after}
use Rattle.group_exchange.specs.Keeps.{Holds, IsMarked}
use Rattle.group_exchange.proofs.Again.{group-counted, left-block}
use Rattle.group_exchange.proofs.Ends.{posts-some}
use Rattle.group_exchange.proofs.Gathers.{posts-shown}
use Rattle.group_exchange.proofs.Going.{not-full}
use Rattle.group_exchange.proofs.Halves.{marked-by, recorded-as}
use Rattle.group_exchange.proofs.Holding.{holds-again, holds-as}
use Rattle.group_exchange.proofs.Posted.{abroad-lawful, kept-posted, holds-posted, posted-done}
use Rattle.group_exchange.proofs.RowsKept.{rows-again}
use Rattle.group_exchange.proofs.Waiting.{behind-waiting, recorded-mail}
use Rattle.group_exchange.proofs.Words.{length_behind}
use Rattle.group_exchange.proofs.posting.post.Given.{Over}
use Rattle.group_exchange.proofs.posting.post.Goals.{After-join_law, After-reserve_post, After-post_reserved}
use Rattle.group_exchange.proofs.posting.post.Goals as goal

-- where the group stands
marked : (g : Over) (c : After-join_law g) →
    IsMarked (rules_of g.R.Reversible.plain) g.R.Actor.number g.R.Actor.end g.R.Actor.is_placed g.J.GroupRun.setting g.J.GroupRun.owners
    c.exchange.inside.journal.steps c.exchange.inside.gvt c.group.inside.number c.group.inside.standing
marked g c =
    marked-by c.exchange.invariant.3 c.group.inside.number c.group.inside.standing (rw (sym c.group.view_is, sym c.exchange.view_is) at c.join_law.ensures.stands) c.group.invariant.3
    (rw (sym c.group.view_is, sym c.exchange.view_is) at c.join_law.ensures.seen)

-- the group in hand where messages that are done count beside
held : (g : Over) (c : After-reserve_post g) →
    Holds (rules_of g.R.Reversible.plain) g.R.Actor.number g.R.Actor.end g.R.Actor.is_placed g.J.GroupRun.setting g.J.GroupRun.owners g.R.Reversible.is_value (length g.J.GroupRun.names)
    c.group.inside.number c.group.inside.standing.seen (last_in c.group.inside.standing) c.reserve_post.new.hand
held g c =
    let e = c.reserve_post.ensures in
    holds-again c.group.invariant.0 c.reserve_post.new.hand (ap (λ z. z.members) e.counted) (ap (λ z. z.flow.words) e.counted) (λ v t. e.stands g.J.GroupRun.setting v t)

-- its block has so many steps
counted : (g : Over) (c : After-reserve_post g) → length (steps_told c.reserve_post.new.hand.flow.words) ≡ c.steps-count.result
counted g c =
    ap (λ ws. length (steps_told ws)) (ap (λ z. z.flow.words) c.reserve_post.ensures.counted ∙ sym c.block.ensures.words) ∙ sym c.steps-count.ensures

-- which are in the journal, each Take behind the letters that wait there
posted : (g : Over) (c : After-post_reserved g) → AreBy (is_of g.J.GroupRun.owners c.group.inside.number) (steps_told c.reserve_post.new.hand.flow.words) →
    c.post_reserved.new.journal.steps ≡ c.exchange.inside.journal.steps
    ++ map (behind (waiting_in (simulation_of (rules_of g.R.Reversible.plain) g.J.GroupRun.setting) (world_after (simulation_of (rules_of g.R.Reversible.plain) g.J.GroupRun.setting) c.exchange.inside.journal.steps)))
    (steps_told c.reserve_post.new.hand.flow.words)
posted g c by =
    let e = c.reserve_post.ensures in
    let boxes = c.reserve_post.new.boxes in
    c.post_reserved.ensures.steps ∙
    ((λ i. e.steps i ++ map (behind (waiting_for boxes)) (steps_told (ap (λ z. z.flow.words) c.floor-floor.ensures.same i))) ∙
    ap (λ xs. c.exchange.inside.journal.steps ++ xs)
    (behind-waiting (recorded-mail c.exchange.invariant.3 boxes e.owners e.boxes) refl c.group.inside.number (steps_told c.reserve_post.new.hand.flow.words) by))

pub invariant_of-exchange : goal.invariant_of-exchange
invariant_of-exchange g c =
    let e = c.reserve_post.ensures in (
      (let a = ap length e.steps in let b = c.exchange.invariant.0 in omega arith),
      c.exchange.invariant.1,
      c.exchange.invariant.2,
      recorded-as (recorded-mail c.exchange.invariant.3 c.reserve_post.new.boxes e.owners e.boxes) c.reserve_post.new.journal.steps e.steps,
      c.exchange.invariant.4,
      e.keeps ∙ c.exchange.invariant.5,
    )

pub invariant_of-group : goal.invariant_of-group
invariant_of-group g c =
    let e = c.reserve_post.ensures.counted in (
      held g (goal.at.invariant_of-group g c).After-reserve_post,
      c.group.invariant.1,
      ap (λ z. z.flow.keeps) e ∙ c.group.invariant.2,
      c.group.invariant.3,
      c.group.invariant.4,
      rows-again c.group.invariant.5 c.reserve_post.new.hand (ap (λ z. z.rows) e) (ap (λ z. z.done) e) c.group.inside.standing.seen (omega arith),
    )

pub post_reserved-requires : goal.post_reserved-requires
post_reserved-requires g c =
    let at = goal.at.post_reserved-requires g c in
    let k = c.exchange.invariant.3 in
    let L = c.actor_law.ensures g.J.GroupRun.setting k.laid in
    let x = g.J.GroupRun.setting in
    let e = c.reserve_post.ensures in
    let same = c.floor-floor.ensures.same in
    let words = ap (λ z. length (steps_told z.flow.words)) same ∙ counted g at.After-reserve_post in
    let abroad = ap (λ z. z.flow.abroad) same in
    let lawful = abroad-lawful k c.group.inside.number (marked g at.After-join_law) (held g at.After-reserve_post) _ refl L in
    let goes = subst (λ ls. All (λ (l : Letter). (l.message.receiver < x.processes) × (l.message.time ≤ x.until)) ls) (sym abroad) lawful in
    record {
      some = omega (arith, words, c.if-count-eq0.false);
      kept = λ t. ap (λ z. z.flow.keeps) same ∙ (ap (λ z. z.flow.keeps) e.counted ∙ (c.group.invariant.2 ∙ (sym (e.keeps ∙ c.exchange.invariant.5) ∙ t)));
      step_room = omega (arith, words, c.in_default.ensures.step_room);
      few = omega (arith, words, ap length e.steps, c.if-exchange-len.false, c.len.ensures, c.exchange.invariant.0, c.exchange.invariant.1);
      receivers = λ i d w. (let a = goes i d w in omega (arith, a.0, ap length (e.owners ∙ k.owners_is), k.grouped.each));
      box_room = λ i d w. (let a = c.in_default.ensures.box_room i d w in omega (arith, a, ap length abroad));
    }

pub invariant_of-exchange-2 : goal.invariant_of-exchange-2
invariant_of-exchange-2 g c =
    let at = goal.at.invariant_of-exchange-2 g c in
    let k = c.exchange.invariant.3 in
    let L = c.actor_law.ensures g.J.GroupRun.setting k.laid in
    let x = g.J.GroupRun.setting in
    let h = held g at.After-reserve_post in
    let e = c.reserve_post.ensures in
    let p = c.post_reserved.ensures in
    let floor = c.floor-floor.ensures in
    let now = c.stand_here.ensures in
    let abroad = ap (λ z. z.flow.abroad) floor.same in
    let waiting = waiting_for c.reserve_post.new.boxes in
    let block = steps_told c.floor-floor.new.self.flow.words in
    let words = ap (λ z. length (steps_told z.flow.words)) floor.same ∙ counted g at.After-reserve_post in (
      omega (
        arith,
        ap length p.steps,
        length-append c.reserve_post.new.journal.steps (map (behind waiting) block),
        length_behind waiting block,
        words,
        ap length e.steps,
        c.if-exchange-len.false,
        c.len.ensures,
        c.exchange.invariant.0,
      ),
      c.exchange.invariant.1,
      c.exchange.invariant.2,
      kept-posted k c.group.inside.number (marked g at.After-join_law) h c.post_reserved.new.journal.steps (posted g at.After-post_reserved h.by) L
          c.post_reserved.new.boxes (p.owners ∙ e.owners) (p.boxes ∙ ap length e.boxes)
          (λ i w. p.posted i (omega (arith, w, k.boxes, ap length e.boxes)) ∙ (λ j. box_of (e.boxes j) i ++ for_group message_order ((e.owners ∙ k.owners_is) j) i (abroad j)))
          c.set.new.self c.set.ensures.processes c.set.ensures.until c.floor-floor.result
          (record {
            bound = λ q o. floor.bound x _ c.exchange.invariant.2 h.stands q o;
            reached = elim (floor.reached x _ c.exchange.invariant.2 h.stands (c.in_default.ensures.waits h.stands.ascending)) [ inl a ↦ inl (a ∙ c.exchange.invariant.2) | inr b ↦ inr b ];
          })
          c.set.ensures.here c.set.ensures.others c.stand_here.new.standing now.last now.steps now.seen _ c.stand_here.ensures.marks,
      c.stand_here.ensures.names ∙ c.exchange.invariant.4,
      p.keeps ∙ (e.keeps ∙ c.exchange.invariant.5),
    )

pub invariant_of-group-2 : goal.invariant_of-group-2
invariant_of-group-2 g c =
    let at = goal.at.invariant_of-group-2 g c in
    let h = held g at.After-reserve_post in
    let e = c.reserve_post.ensures.counted in
    let left = c.post_reserved.ensures.left in
    let same = c.floor-floor.ensures.same in
    let now = c.stand_here.ensures in
    let new = c.post_reserved.new.hand in (
      holds-as (holds-posted c.exchange.invariant.3 c.group.inside.number (marked g at.After-join_law) h c.post_reserved.new.journal.steps (posted g at.After-post_reserved h.by)
          new (ap (λ z. z.members) left ∙ ap (λ z. z.members) same) (ap (λ z. z.flow.words) left)
          (λ v t. c.post_reserved.ensures.stands g.J.GroupRun.setting v (c.hand_law.ensures.as_before c.reserve_post.new.hand c.floor-floor.new.self same g.J.GroupRun.setting v t)))
          c.stand_here.new.standing.seen (last_in c.stand_here.new.standing) now.seen now.last,
      record { name = c.stand_here.ensures.name ∙ c.group.invariant.1.name; value = c.stand_here.ensures.mark },
      ap (λ z. z.flow.keeps) left ∙ (ap (λ z. z.flow.keeps) same ∙ (ap (λ z. z.flow.keeps) e ∙ c.group.invariant.2)),
      now.steps ∙ sym (ap length now.last),
      c.group.invariant.4,
      rows-again c.group.invariant.5 new (ap (λ z. z.rows) left ∙ (ap (λ z. z.rows) same ∙ ap (λ z. z.rows) e)) (ap (λ z. z.done) left ∙ (ap (λ z. z.done) same ∙ ap (λ z. z.done) e))
          c.stand_here.new.standing.seen (omega (arith, now.seen)),
    )

pub returns-clause-ok : goal.returns-clause-ok
returns-clause-ok g c =
    let at = goal.at.returns-clause-ok g c in
    let f = simulation_of (rules_of g.R.Reversible.plain) g.J.GroupRun.setting in
    let steps = c.exchange.inside.journal.steps in
    let e = c.reserve_post.ensures.counted in
    let h = c.group.inside.hand in
    let now = c.stand_here.ensures in
    let words = ap (λ ws. length (steps_told ws)) c.block.ensures.words in
    let more = posted g at.After-post_reserved (held g at.After-reserve_post).by ∙ ap (λ ws. steps ++ map (behind (waiting_in f (world_after f steps))) (steps_told ws)) (ap (λ z. z.flow.words) e) in
    rw (sym c.group.view_is, sym c.exchange.view_is) (posts-some f g.J.GroupRun.owners h.flow.words _ _ _ _ (omega (arith, words, c.if-count-eq0.false, c.steps-count.ensures))
    (posts-shown c.exchange.invariant.3 c.group.inside.number c.group.invariant.0.number_is h c.post_reserved.new.journal.steps more _ c.stand_here.new.standing c.stand_here.ensures.marks
    now.last now.steps c.group.inside.standing now.seen c.post_reserved.new.hand
    (left-block h c.reserve_post.new.hand c.floor-floor.new.self c.post_reserved.new.hand e c.floor-floor.ensures.same c.post_reserved.ensures.left) c.exchange.inside.limit c.group.inside.gone))

pub returns-then-count-eq0-clause-unchanged : goal.returns-then-count-eq0-clause-unchanged
returns-then-count-eq0-clause-unchanged g c = tt

pub returns-then-count-eq0-clause-full : goal.returns-then-count-eq0-clause-full
returns-then-count-eq0-clause-full g c = λ e. not-ok _ _ _ refl e

pub returns-then-count-eq0-clause-long : goal.returns-then-count-eq0-clause-long
returns-then-count-eq0-clause-long g c = λ e. not-ok _ _ _ refl e

pub returns-then-count-eq0-clause-faults : goal.returns-then-count-eq0-clause-faults
returns-then-count-eq0-clause-faults g c = tt

pub returns-then-exchange-len-clause-ok : goal.returns-then-exchange-len-clause-ok
returns-then-exchange-len-clause-ok g c = tt

pub returns-then-exchange-len-clause-unchanged : goal.returns-then-exchange-len-clause-unchanged
returns-then-exchange-len-clause-unchanged g c = (refl, refl)

pub returns-then-exchange-len-clause-full : goal.returns-then-exchange-len-clause-full
returns-then-exchange-len-clause-full g c =
    let words = ap (λ ws. length (steps_told ws)) c.block.ensures.words in
    let block = ap (λ z. length (block_of z)) c.group.view_is in
    λ _. (
      omega (arith, c.if-count-eq0.false, c.steps-count.ensures, words, block),
      omega (arith, c.if-exchange-len.true, c.len.ensures, c.steps-count.ensures, words, c.exchange.invariant.0, ap (λ z. z.limit) c.exchange.view_is, ap (λ z. length z.steps) c.exchange.view_is, block),
    )

pub returns-then-exchange-len-clause-long : goal.returns-then-exchange-len-clause-long
returns-then-exchange-len-clause-long g c =
    let f = simulation_of (rules_of g.R.Reversible.plain) g.J.GroupRun.setting in
    let steps = c.exchange.inside.journal.steps in
    let waiting = waiting_in f (world_after f steps) in
    let block = steps_told c.group.inside.hand.flow.words in
    let words = ap (λ ws. length (steps_told ws)) c.block.ensures.words in
    λ _. record {
      steps = steps ++ map (behind waiting) block;
      enabled = posted-done c.exchange.invariant.3 c.group.inside.number (marked g (goal.at.returns-then-exchange-len-clause-long g c).After-join_law) c.group.invariant.0 _ refl;
      many = omega (
        arith,
        length-append steps (map (behind waiting) block),
        length_behind waiting block,
        c.if-exchange-len.true,
        c.len.ensures,
        c.steps-count.ensures,
        words,
        c.exchange.invariant.0,
        ap (λ z. z.limit) c.exchange.view_is,
      );
    }

pub returns-then-exchange-len-clause-limited : goal.returns-then-exchange-len-clause-limited
returns-then-exchange-len-clause-limited g c = λ _ _. refl

pub returns-then-exchange-len-clause-faults : goal.returns-then-exchange-len-clause-faults
returns-then-exchange-len-clause-faults g c = inr refl

pub returns-in-Err-clause-ok : goal.returns-in-Err-clause-ok
returns-in-Err-clause-ok g c = tt

pub returns-in-Err-clause-unchanged : goal.returns-in-Err-clause-unchanged
returns-in-Err-clause-unchanged g c =
    let e = c.reserve_post.ensures in
    let new = c.reserve_post.new.hand in (
      (λ i. record { steps = e.steps i; marks = marks_in (map (λ (b : LeftHalf Standing). b.value) c.exchange.inside.marks.items); limit = c.exchange.inside.limit }) ∙ c.exchange.view_is,
      subst (CountsDone c.args.group.now) (λ i. record (sym c.group.view_is i) { held = new }) (group-counted c.args.group.now new (subst (λ h. new ≡ record h.held { flow = record h.held.flow { queue = new.flow.queue; extra = new.flow.extra; room = new.flow.room } }) c.group.view_is e.counted)),
    )

pub returns-in-Err-clause-full : goal.returns-in-Err-clause-full
returns-in-Err-clause-full g c = not-full c.in-Err.fault _ c.in-Err.ensures.memory refl

pub returns-in-Err-clause-limited : goal.returns-in-Err-clause-limited
returns-in-Err-clause-limited g c =
    let words = ap (λ ws. length (steps_told ws)) c.block.ensures.words in
    λ over some. absurd (omega (arith, over, c.if-exchange-len.false, c.len.ensures, c.steps-count.ensures, words, ap (λ z. z.limit) c.exchange.view_is, ap (λ z. length z.steps) c.exchange.view_is, ap (λ z. length (block_of z)) c.group.view_is))

pub returns-in-Err-clause-long : goal.returns-in-Err-clause-long
returns-in-Err-clause-long g c = not-full c.in-Err.fault _ c.in-Err.ensures.memory refl

pub returns-in-Err-clause-faults : goal.returns-in-Err-clause-faults
returns-in-Err-clause-faults g c = inl c.in-Err.ensures.memory

pub returns-clause-unchanged : goal.returns-clause-unchanged
returns-clause-unchanged g c = tt

pub returns-clause-full : goal.returns-clause-full
returns-clause-full g c = λ e. not-ok _ _ _ refl e

pub returns-clause-limited : goal.returns-clause-limited
returns-clause-limited g c =
    let words = ap (λ ws. length (steps_told ws)) c.block.ensures.words in
    λ over some. absurd (omega (arith, over, c.if-exchange-len.false, c.len.ensures, c.steps-count.ensures, words, ap (λ z. z.limit) c.exchange.view_is, ap (λ z. length z.steps) c.exchange.view_is, ap (λ z. length (block_of z)) c.group.view_is))

pub returns-clause-long : goal.returns-clause-long
returns-clause-long g c = λ e. not-ok _ _ _ refl e

pub returns-clause-faults : goal.returns-clause-faults
returns-clause-faults g c = tt

pub overflow_sub-exchange-inside : goal.overflow_sub-exchange-inside
overflow_sub-exchange-inside g c = omega (arith, c.len.ensures, c.exchange.invariant.0)

pub set-requires : goal.set-requires
set-requires g c = omega (arith, c.exchange.invariant.3.floor_count, c.group.invariant.0.number_is)

pub stand_here-requires-clause-within : goal.stand_here-requires-clause-within
stand_here-requires-clause-within g c = half-within c.exchange.inside.marks.items c.exchange.invariant.3.marked.count c.group.invariant.0.number_is

pub stand_here-requires-clause-one : goal.stand_here-requires-clause-one
stand_here-requires-clause-one g c = ap (λ ns. slice_index ns c.group.inside.number) c.exchange.invariant.4 ∙ sym c.group.invariant.1.name
