use Rattle.std.proofs.Common.{◌≡◌, ◌≤◌, inl, inr, min, map, length, slice_index, take, Ok, refl, sym, ap, ◌∙◌, arith}
use Rattle.antimessages.specs.Mailing.{letters_for}
use Rattle.virtual_time.specs.Law.{Collected, reach}
use Rattle.reverse.specs.Rules.{rules_of}
use Rattle.reverse.specs.Setting.{simulation_of}
use Rattle.process_queues.specs.Queues.{Queues}
use Rattle.halves.specs.declared.LeftHalf.{LeftHalf}
use Rattle.journal.specs.Deeds.{entry_by}
use Rattle.process_exchange.specs.declared.mark.Standing.{Standing}
use Rattle.process_exchange.specs.Views.{marks_in, place_of, own_of}
use Rattle.process_exchange.proofs.Collected.{collects-none, kept-refused}
use Rattle.process_exchange.proofs.Entered.{Entered, entered-behind}
use Rattle.process_exchange.proofs.Holding.{holds-still}
use Rattle.process_exchange.proofs.Limits.{a-place-for-all, fits, no-place-for-all, none-fits, to-take}
use Rattle.halves.proofs.InLists.{half-within}
use Rattle.journal.proofs.Refused.{faults-told, not-full, not-ok}
use Rattle.process_exchange.proofs.Taken.{all-taken, at-most, kept-taken, holds-taken, collects-taken}
use Rattle.process_exchange.proofs.collecting.collect.Given.{Over}
use Rattle.process_exchange.proofs.collecting.collect.Goals.{After-min-count, After-collect-taken, After-enter}
use Rattle.process_exchange.proofs.collecting.collect.Goals as goal

-- so many letters are to be taken
many : (g : Over) (c : After-min-count g) → c.min-count.result ≡ min c.args.most (length (letters_for c.held.inside.number c.exchange.inside.mail))
many g c = omega (arith, c.min-count.ensures, c.count.ensures)

within : (g : Over) (c : After-min-count g) → c.min-count.result ≤ length (letters_for c.held.inside.number c.exchange.inside.mail)
within g c = at-most c.args.most c.min-count.result _ (many g c)

-- all letters for which there is room are taken
took : (g : Over) (c : After-collect-taken g) → c.min-count.result ≤ length (letters_for c.held.inside.number c.exchange.inside.mail) → c.collect-taken.result ≡ Ok c.min-count.result
took g c enough = all-taken c.collect-taken.result c.collect-taken.ensures.reserved c.in_default.ensures.tray enough c.collect-taken.ensures.count

-- its entry is in the journal, and both halves tell it
entered : (g : Over) (c : After-enter g) →
    Entered c.exchange.inside.journal.entries (map (λ (b : LeftHalf Standing). b.value) c.exchange.inside.marks.items)
    c.held.inside.number (place_of c.held.inside.standing.last) (own_of c.held.inside.number c.held.inside.standing.last) (Collected (take c.min-count.result (letters_for c.held.inside.number c.exchange.inside.mail)))
    c.enter.new.journal.entries (map (λ (b : LeftHalf Standing). b.value) c.enter.new.marks.items) c.enter.new.standing
entered g c =
    let mine = rw (sym c.held.view_is, sym c.exchange.view_is) at c.join_law.ensures.own in
    let prior = rw (sym c.held.view_is) at c.mark-prior.ensures in
    let letters = take c.min-count.result (letters_for c.held.inside.number c.exchange.inside.mail) in
    entered-behind mine c.reserve_to_collect.new.journal.entries c.reserve_to_collect.ensures.entries c.collected-entry.result
    (c.collected-entry.ensures ∙ (λ j. entry_by c.held.inside.number (prior j).place (Collected letters)))
    c.enter.ensures.entries c.enter.ensures.place (c.enter.ensures.own c.held.inside.number) c.enter.ensures.marks

pub returns-then-count-eq0-clause-ok : goal.returns-then-count-eq0-clause-ok
returns-then-count-eq0-clause-ok g c =
    let f = simulation_of (rules_of g.R.Reversible.plain) g.J.ActorRun.setting in
    let at = goal.at.returns-then-count-eq0-clause-ok g c in
    let n = c.held.inside.number in
    let none = sym (to-take c.exchange.invariant.2 n c.held.invariant.0.number_is c.args.most c.min-count.result (many g at.After-min-count)) ∙ c.if-count-eq0.true in
    collects-none f c.args.exchange.now c.args.held.now _ _ c.args.most
    (sym (λ i. min c.args.most (length ((reach f (c.exchange.view_is i).entries).mail (c.held.view_is i).number))) ∙ none) c.see.ensures.exchange c.see.ensures.held

pub returns-then-count-eq0-clause-unchanged : goal.returns-then-count-eq0-clause-unchanged
returns-then-count-eq0-clause-unchanged g c = tt

pub returns-then-count-eq0-clause-full : goal.returns-then-count-eq0-clause-full
returns-then-count-eq0-clause-full g c = λ e. not-ok _ _ _ refl e

pub returns-then-count-eq0-clause-limited : goal.returns-then-count-eq0-clause-limited
returns-then-count-eq0-clause-limited g c =
    let at = goal.at.returns-then-count-eq0-clause-limited g c in
    rw (sym c.held.view_is, sym c.exchange.view_is) (λ over. absurd (
    a-place-for-all c.exchange.invariant.2 c.held.inside.number c.held.invariant.0.number_is c.args.most c.min-count.result (many g at.After-min-count)
    c.exchange.inside.limit c.exchange.invariant.0 (none-fits _ _ c.if-count-eq0.true) over))

pub returns-then-count-eq0-clause-faults : goal.returns-then-count-eq0-clause-faults
returns-then-count-eq0-clause-faults g c = tt

pub overflow_sub-exchange-inside : goal.overflow_sub-exchange-inside
overflow_sub-exchange-inside g c = c.exchange.invariant.0

pub returns-then-exchange-count-clause-ok : goal.returns-then-exchange-count-clause-ok
returns-then-exchange-count-clause-ok g c = tt

pub returns-then-exchange-count-clause-unchanged : goal.returns-then-exchange-count-clause-unchanged
returns-then-exchange-count-clause-unchanged g c = rw (sym c.held.view_is, sym c.exchange.view_is) (refl, refl)

pub returns-then-exchange-count-clause-full : goal.returns-then-exchange-count-clause-full
returns-then-exchange-count-clause-full g c =
    let at = goal.at.returns-then-exchange-count-clause-full g c in
    rw (sym c.held.view_is, sym c.exchange.view_is) (λ _.
    no-place-for-all c.exchange.invariant.2 c.held.inside.number c.held.invariant.0.number_is c.args.most c.min-count.result (many g at.After-min-count)
    c.exchange.inside.limit c.if-exchange-count.true)

pub returns-then-exchange-count-clause-limited : goal.returns-then-exchange-count-clause-limited
returns-then-exchange-count-clause-limited g c = λ _. refl

pub returns-then-exchange-count-clause-faults : goal.returns-then-exchange-count-clause-faults
returns-then-exchange-count-clause-faults g c = inr (inl refl)

pub invariant_of-exchange : goal.invariant_of-exchange
invariant_of-exchange g c = (
  c.exchange.invariant.0,
  c.exchange.invariant.1,
  kept-refused c.exchange.invariant.2 c.reserve_to_collect.new.journal.entries c.reserve_to_collect.ensures.entries c.exchange.inside.mail refl (λ q. refl),
  c.exchange.invariant.3,
  c.reserve_to_collect.ensures.keeps ∙ c.exchange.invariant.4,
)

pub invariant_of-held : goal.invariant_of-held
invariant_of-held g c = (
  holds-still c.held.invariant.0 c.reserve_to_collect.new.process.queues c.reserve_to_collect.ensures.queues c.held.inside.block refl,
  c.held.invariant.1,
)

pub returns-in-Err-clause-ok : goal.returns-in-Err-clause-ok
returns-in-Err-clause-ok g c = tt

pub returns-in-Err-clause-unchanged : goal.returns-in-Err-clause-unchanged
returns-in-Err-clause-unchanged g c =
    rw (sym c.held.view_is, sym c.exchange.view_is) (
      (λ i. record {
        entries = c.reserve_to_collect.ensures.entries i;
        marks = marks_in (map (λ (b : LeftHalf Standing). b.value) c.exchange.inside.marks.items);
        shared = c.reserve_to_collect.ensures.shared i;
        limit = c.exchange.inside.limit;
      }),
      refl,
    )

pub returns-in-Err-clause-full : goal.returns-in-Err-clause-full
returns-in-Err-clause-full g c = not-full c.in-Err.fault _ _ c.in-Err.ensures.faults _ refl

pub returns-in-Err-clause-limited : goal.returns-in-Err-clause-limited
returns-in-Err-clause-limited g c =
    let at = goal.at.returns-in-Err-clause-limited g c in
    rw (sym c.held.view_is, sym c.exchange.view_is) (λ over. absurd (
    a-place-for-all c.exchange.invariant.2 c.held.inside.number c.held.invariant.0.number_is c.args.most c.min-count.result (many g at.After-min-count)
    c.exchange.inside.limit c.exchange.invariant.0 c.if-exchange-count.false over))

pub returns-in-Err-clause-faults : goal.returns-in-Err-clause-faults
returns-in-Err-clause-faults g c = rw (sym c.exchange.view_is) (faults-told c.in-Err.fault _ _ c.in-Err.ensures.faults g.J.ActorRun.keeps c.exchange.invariant.4)

pub enter-requires-clause-room : goal.enter-requires-clause-room
enter-requires-clause-room g c = c.in_default.ensures.entry

pub enter-requires-clause-within : goal.enter-requires-clause-within
enter-requires-clause-within g c = half-within c.exchange.inside.marks.items c.exchange.invariant.2.marked.count c.held.invariant.0.number_is

pub enter-requires-clause-one : goal.enter-requires-clause-one
enter-requires-clause-one g c = ap (λ ns. slice_index ns c.held.inside.number) c.exchange.invariant.3 ∙ sym c.held.invariant.1.name

pub lower_floor-requires-clause-within : goal.lower_floor-requires-clause-within
lower_floor-requires-clause-within g c = omega (arith, c.exchange.invariant.2.floor_count, c.held.invariant.0.number_is)

pub lower_floor-requires-clause-enough : goal.lower_floor-requires-clause-enough
lower_floor-requires-clause-enough g c = within g (goal.at.lower_floor-requires-clause-enough g c).After-min-count

pub overflow_add-exchange : goal.overflow_add-exchange
overflow_add-exchange g c = omega (arith, c.if-exchange-count.false, c.exchange.invariant.0, c.exchange.invariant.1)

pub invariant_of-exchange-2 : goal.invariant_of-exchange-2
invariant_of-exchange-2 g c =
    let at = goal.at.invariant_of-exchange-2 g c in
    let taken = c.collect-taken.ensures in
    let floors = c.lower_floor.ensures in (
      fits c.exchange.inside.limit c.exchange.inside.steps c.min-count.result c.exchange.invariant.0 c.if-exchange-count.false,
      c.exchange.invariant.1,
      kept-taken c.exchange.invariant.2 c.held.invariant.0 c.min-count.result (within g at.After-min-count) (omega (arith, c.if-count-eq0.false)) (entered g at.After-enter) c.enter.ensures.seen
          c.collect-taken.new.mail taken.processes (rw (took g at.After-collect-taken (within g at.After-min-count)) at taken.left) taken.others
          c.lower_floor.new.floors floors.processes floors.until floors.floor floors.others,
      c.enter.ensures.names ∙ c.exchange.invariant.3,
      c.enter.ensures.keeps ∙ (c.reserve_to_collect.ensures.keeps ∙ c.exchange.invariant.4),
    )

pub invariant_of-held-2 : goal.invariant_of-held-2
invariant_of-held-2 g c =
    let at = goal.at.invariant_of-held-2 g c in
    let taken = rw (took g at.After-collect-taken (within g at.After-min-count)) at c.collect-taken.ensures.delivered in
    let queues = rw (took g at.After-collect-taken (within g at.After-min-count)) at c.collect-taken.ensures.queues in (
      holds-taken c.exchange.invariant.2 c.held.invariant.0 c.min-count.result (within g at.After-min-count) (omega (arith, c.if-count-eq0.false)) (entered g at.After-enter) c.enter.ensures.seen
          (rw (sym c.held.view_is) at c.requires.posted) (invariant_of-exchange-2 g c).2 (c.actor_law.ensures g.J.ActorRun.setting c.exchange.invariant.2.laid)
          c.reserve_to_collect.new.process.queues c.collect-taken.new.self.queues c.reserve_to_collect.ensures.queues taken
          (ap (λ (z : Queues g.row.R.Denot g.row.R-Record.Denot). z.left) queues),
      record { name = c.enter.ensures.name ∙ c.held.invariant.1.name; value = c.enter.ensures.mark },
    )

pub returns-clause-ok : goal.returns-clause-ok
returns-clause-ok g c =
    let at = goal.at.returns-clause-ok g c in
    let none = rw (sym c.held.view_is) at c.requires.posted in
    rw (sym c.held.view_is, sym c.exchange.view_is)
    (collects-taken c.exchange.invariant.2 c.held.invariant.0 c.min-count.result (within g at.After-min-count) (omega (arith, c.if-count-eq0.false)) (entered g at.After-enter) c.enter.ensures.seen
    none c.args.most _ _ (c.enter.ensures.shared ∙ c.reserve_to_collect.ensures.shared) c.exchange.inside.limit (many g at.After-min-count))

pub returns-clause-unchanged : goal.returns-clause-unchanged
returns-clause-unchanged g c = tt

pub returns-clause-full : goal.returns-clause-full
returns-clause-full g c = λ e. not-ok _ _ _ refl e

pub returns-clause-limited : goal.returns-clause-limited
returns-clause-limited g c =
    let at = goal.at.returns-clause-limited g c in
    rw (sym c.held.view_is, sym c.exchange.view_is) (λ over. absurd (
    a-place-for-all c.exchange.invariant.2 c.held.inside.number c.held.invariant.0.number_is c.args.most c.min-count.result (many g at.After-min-count)
    c.exchange.inside.limit c.exchange.invariant.0 c.if-exchange-count.false over))

pub returns-clause-faults : goal.returns-clause-faults
returns-clause-faults g c = tt

pub overflow_cast-count : goal.overflow_cast-count
overflow_cast-count g c = omega (arith, c.min-count.ensures, c.ranges.most)

pub overflow_cast-result : goal.overflow_cast-result
overflow_cast-result g c = omega (arith, c.min-count.ensures, c.ranges.most)
