use Rattle.std.proofs.Common.{◌<◌, All, IsOk, inl, inr, map, length, slice_index, ◌+◌, ◌++◌, refl, sym, ap, ◌∙◌, subst, arith}
use Rattle.virtual_time.specs.Law.{received_by, Posted}
use Rattle.reverse.specs.Rules.{rules_of}
use Rattle.reverse.specs.Setting.{simulation_of}
use Rattle.process_queues.specs.Queues.{Queues}
use Rattle.halves.specs.declared.LeftHalf.{LeftHalf}
use Rattle.journal.specs.Deeds.{entry_by}
use Rattle.process_exchange.specs.declared.mark.Standing.{Standing}
use Rattle.process_exchange.specs.Views.{marks_in, place_of, own_of}
use Rattle.process_exchange.proofs.Collected.{kept-refused}
use Rattle.process_exchange.proofs.Holding.{Joined}
use Rattle.process_exchange.proofs.Joining.{seen-low}
use Rattle.process_exchange.proofs.Entered.{Entered, entered-behind}
use Rattle.process_exchange.proofs.Limits.{fits-all, more-than-fit, too-many}
use Rattle.halves.proofs.InLists.{half-within}
use Rattle.process_exchange.proofs.Outcomes.{when-ok}
use Rattle.process_exchange.proofs.Posted.{outbox-goes, kept-posted, holds-posted, block-posted, posts-none}
use Rattle.journal.proofs.Refused.{faults-told, not-full, not-ok}
use Rattle.process_exchange.proofs.posting.post.Given.{Over}
use Rattle.process_exchange.proofs.posting.post.Goals.{After-join_law, After-post-posted, After-enter}
use Rattle.process_exchange.proofs.posting.post.Goals as goal

-- the process in hand is that of the journal
joined : (g : Over) (c : After-join_law g) →
    Joined (simulation_of (rules_of g.R.Reversible.plain) g.J.ActorRun.setting) c.exchange.inside.journal.entries c.held.inside.number c.held.inside.block (own_of c.held.inside.number c.held.inside.standing.last)
joined g c = record {
  part = rw (sym c.held.view_is, sym c.exchange.view_is) at c.join_law.ensures.part;
  enabled = rw (sym c.held.view_is, sym c.exchange.view_is) at c.join_law.ensures.enabled;
  own = rw (sym c.held.view_is, sym c.exchange.view_is) at c.join_law.ensures.own;
}

-- what is in the outbox goes to processes
goes : (g : Over) (c : After-join_law g) → All (λ l. l.message.receiver < length c.exchange.inside.mail) c.held.inside.process.queues.outbox
goes g c = outbox-goes c.exchange.invariant.2 c.held.invariant.0 (c.actor_law.ensures g.J.ActorRun.setting c.exchange.invariant.2.laid) (joined g c)

-- the mail has room for it
is-ok : (g : Over) (c : After-post-posted g) → IsOk c.post-posted.result
is-ok g c = c.post-posted.ensures.reserved c.in_default.ensures.mail

-- its entry is in the journal, and both halves tell it
entered : (g : Over) (c : After-enter g) →
    Entered c.exchange.inside.journal.entries (map (λ (b : LeftHalf Standing). b.value) c.exchange.inside.marks.items)
    c.held.inside.number (place_of c.held.inside.standing.last) (own_of c.held.inside.number c.held.inside.standing.last) (Posted c.held.inside.block)
    c.enter.new.journal.entries (map (λ (b : LeftHalf Standing). b.value) c.enter.new.marks.items) c.enter.new.standing
entered g c =
    let mine = rw (sym c.held.view_is, sym c.exchange.view_is) at c.join_law.ensures.own in
    let prior = rw (sym c.held.view_is) at c.mark-prior.ensures in
    entered-behind mine c.reserve_to_post.new.journal.entries c.reserve_to_post.ensures.entries c.posted.result
    (c.posted.ensures ∙ (λ j. entry_by c.held.inside.number (prior j).place (Posted (c.replace-block.ensures.value j))))
    c.enter.ensures.entries c.enter.ensures.place (c.enter.ensures.own c.held.inside.number) c.enter.ensures.marks

pub reserve_to_post-requires : goal.reserve_to_post-requires
reserve_to_post-requires g c = goes g (goal.at.reserve_to_post-requires g c).After-join_law

pub post-posted-requires : goal.post-posted-requires
post-posted-requires g c =
    subst (λ n. All (λ l. l.message.receiver < n) c.held.inside.process.queues.outbox) (sym c.reserve_to_post.ensures.boxes) (goes g (goal.at.post-posted-requires g c).After-join_law)

pub invariant_of-held : goal.invariant_of-held
invariant_of-held g c =
    let at = goal.at.invariant_of-held g c in
    let k = c.exchange.invariant.2 in
    let L = c.actor_law.ensures g.J.ActorRun.setting k.laid in
    let ok = is-ok g at.After-post-posted in (
      holds-posted k c.held.invariant.0 L (entered g at.After-enter) c.enter.ensures.seen (when-ok c.post-posted.result ok c.post-posted.ensures.emptied)
          (ap (λ (z : Queues g.row.R.Denot g.row.R-Record.Denot). z.left) (when-ok c.post-posted.result ok c.post-posted.ensures.queues))
          c.replace-block.new.dest (c.replace-block.ensures.after ∙ c.new.ensures),
      record { name = c.enter.ensures.name ∙ c.held.invariant.1.name; value = c.enter.ensures.mark },
    )

pub invariant_of-exchange-2 : goal.invariant_of-exchange-2
invariant_of-exchange-2 g c =
    let at = goal.at.invariant_of-exchange-2 g c in
    let k = c.exchange.invariant.2 in
    let h = c.held.invariant.0 in
    let L = c.actor_law.ensures g.J.ActorRun.setting k.laid in
    let fits = rw (sym c.held.view_is, sym c.exchange.view_is) at c.join_law.ensures.same in
    let ok = is-ok g at.After-post-posted in
    let posted = when-ok c.post-posted.result ok c.post-posted.ensures.posted in (
      fits-all c.exchange.inside.limit c.exchange.inside.steps c.len-moves.result c.exchange.invariant.0 c.if-moves-exchange.false,
      c.exchange.invariant.1,
      kept-posted k h L (entered g at.After-enter) c.enter.ensures.seen (when-ok c.post-posted.result ok c.post-posted.ensures.emptied) (joined g at.After-join_law)
          (seen-low k h.number_is c.held.inside.standing fits) (λ s m. g.met.R.Actor.end_stays s m)
          c.post-posted.new.mail (c.post-posted.ensures.processes ∙ c.reserve_to_post.ensures.boxes)
          (λ q. posted q ∙ (λ j. c.reserve_to_post.ensures.letters q j ++ received_by (rules_of g.R.Reversible.plain).order q c.held.inside.process.queues.outbox))
          c.set.new.self c.set.ensures.processes c.set.ensures.until c.floor.result c.floor.ensures c.set.ensures.here c.set.ensures.others _ (ap (λ n. c.exchange.inside.steps + (n + 1)) c.len-moves.ensures),
      c.enter.ensures.names ∙ c.exchange.invariant.3,
      c.enter.ensures.keeps ∙ (c.reserve_to_post.ensures.keeps ∙ c.exchange.invariant.4),
    )

pub returns-clause-ok : goal.returns-clause-ok
returns-clause-ok g c =
    let f = simulation_of (rules_of g.R.Reversible.plain) g.J.ActorRun.setting in
    rw (sym c.held.view_is, sym c.exchange.view_is)
    (block-posted f (entered g (goal.at.returns-clause-ok g c).After-enter) c.enter.ensures.seen (omega (arith, c.len-moves.ensures, c.if-moves-eq0.false)) _ _ (c.enter.ensures.shared ∙ c.reserve_to_post.ensures.shared) c.exchange.inside.limit c.held.inside.gone
    c.replace-block.new.dest (c.replace-block.ensures.after ∙ c.new.ensures))

pub returns-then-moves-eq0-clause-ok : goal.returns-then-moves-eq0-clause-ok
returns-then-moves-eq0-clause-ok g c =
    let f = simulation_of (rules_of g.R.Reversible.plain) g.J.ActorRun.setting in
    rw (sym c.held.view_is) (posts-none f _ _ _ _ c.held.inside.block (sym c.len-moves.ensures ∙ c.if-moves-eq0.true) refl refl)

pub returns-then-moves-eq0-clause-unchanged : goal.returns-then-moves-eq0-clause-unchanged
returns-then-moves-eq0-clause-unchanged g c = tt

pub returns-then-moves-eq0-clause-full : goal.returns-then-moves-eq0-clause-full
returns-then-moves-eq0-clause-full g c = λ e. not-ok _ _ _ refl e

pub returns-then-moves-eq0-clause-limited : goal.returns-then-moves-eq0-clause-limited
returns-then-moves-eq0-clause-limited g c = rw (sym c.held.view_is) (λ some. absurd (omega (arith, some, c.len-moves.ensures, c.if-moves-eq0.true)))

pub returns-then-moves-eq0-clause-faults : goal.returns-then-moves-eq0-clause-faults
returns-then-moves-eq0-clause-faults g c = tt

pub overflow_sub-exchange-inside : goal.overflow_sub-exchange-inside
overflow_sub-exchange-inside g c = c.exchange.invariant.0

pub returns-then-moves-exchange-clause-ok : goal.returns-then-moves-exchange-clause-ok
returns-then-moves-exchange-clause-ok g c = tt

pub returns-then-moves-exchange-clause-unchanged : goal.returns-then-moves-exchange-clause-unchanged
returns-then-moves-exchange-clause-unchanged g c = rw (sym c.held.view_is, sym c.exchange.view_is) (refl, refl)

pub returns-then-moves-exchange-clause-full : goal.returns-then-moves-exchange-clause-full
returns-then-moves-exchange-clause-full g c =
    rw (sym c.held.view_is, sym c.exchange.view_is) (λ _. (
      omega (arith, c.len-moves.ensures, c.if-moves-eq0.false),
      too-many c.exchange.invariant.2 c.exchange.inside.limit c.len-moves.result (length c.held.inside.block) c.len-moves.ensures c.if-moves-exchange.true,
    ))

pub returns-then-moves-exchange-clause-limited : goal.returns-then-moves-exchange-clause-limited
returns-then-moves-exchange-clause-limited g c = λ _ _. refl

pub returns-then-moves-exchange-clause-faults : goal.returns-then-moves-exchange-clause-faults
returns-then-moves-exchange-clause-faults g c = inr (inl refl)

pub invariant_of-exchange : goal.invariant_of-exchange
invariant_of-exchange g c =
    let e = c.reserve_to_post.ensures in (
      c.exchange.invariant.0,
      c.exchange.invariant.1,
      kept-refused c.exchange.invariant.2 c.reserve_to_post.new.journal.entries e.entries c.reserve_to_post.new.mail e.boxes e.letters,
      c.exchange.invariant.3,
      e.keeps ∙ c.exchange.invariant.4,
    )

pub returns-in-Err-clause-ok : goal.returns-in-Err-clause-ok
returns-in-Err-clause-ok g c = tt

pub returns-in-Err-clause-unchanged : goal.returns-in-Err-clause-unchanged
returns-in-Err-clause-unchanged g c =
    rw (sym c.held.view_is, sym c.exchange.view_is) (
      (λ i. record {
        entries = c.reserve_to_post.ensures.entries i;
        marks = marks_in (map (λ (b : LeftHalf Standing). b.value) c.exchange.inside.marks.items);
        shared = c.reserve_to_post.ensures.shared i;
        limit = c.exchange.inside.limit;
      }),
      refl,
    )

pub returns-in-Err-clause-full : goal.returns-in-Err-clause-full
returns-in-Err-clause-full g c = not-full c.in-Err.fault _ _ c.in-Err.ensures.faults _ refl

pub returns-in-Err-clause-limited : goal.returns-in-Err-clause-limited
returns-in-Err-clause-limited g c =
    rw (sym c.held.view_is, sym c.exchange.view_is) (λ some over. absurd (
    more-than-fit c.exchange.invariant.2 c.exchange.inside.limit c.len-moves.result (length c.held.inside.block) c.len-moves.ensures c.if-moves-exchange.false over))

pub returns-in-Err-clause-faults : goal.returns-in-Err-clause-faults
returns-in-Err-clause-faults g c = rw (sym c.exchange.view_is) (faults-told c.in-Err.fault _ _ c.in-Err.ensures.faults g.J.ActorRun.keeps c.exchange.invariant.4)

pub enter-requires-clause-room : goal.enter-requires-clause-room
enter-requires-clause-room g c = c.in_default.ensures.entry

pub enter-requires-clause-within : goal.enter-requires-clause-within
enter-requires-clause-within g c = half-within c.exchange.inside.marks.items c.exchange.invariant.2.marked.count c.held.invariant.0.number_is

pub enter-requires-clause-one : goal.enter-requires-clause-one
enter-requires-clause-one g c = ap (λ ns. slice_index ns c.held.inside.number) c.exchange.invariant.3 ∙ sym c.held.invariant.1.name

pub set-requires : goal.set-requires
set-requires g c = omega (arith, c.exchange.invariant.2.floor_count, c.held.invariant.0.number_is)

pub returns-clause-unchanged : goal.returns-clause-unchanged
returns-clause-unchanged g c = tt

pub returns-clause-full : goal.returns-clause-full
returns-clause-full g c = λ e. not-ok _ _ _ refl e

pub returns-clause-limited : goal.returns-clause-limited
returns-clause-limited g c =
    rw (sym c.held.view_is, sym c.exchange.view_is) (λ some over. absurd (
    more-than-fit c.exchange.invariant.2 c.exchange.inside.limit c.len-moves.result (length c.held.inside.block) c.len-moves.ensures c.if-moves-exchange.false over))

pub returns-clause-faults : goal.returns-clause-faults
returns-clause-faults g c = tt

pub overflow_add-exchange : goal.overflow_add-exchange
overflow_add-exchange g c = omega (arith, c.if-moves-exchange.false, c.exchange.invariant.0, c.exchange.invariant.1)

pub overflow_add-exchange-2 : goal.overflow_add-exchange-2
overflow_add-exchange-2 g c = omega (arith, c.if-moves-exchange.false, c.exchange.invariant.0, c.exchange.invariant.1)
