use Rattle.std.proofs.Common.{List, [], slice_index, refl, sym, ap, ◌∙◌, subst, map, set}
use Rattle.std.proofs.Math.Nat.{le_refl}
use Rattle.std.proofs.lemmas.List.{map-set}
use Rattle.virtual_time.specs.Law.{after_moves, after_own}
use Rattle.reverse.specs.Rules.{rules_of}
use Rattle.reverse.specs.Setting.{simulation_of}
use Rattle.process_queues.specs.Queues.{StandsFor}
use Rattle.halves.specs.declared.LeftHalf.{LeftHalf}
use Rattle.process_exchange.specs.declared.mark.Standing.{Standing}
use Rattle.process_exchange.specs.Views.{mark_in, marks_in, place_of, own_of}
use Rattle.process_exchange.specs.Keeps.{AreMarked}
use Rattle.process_exchange.specs.Effects.{mark_at}
use Rattle.process_exchange.proofs.Gone.{gone-stays}
use Rattle.process_exchange.proofs.Holding.{holds-seen}
use Rattle.process_exchange.proofs.Joining.{place-is}
use Rattle.process_exchange.proofs.Collected.{marks-seen, kept-as}
use Rattle.halves.proofs.InLists.{half-within}
use Rattle.process_exchange.proofs.Moves.{in_hand}
use Rattle.process_exchange.proofs.collecting.see.Goals as goal

pub tell_both-requires-clause-within : goal.tell_both-requires-clause-within
tell_both-requires-clause-within g c = half-within c.exchange.inside.marks.items c.exchange.invariant.2.marked.count c.held.invariant.0.number_is

pub tell_both-requires-clause-one : goal.tell_both-requires-clause-one
tell_both-requires-clause-one g c = ap (λ ns. slice_index ns c.held.inside.number) c.exchange.invariant.3 ∙ sym c.held.invariant.1.name

pub invariant_of-exchange : goal.invariant_of-exchange
invariant_of-exchange g c =
    let k = c.exchange.invariant.2 in
    let h = c.held.invariant.0 in
    let p = c.held.inside.number in
    let fits = rw (sym c.held.view_is, sym c.exchange.view_is) at c.join_law.ensures.same in
    let mine = rw (sym c.held.view_is, sym c.exchange.view_is) at c.join_law.ensures.own in
    let s : Standing = record { last = c.held.inside.standing.last; seen = c.exchange.inside.gvt } in (
      c.exchange.invariant.0,
      c.exchange.invariant.1,
      kept-as k c.exchange.inside.mail refl (λ q. refl) _
          (subst (λ (bs : List Standing). AreMarked g.J.ActorRun.setting.processes c.exchange.inside.journal.entries c.exchange.inside.gvt bs) (sym c.tell_both.ensures.marks)
          (marks-seen k.marked p h.number_is s (place-is k h.number_is c.held.inside.standing fits) mine (le_refl c.exchange.inside.gvt))),
      c.tell_both.ensures.names ∙ c.exchange.invariant.3,
      c.exchange.invariant.4,
    )

pub invariant_of-held : goal.invariant_of-held
invariant_of-held g c =
    let k = c.exchange.invariant.2 in
    let h = c.held.invariant.0 in
    let r = rules_of g.R.Reversible.plain in
    let x = g.J.ActorRun.setting in
    let p = c.held.inside.number in
    let none = rw (sym c.held.view_is) at c.requires.posted in
    let mine = rw (sym c.held.view_is, sym c.exchange.view_is) at c.join_law.ensures.own in
    let base = after_own (simulation_of r x) p (own_of p c.held.inside.standing.last) in (
      holds-seen k (c.actor_law.ensures x k.laid) g.R.Reversible.is_value p h.number_is (own_of p c.held.inside.standing.last) mine c.held.inside.process.queues
          (subst (λ b. StandsFor r g.R.Reversible.is_value (x.opening p) (after_moves r (x.opening p) b base) c.held.inside.process.queues) none h.stands)
          c.held.inside.gone
          (gone-stays r (x.opening p) (after_moves r (x.opening p) c.held.inside.block base) c.held.inside.process.queues h.stands c.held.inside.gone h.gone_early [] base
          (sym (ap (λ b. after_moves r (x.opening p) b base) none)) c.held.inside.process.queues refl)
          c.held.inside.block none,
      record { name = c.tell_both.ensures.name ∙ c.held.invariant.1.name; value = c.tell_both.ensures.mark },
    )

pub returns-clause-exchange : goal.returns-clause-exchange
returns-clause-exchange g c =
    let k = c.exchange.invariant.2 in
    let marks = map (λ (b : LeftHalf Standing). b.value) c.exchange.inside.marks.items in
    let s : Standing = record { last = c.held.inside.standing.last; seen = c.exchange.inside.gvt } in
    rw (sym c.held.view_is, sym c.exchange.view_is) (λ i. record {
      entries = c.exchange.inside.journal.entries;
      marks = (ap marks_in c.tell_both.ensures.marks ∙ (map-set mark_in marks c.held.inside.number s ∙ (λ j. set (marks_in marks) c.held.inside.number (mark_at (place_of s.last) (k.gvt_is j))))) i;
      shared = c.exchange.inside.journal.shared;
      limit = c.exchange.inside.limit;
    })

pub returns-clause-held : goal.returns-clause-held
returns-clause-held g c =
    let f = simulation_of (rules_of g.R.Reversible.plain) g.J.ActorRun.setting in
    let h = c.held.inside in
    rw (sym c.held.view_is, sym c.exchange.view_is)
    (ap (λ n. in_hand f h.number (own_of h.number h.standing.last) (place_of h.standing.last) n h.gone h.block) c.exchange.invariant.2.gvt_is)
