use Rattle.std.proofs.Common.{◌≡◌, ◌==◌, [], ◌∷◌, ◌++◌, map, None, inl, inr, refl, sym, ap, ◌∙◌, arith, eq-eqb, eqb-true}
use Rattle.std.proofs.lemmas.Bool.{false≢true}
use Rattle.reverse.specs.Rules.{rules_of}
use Rattle.reverse.specs.Setting.{simulation_of}
use Rattle.halves.specs.declared.LeftHalf.{LeftHalf}
use Rattle.virtual_time.specs.Law.{Published}
use Rattle.journal.specs.Deeds.{entry_by}
use Rattle.process_exchange.specs.declared.mark.Standing.{Standing}
use Rattle.process_exchange.specs.Views.{marks_in}
use Rattle.process_exchange.proofs.Collected.{kept-refused}
use Rattle.process_exchange.proofs.Published.{gvt-told, kept-published, publishes-more, publishes-none}
use Rattle.journal.proofs.Refused.{faults-told, not-full, not-ok}
use Rattle.process_exchange.proofs.publishing.publish.Given.{Over}
use Rattle.process_exchange.proofs.publishing.publish.Goals.{After-push_reserved}
use Rattle.process_exchange.proofs.publishing.publish.Goals as goal

-- its entry is in the journal
longer : (g : Over) (c : After-push_reserved g) → c.push_reserved.new.self.entries ≡ c.exchange.inside.journal.entries ++ entry_by 0 None Published ∷ []
longer g c = c.push_reserved.ensures.entries ∙ (λ i. c.reserve.ensures.entries i ++ c.published.ensures i ∷ [])

pub invariant_of-exchange : goal.invariant_of-exchange
invariant_of-exchange g c = (
  c.exchange.invariant.0,
  c.exchange.invariant.1,
  kept-refused c.exchange.invariant.2 c.reserve.new.self.entries c.reserve.ensures.entries c.exchange.inside.mail refl (λ q. refl),
  c.exchange.invariant.3,
  c.reserve.ensures.keeps ∙ c.exchange.invariant.4,
)

pub invariant_of-exchange-2 : goal.invariant_of-exchange-2
invariant_of-exchange-2 g c =
    let k = c.exchange.invariant.2 in
    let gvt = c.horizon-gvt.ensures ∙ gvt-told k c.gvt_law.ensures (λ m. refl) in (
      omega (arith, c.if-exchange.false),
      c.exchange.invariant.1,
      kept-published k (c.actor_law.ensures g.J.ActorRun.setting k.laid)
          c.horizon-gvt.result gvt c.push_reserved.new.self.entries (longer g (goal.at.invariant_of-exchange-2 g c).After-push_reserved) _ refl,
      c.exchange.invariant.3,
      c.push_reserved.ensures.keeps ∙ (c.reserve.ensures.keeps ∙ c.exchange.invariant.4),
    )

pub returns-then-eq-clause-ok : goal.returns-then-eq-clause-ok
returns-then-eq-clause-ok g c =
    let k = c.exchange.invariant.2 in
    let f = simulation_of (rules_of g.R.Reversible.plain) g.J.ActorRun.setting in
    let gvt = c.horizon-gvt.ensures ∙ gvt-told k c.gvt_law.ensures (λ m. refl) in
    rw (sym c.exchange.view_is) (gvt, publishes-none f _ _ _ (ap (λ z. c.horizon-gvt.result == z) (sym k.gvt_is) ∙ (sym c.eq.ensures ∙ c.if-eq.true)) refl)

pub returns-clause-ok : goal.returns-clause-ok
returns-clause-ok g c =
    let k = c.exchange.invariant.2 in
    let f = simulation_of (rules_of g.R.Reversible.plain) g.J.ActorRun.setting in
    let gvt = c.horizon-gvt.ensures ∙ gvt-told k c.gvt_law.ensures (λ m. refl) in
    let journal = longer g (goal.at.returns-clause-ok g c).After-push_reserved in
    rw (sym c.exchange.view_is) (gvt, publishes-more f _ _ _ (ap (λ z. c.horizon-gvt.result == z) (sym k.gvt_is) ∙ (sym c.eq.ensures ∙ c.if-eq.false)) (λ i. record { entries = journal i; marks = marks_in (map (λ (b : LeftHalf Standing). b.value) c.exchange.inside.marks.items); shared = (c.push_reserved.ensures.shared ∙ c.reserve.ensures.shared) i; limit = c.exchange.inside.limit }))

pub returns-then-eq-clause-limited : goal.returns-then-eq-clause-limited
returns-then-eq-clause-limited g c =
    let k = c.exchange.invariant.2 in
    let gvt = c.horizon-gvt.ensures ∙ gvt-told k c.gvt_law.ensures (λ m. refl) in
    let same = eqb-true _ _ (sym c.eq.ensures ∙ c.if-eq.true) in
    rw (sym c.exchange.view_is) (λ back over. absurd (back (sym gvt ∙ (same ∙ k.gvt_is))))

pub returns-then-exchange-clause-full : goal.returns-then-exchange-clause-full
returns-then-exchange-clause-full g c =
    let k = c.exchange.invariant.2 in
    let gvt = c.horizon-gvt.ensures ∙ gvt-told k c.gvt_law.ensures (λ m. refl) in
    let other = sym c.eq.ensures ∙ c.if-eq.false in
    rw (sym c.exchange.view_is) (λ full. (λ same. false≢true (sym other ∙ eq-eqb _ _ (gvt ∙ (same ∙ sym k.gvt_is))), omega (arith, c.if-exchange.true, k.count_is)))

pub returns-then-eq-clause-unchanged : goal.returns-then-eq-clause-unchanged
returns-then-eq-clause-unchanged g c = tt

pub returns-then-eq-clause-full : goal.returns-then-eq-clause-full
returns-then-eq-clause-full g c = λ e. not-ok _ _ _ refl e

pub returns-then-eq-clause-faults : goal.returns-then-eq-clause-faults
returns-then-eq-clause-faults g c = tt

pub returns-then-exchange-clause-ok : goal.returns-then-exchange-clause-ok
returns-then-exchange-clause-ok g c = tt

pub returns-then-exchange-clause-unchanged : goal.returns-then-exchange-clause-unchanged
returns-then-exchange-clause-unchanged g c = rw (sym c.exchange.view_is) refl

pub returns-then-exchange-clause-limited : goal.returns-then-exchange-clause-limited
returns-then-exchange-clause-limited g c = λ _ _. refl

pub returns-then-exchange-clause-faults : goal.returns-then-exchange-clause-faults
returns-then-exchange-clause-faults g c = inr (inl refl)

pub returns-in-Err-clause-ok : goal.returns-in-Err-clause-ok
returns-in-Err-clause-ok g c = tt

pub returns-in-Err-clause-unchanged : goal.returns-in-Err-clause-unchanged
returns-in-Err-clause-unchanged g c =
    rw (sym c.exchange.view_is)
    (λ i. record { entries = c.reserve.ensures.entries i; marks = marks_in (map (λ (b : LeftHalf Standing). b.value) c.exchange.inside.marks.items); shared = c.reserve.ensures.shared i; limit = c.exchange.inside.limit })

pub returns-in-Err-clause-full : goal.returns-in-Err-clause-full
returns-in-Err-clause-full g c = not-full c.in-Err.fault _ _ c.in-Err.ensures.faults _ refl

pub returns-in-Err-clause-limited : goal.returns-in-Err-clause-limited
returns-in-Err-clause-limited g c =
    let k = c.exchange.invariant.2 in
    rw (sym c.exchange.view_is) (λ back over. absurd (omega (arith, over, c.if-exchange.false, k.count_is)))

pub returns-in-Err-clause-faults : goal.returns-in-Err-clause-faults
returns-in-Err-clause-faults g c = rw (sym c.exchange.view_is) (faults-told c.in-Err.fault _ _ c.in-Err.ensures.faults g.J.ActorRun.keeps c.exchange.invariant.4)

pub overflow_add-exchange : goal.overflow_add-exchange
overflow_add-exchange g c = omega (arith, c.if-exchange.false, c.exchange.invariant.1)

pub returns-clause-unchanged : goal.returns-clause-unchanged
returns-clause-unchanged g c = tt

pub returns-clause-full : goal.returns-clause-full
returns-clause-full g c = λ e. not-ok _ _ _ refl e

pub returns-clause-limited : goal.returns-clause-limited
returns-clause-limited g c =
    let k = c.exchange.invariant.2 in
    rw (sym c.exchange.view_is) (λ back over. absurd (omega (arith, over, c.if-exchange.false, k.count_is)))

pub returns-clause-faults : goal.returns-clause-faults
returns-clause-faults g c = tt
