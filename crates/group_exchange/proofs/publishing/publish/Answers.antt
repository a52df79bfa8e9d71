use Rattle.std.proofs.Common.{◌≡◌, ◌+◌, ◌==◌, inl, inr, List, [], ◌∷◌, ◌++◌, map, flat_map, length, refl, sym, ap, ◌∙◌, arith, eq-eqb, eqb-true, length-append}
use Rattle.std.proofs.lemmas.Bool.{false≢true}
use Rattle.vlink.specs.Order.{message_order}
use Rattle.virtual_time.specs.Law.{gvt_over, lowest, start, times_of}
use Rattle.virtual_time.specs.declared.step.Step.{Step}
use Rattle.virtual_time.specs.declared.step.Step.TheVariants.{Gvt}
use Rattle.reverse.specs.Rules.{rules_of}
use Rattle.reverse.specs.Setting.{simulation_of}
use Rattle.halves.specs.declared.LeftHalf.{LeftHalf}
use Rattle.journal.proofs.Refused.{not-ok}
use Rattle.group_exchange.specs.declared.mark.Standing.{Standing}
use Rattle.group_exchange.specs.Views.{marks_in, world_after}
use Rattle.group_exchange.proofs.Enabled.{done-then, gvt-done}
use Rattle.group_exchange.proofs.Going.{not-full}
use Rattle.group_exchange.proofs.Halves.{recorded-as}
use Rattle.group_exchange.proofs.Least.{gvt-told}
use Rattle.group_exchange.proofs.Published.{kept-published, publishes-more, publishes-none}
use Rattle.group_exchange.proofs.publishing.publish.Given.{Over}
use Rattle.group_exchange.proofs.publishing.publish.Goals.{After-horizon-gvt}
use Rattle.group_exchange.proofs.publishing.publish.Goals as goal

-- what was found is what the step Gvt sets
found : (g : Over) (c : After-horizon-gvt g) → c.horizon-gvt.result ≡ gvt_over (simulation_of (rules_of g.R.Reversible.plain) g.J.GroupRun.setting) g.J.GroupRun.setting.processes
    (world_after (simulation_of (rules_of g.R.Reversible.plain) g.J.GroupRun.setting) c.exchange.inside.journal.steps)
found g c =
    let k = c.exchange.invariant.3 in
    let end : c.exchange.inside.end ≡ c.exchange.inside.floors.until + 1 = omega (arith, c.exchange.invariant.2, k.until) in
    gvt-told k (c.actor_law.ensures g.J.GroupRun.setting k.laid) c.horizon-gvt.result
    (c.horizon-gvt.ensures ∙ ap (λ d. lowest (lowest d c.exchange.inside.floors.floors) (times_of message_order (flat_map (λ box. box) c.exchange.inside.boxes.boxes))) end)

pub invariant_of-exchange : goal.invariant_of-exchange
invariant_of-exchange g c = (
  (let a = ap length c.reserve.ensures.steps in let b = c.exchange.invariant.0 in omega arith),
  c.exchange.invariant.1,
  c.exchange.invariant.2,
  recorded-as c.exchange.invariant.3 c.reserve.new.self.steps c.reserve.ensures.steps,
  c.exchange.invariant.4,
  c.reserve.ensures.keeps ∙ c.exchange.invariant.5,
)

pub invariant_of-exchange-2 : goal.invariant_of-exchange-2
invariant_of-exchange-2 g c =
    let k = c.exchange.invariant.3 in
    let gvt = found g (goal.at.invariant_of-exchange-2 g c).After-horizon-gvt in
    let longer = c.publish.ensures.steps ∙ ap (λ (ss : List Step). ss ++ Gvt ∷ []) c.reserve.ensures.steps in (
      omega (arith, ap length longer, length-append c.exchange.inside.journal.steps (Gvt ∷ []), c.if-len-exchange.false, c.len.ensures),
      c.exchange.invariant.1,
      c.exchange.invariant.2,
      kept-published k (c.actor_law.ensures g.J.GroupRun.setting k.laid) c.horizon-gvt.result gvt c.publish.new.self.steps longer,
      c.exchange.invariant.4,
      c.publish.ensures.keeps ∙ (c.reserve.ensures.keeps ∙ c.exchange.invariant.5),
    )

pub returns-then-eq-clause-ok : goal.returns-then-eq-clause-ok
returns-then-eq-clause-ok g c =
    let k = c.exchange.invariant.3 in
    let f = simulation_of (rules_of g.R.Reversible.plain) g.J.GroupRun.setting in
    let gvt = found g (goal.at.returns-then-eq-clause-ok g c).After-horizon-gvt in
    rw (sym c.exchange.view_is) (gvt, publishes-none f g.J.GroupRun.owners _ _ _ (ap (λ z. c.horizon-gvt.result == z) (sym k.gvt_is) ∙ (sym c.eq.ensures ∙ c.if-eq.true)) refl)

pub returns-clause-ok : goal.returns-clause-ok
returns-clause-ok g c =
    let k = c.exchange.invariant.3 in
    let f = simulation_of (rules_of g.R.Reversible.plain) g.J.GroupRun.setting in
    let gvt = found g (goal.at.returns-clause-ok g c).After-horizon-gvt in
    let longer = c.publish.ensures.steps ∙ ap (λ (ss : List Step). ss ++ Gvt ∷ []) c.reserve.ensures.steps in
    rw (sym c.exchange.view_is) (
      gvt,
      publishes-more f g.J.GroupRun.owners _ _ _ (ap (λ z. c.horizon-gvt.result == z) (sym k.gvt_is) ∙ (sym c.eq.ensures ∙ c.if-eq.false))
          (λ i. record { steps = longer i; marks = marks_in (map (λ (b : LeftHalf Standing). b.value) c.exchange.inside.marks.items); limit = c.exchange.inside.limit }),
    )

pub returns-then-eq-clause-limited : goal.returns-then-eq-clause-limited
returns-then-eq-clause-limited g c =
    let k = c.exchange.invariant.3 in
    let gvt = found g (goal.at.returns-then-eq-clause-limited g c).After-horizon-gvt in
    let same = eqb-true _ _ (sym c.eq.ensures ∙ c.if-eq.true) in
    rw (sym c.exchange.view_is) (λ back over. absurd (back (sym gvt ∙ (same ∙ k.gvt_is))))

pub returns-then-len-exchange-clause-full : goal.returns-then-len-exchange-clause-full
returns-then-len-exchange-clause-full g c =
    let k = c.exchange.invariant.3 in
    let gvt = found g (goal.at.returns-then-len-exchange-clause-full g c).After-horizon-gvt in
    let other = sym c.eq.ensures ∙ c.if-eq.false in
    rw (sym c.exchange.view_is) (λ full. ((λ same. false≢true (sym other ∙ eq-eqb _ _ (gvt ∙ (same ∙ sym k.gvt_is)))), omega (arith, c.if-len-exchange.true, c.len.ensures)))

pub returns-then-eq-clause-unchanged : goal.returns-then-eq-clause-unchanged
returns-then-eq-clause-unchanged g c = tt

pub returns-then-eq-clause-full : goal.returns-then-eq-clause-full
returns-then-eq-clause-full g c = λ e. not-ok _ _ _ refl e

pub returns-then-eq-clause-long : goal.returns-then-eq-clause-long
returns-then-eq-clause-long g c = λ e. not-ok _ _ _ refl e

pub returns-then-eq-clause-faults : goal.returns-then-eq-clause-faults
returns-then-eq-clause-faults g c = tt

pub returns-then-len-exchange-clause-ok : goal.returns-then-len-exchange-clause-ok
returns-then-len-exchange-clause-ok g c = tt

pub returns-then-len-exchange-clause-long : goal.returns-then-len-exchange-clause-long
returns-then-len-exchange-clause-long g c =
    let f = simulation_of (rules_of g.R.Reversible.plain) g.J.GroupRun.setting in
    let steps = c.exchange.inside.journal.steps in
    λ _. record {
      steps = steps ++ Gvt ∷ [];
      enabled = done-then f steps (Gvt ∷ []) (start f) c.exchange.invariant.3.enabled (gvt-done f (world_after f steps));
      many = omega (arith, length-append steps (Gvt ∷ []), c.if-len-exchange.true, c.len.ensures, ap (λ z. z.limit) c.exchange.view_is);
    }

pub returns-then-len-exchange-clause-unchanged : goal.returns-then-len-exchange-clause-unchanged
returns-then-len-exchange-clause-unchanged g c = rw (sym c.exchange.view_is) refl

pub returns-then-len-exchange-clause-limited : goal.returns-then-len-exchange-clause-limited
returns-then-len-exchange-clause-limited g c = λ _ _. refl

pub returns-then-len-exchange-clause-faults : goal.returns-then-len-exchange-clause-faults
returns-then-len-exchange-clause-faults g c = inr refl

pub returns-in-Err-clause-ok : goal.returns-in-Err-clause-ok
returns-in-Err-clause-ok g c = tt

pub returns-in-Err-clause-unchanged : goal.returns-in-Err-clause-unchanged
returns-in-Err-clause-unchanged g c =
    rw (sym c.exchange.view_is)
    (λ i. record { steps = c.reserve.ensures.steps i; marks = marks_in (map (λ (b : LeftHalf Standing). b.value) c.exchange.inside.marks.items); limit = c.exchange.inside.limit })

pub returns-in-Err-clause-full : goal.returns-in-Err-clause-full
returns-in-Err-clause-full g c = not-full c.in-Err.fault _ c.in-Err.ensures.memory refl

pub returns-in-Err-clause-limited : goal.returns-in-Err-clause-limited
returns-in-Err-clause-limited g c = λ back over. absurd (omega (arith, over, c.if-len-exchange.false, c.len.ensures, ap (λ z. z.limit) c.exchange.view_is, ap (λ z. length z.steps) c.exchange.view_is))

pub returns-in-Err-clause-long : goal.returns-in-Err-clause-long
returns-in-Err-clause-long g c = not-full c.in-Err.fault _ c.in-Err.ensures.memory refl

pub returns-in-Err-clause-faults : goal.returns-in-Err-clause-faults
returns-in-Err-clause-faults g c = inl c.in-Err.ensures.memory

pub returns-clause-unchanged : goal.returns-clause-unchanged
returns-clause-unchanged g c = tt

pub returns-clause-full : goal.returns-clause-full
returns-clause-full g c = λ e. not-ok _ _ _ refl e

pub returns-clause-limited : goal.returns-clause-limited
returns-clause-limited g c = λ back over. absurd (omega (arith, over, c.if-len-exchange.false, c.len.ensures, ap (λ z. z.limit) c.exchange.view_is, ap (λ z. length z.steps) c.exchange.view_is))

pub returns-clause-long : goal.returns-clause-long
returns-clause-long g c = λ e. not-ok _ _ _ refl e

pub returns-clause-faults : goal.returns-clause-faults
returns-clause-faults g c = tt
