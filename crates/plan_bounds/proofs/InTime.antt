-- The delays that the bounds of a network give a port are bounds of it that pass the check.
use Rattle.std.proofs.Common.{◌≡◌, ℕ, zero, suc, ◌+◌, ◌-◌, ◌*◌, ◌/◌, ◌^◌, ◌<◌, ◌≤◌, ◌==◌, Bool, true, false, cond, max, nat_lt, List, [], ◌∷◌, Some, inl, inr, Result, Ok, Err, refl, ap, sym, ◌∙◌, subst, arith, slice_get, leb-true, eq-eqb}
use Rattle.std.proofs.Math.Nat.{div-mul-le_self, lt-mul-div-succ, mul-le-mul}
use Rattle.std.proofs.lemmas.Bool.{cases_lt}
use Rattle.std.proofs.lemmas.Bool.Decides.{nat_tests}
use Rattle.output_port.specs.declared.event.Priority.TheVariants.{High, Low}
use Rattle.network.specs.declared.wiring.LinePlan.{LinePlan}
use Rattle.network.specs.Words.{IsAccepted, Plan, is_end_system, lines_of}
use Rattle.network.proofs.BuildLemmas.{line-read}
use Rattle.nodes.specs.rules.Opening.{opening}
use Rattle.network.proofs.PortLemmas.{line-within}
use Rattle.network_faults.proofs.MemberLemmas.{Has}
use Rattle.nodes.specs.declared.ports.Outlet.{Outlet}
use Rattle.seqsim.specs.Networks.{setting_of}
use Rattle.frame_ages.specs.Sizes.{Sizes}
use Rattle.plan_bounds.proofs.Counted.{AreSized}
use Rattle.network_bounds.specs.declared.sizes.LinkSizes.{LinkSizes}
use Rattle.network_bounds.specs.declared.passing.Passing.{Passing}
use Rattle.network_bounds.specs.declared.mixing.Choice.{Choice}
use Rattle.network_bounds.specs.declared.mixing.Choice.TheVariants.{By, Least}
use Rattle.network_bounds.specs.declared.mixing.Mixture.{Mixture}
use Rattle.network_bounds.specs.declared.delays.Weights.{Weights}
use Rattle.network_bounds.specs.declared.reason.Reason.{Reason}
use Rattle.network_bounds.specs.declared.reason.Reason.TheVariants.{Number, Rate}
use Rattle.network_bounds.specs.Curves.{cost_of, is_first}
use Rattle.network_bounds.specs.Delays.{bound_by, first_mixed, first_of, fits_first, only_if}
use Rattle.network_bounds.specs.Mixing.{PORTS, PortPlan, greatest_at, greatest_below, greatest_by, groups_at, mixed_at, port_before}
use Rattle.network_bounds.specs.Numbers.{SCALE, UNITS, WHOLE, capped}
use Rattle.network_bounds.specs.Passing.{are_same, comes, input_of, passings}
use Rattle.port_bounds.specs.Mixtures.{groups_burst, groups_rate}
use Rattle.frame_ages.specs.Ports.{CostsAtMost, IsThrough}
use Rattle.frame_ages.specs.Ways.{IsInTime}
use Rattle.plan_bounds.proofs.Certified.{are-groups, input-below}
use Rattle.plan_bounds.proofs.Groups.{cost-is, counted}
use Rattle.plan_bounds.proofs.Passed.{leaves-passed, passed, passed-leaves}

-- ---- numbers of 128 bits

pub uncapped : (n : ℕ) → capped n < 2 ^ 128 - 1 → capped n ≡ n
uncapped n lt = omega (arith, lt)

rate-fits : (rate : ℕ) → capped rate ≤ UNITS → rate ≤ UNITS
rate-fits rate le = omega (arith, le)

sent-fits : (burst most : ℕ) → burst < 2 ^ 128 - 1 → most ≤ 1230400 → burst / UNITS + most < 2 ^ 128 - 1
sent-fits burst most lt small = let quotient = div-mul-le_self burst UNITS in omega (arith, quotient)

gap-fits : (delay sent gap other : ℕ) → delay ≡ capped sent - gap → other ≡ gap → sent < 2 ^ 128 - 1 → sent ≤ delay + other
gap-fits delay sent gap other is same lt = omega (arith, is, same, lt)

pub lt-true : (m n : ℕ) → nat_lt m n ≡ true → m < n
lt-true m n h = grind (arith, nat_tests)

-- ---- what a bound of high frames says

record IsFirst (byte_ns : ℕ) (high : Mixture) (greatest delay : ℕ) : Type 0 where
  fits : high.rate ≤ UNITS
  burst : high.burst < 2 ^ 128 - 1
  is : delay ≡ capped (high.burst / UNITS + greatest) - 12 * byte_ns

pub err-ok : {X : Type 0} (reason : Reason) (x : X) → Err reason ≡ Ok x → ⊥
err-ok reason x e = cc

pub same-ok : {X : Type 0} (x y : X) → ◌≡◌ {A = Result X Reason} (Ok x) (Ok y) → x ≡ y
same-ok x y e = cc

first-of : (byte_ns : ℕ) (high : Mixture) (greatest delay : ℕ) → first_of byte_ns high greatest ≡ Ok delay → IsFirst byte_ns high greatest delay
first-of byte_ns high greatest delay e = go (fits_first high) refl (nat_lt high.burst (2 ^ 128 - 1)) refl e
  where
    go : (fits : Bool) → fits_first high ≡ fits → (held : Bool) → nat_lt high.burst (2 ^ 128 - 1) ≡ held
        → cond fits (only_if held (capped (high.burst / UNITS + greatest) - 12 * byte_ns) Number) (Err Rate) ≡ Ok delay → IsFirst byte_ns high greatest delay
    go false f held h e = absurd (err-ok Rate delay e)
    go true f false h e = absurd (err-ok Number delay e)
    go true f true h e = record { fits = leb-true _ _ f; burst = grind (arith, nat_tests); is = sym (same-ok (capped (high.burst / UNITS + greatest) - 12 * byte_ns) delay e) }

-- a bound is by the mixtures that the program chose, or by those of the least rate
pub record IsPair (X : Type 0) (value : Choice → Choice → X) (bound : X) : Type 0 where
  pub high : Choice
  pub low : Choice
  pub is : bound ≡ value high low

pub pair : (X : Type 0) (value : Choice → Choice → X) (high low : Choice) (b : Bool) → IsPair X value (cond b (value high low) (value Least Least))
pair X value high low true = record { high = high; low = low; is = refl }
pair X value high low false = record { high = Least; low = Least; is = refl }

-- ---- no frame costs more than the greatest does

below-greatest : (test : Passing → Bool) (cost : Passing → ℕ) (ps : List Passing) (passing : Passing) → Has ps passing → test passing ≡ true → cost passing ≤ greatest_by test cost ps
below-greatest test cost [] passing there passes = absurd there
below-greatest test cost (first ∷ ps) passing (inl same) passes =
    rw (ap test same ∙ passes) (let is : cost first ≡ cost passing = ap cost same in omega (arith, is))
below-greatest test cost (first ∷ ps) passing (inr there) passes = go (test first) (below-greatest test cost ps passing there passes)
  where
    go : (b : Bool) → cost passing ≤ greatest_by test cost ps → cost passing ≤ cond b (max (cost first) (greatest_by test cost ps)) (greatest_by test cost ps)
    go true le = omega (arith, le)
    go false le = le

greatest-small : (test : Passing → Bool) (cost : Passing → ℕ) (most : ℕ) (ps : List Passing) → ((passing : Passing) → Has ps passing → cost passing ≤ most) → greatest_by test cost ps ≤ most
greatest-small test cost most [] each = omega arith
greatest-small test cost most (first ∷ ps) each = go (test first) (each first (inl refl)) (greatest-small test cost most ps (λ x there. each x (inr there)))
  where
    go : (b : Bool) → cost first ≤ most → greatest_by test cost ps ≤ most → cond b (max (cost first) (greatest_by test cost ps)) (greatest_by test cost ps) ≤ most
    go true here later = omega (arith, here, later)
    go false here later = later

module _ (known : ℕ → LinkSizes) (size : ℕ → Sizes) (plan : Plan) (accepted : IsAccepted plan) (k : ℕ) (line : LinePlan) (read : slice_get (lines_of plan) k ≡ Some line) (all : AreSized plan known size line.from) where
  abbrev port : PortPlan
  port = port_before known plan line

  small-cost : (passing : Passing) → Has (passings known plan line.from line.from_port) passing → cost_of line.byte_ns passing ≤ 1230400
  small-cost passing there =
      let is = passed-leaves plan accepted known line.from line.from_port passing there in
      let few : passing.sizes.greatest ≤ 1518 = subst (λ (x : Passing). x.sizes.greatest ≤ 1518) (sym is.is) (all line.from_port is.vl is.leaves).small in
      let byte : line.byte_ns ≤ 800 = (line-within plan k line accepted read).times.greatest_byte in
      let sum : passing.sizes.greatest + 20 ≤ 1538 = omega (arith, few) in
      mul-le-mul sum byte

  small-greatest : (high : Bool) (n : ℕ) → greatest_below port high n ≤ 1230400
  small-greatest high zero = omega arith
  small-greatest high (suc j) =
      let here = greatest-small (comes (is_end_system plan.nodes line.from) j high) (cost_of line.byte_ns) 1230400 (passings known plan line.from line.from_port) small-cost in
      omega (arith, here, small-greatest high j)

  at-below : (high : Bool) (j n : ℕ) → j < n → greatest_at port j high ≤ greatest_below port high n
  at-below high j zero lt = absurd (omega (arith, lt))
  at-below high j (suc n) lt = elim (cases_lt j n) [
    | inl less ↦ (let later = at-below high j n less in omega (arith, later))
    | inr more ↦ (let same : j ≡ n = omega (arith, lt, more) in subst (λ m. greatest_at port j high ≤ max (greatest_at port m high) (greatest_below port high n)) same (omega arith))
  ]

  low-cost : (v input : ℕ) → IsThrough (opening plan line.from).equipment line.from_port v input Low → CostsAtMost (opening plan line.from).equipment size line.byte_ns v (greatest_below port false PORTS)
  low-cost v input through =
      let below = (line-read plan k line accepted read).0 in
      let h = counted plan accepted line.from line.from_port v input Low below through in
      let passing = passed known plan line.from h.vl in
      let there = leaves-passed plan accepted known line.from line.from_port h.vl h.leaves in
      let here : (input_of plan line.from h.vl.link.id.0 == input_of plan line.from h.vl.link.id.0) ≡ true = eq-eqb _ _ refl in
      let low : are_same (is_first (is_end_system plan.nodes line.from) h.vl.link) false ≡ true = ap (λ b. are_same b false) h.first in
      let le = below-greatest (comes (is_end_system plan.nodes line.from) (input_of plan line.from h.vl.link.id.0) false) (cost_of line.byte_ns) (passings known plan line.from line.from_port) passing there (rw here low) in
      let most = at-below false (input_of plan line.from h.vl.link.id.0) PORTS (input-below plan accepted k line read h.vl.link.id.0) in
      subst (λ n. CostsAtMost (opening plan line.from).equipment size line.byte_ns n (greatest_below port false PORTS)) h.id
      (cost-is plan accepted known size line.from below all line.from_port line.byte_ns passing there (greatest_below port false PORTS) (omega (arith, le, most)))

  -- ---- high frames

  high-within : (burst most : ℕ) → burst + UNITS * most < UNITS * ((burst / UNITS + most) + 1)
  high-within burst most = let lt = lt-mul-div-succ burst {b = UNITS} (omega arith) in omega (arith, lt)

  pub high-bound : (w : Weights) (v : ℕ) (outlet : Outlet) → outlet.ahead.byte_ns ≡ line.byte_ns → (delay : ℕ) → (bound_by port w).first ≡ Ok delay
      → IsInTime (setting_of plan) size v line.from line.from_port outlet High delay
  unfolding mixed_at
  high-bound w v outlet byte delay e =
      let c : IsPair Mixture (λ h l. mixed_at port h true) (first_mixed port w) = pair Mixture (λ h l. mixed_at port h true) (By w.first) (By w.first) (fits_first (mixed_at port (By w.first) true)) in
      let h = first-of line.byte_ns (first_mixed port w) (mixed_at port Least false).greatest delay e in
      let rates : capped (groups_rate WHOLE (groups_at port c.high true)) ≤ UNITS = subst (λ (m : Mixture). m.rate ≤ UNITS) c.is h.fits in
      let bursts : capped (groups_burst WHOLE (groups_at port c.high true)) < 2 ^ 128 - 1 = subst (λ (m : Mixture). m.burst < 2 ^ 128 - 1) c.is h.burst in
      let burst_is = uncapped (groups_burst WHOLE (groups_at port c.high true)) bursts in
      high-made outlet byte delay c.high rates burst_is (h.is ∙ ap (λ (m : Mixture). capped (m.burst / UNITS + greatest_below port false PORTS) - 12 * line.byte_ns) c.is) bursts
    where
      high-made : (outlet : Outlet) → outlet.ahead.byte_ns ≡ line.byte_ns → (delay : ℕ) (choice : Choice) → capped (groups_rate WHOLE (groups_at port choice true)) ≤ UNITS
          → capped (groups_burst WHOLE (groups_at port choice true)) ≡ groups_burst WHOLE (groups_at port choice true)
          → delay ≡ capped (capped (groups_burst WHOLE (groups_at port choice true)) / UNITS + greatest_below port false PORTS) - 12 * line.byte_ns → capped (groups_burst WHOLE (groups_at port choice true)) < 2 ^ 128 - 1
          → IsInTime (setting_of plan) size v line.from line.from_port outlet High delay
      high-made outlet byte delay choice rates burst_is is bursts =
          let burst = groups_burst WHOLE (groups_at port choice true) in
          let most = greatest_below port false PORTS in
          let sent_small : burst / UNITS + most < 2 ^ 128 - 1 = sent-fits burst most (subst (λ n. n < 2 ^ 128 - 1) burst_is bursts) (small-greatest false PORTS) in (
            burst / UNITS + most,
            record {
              scale = SCALE;
              whole = WHOLE;
              high = groups_at port choice true;
              high_are = are-groups known size plan accepted k line read all choice High outlet byte;
              most = most;
              low_costs = λ v input through. subst (λ n. CostsAtMost (opening plan line.from).equipment size n v most) (sym byte) (low-cost v input through);
              rate = rate-fits (groups_rate WHOLE (groups_at port choice true)) rates;
              within = high-within burst most;
            },
            gap-fits delay (burst / UNITS + most) (12 * line.byte_ns) (12 * outlet.ahead.byte_ns) (is ∙ ap (λ n. capped (n / UNITS + most) - 12 * line.byte_ns) burst_is) (ap (λ n. 12 * n) byte) sent_small,
          )
