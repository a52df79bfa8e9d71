-- The bytes that wait at a port, as the bounds of a network give them, are a bound of it that passes the check.
use Rattle.std.proofs.Common.{◌≡◌, ℕ, ◌+◌, ◌-◌, ◌*◌, ◌/◌, ◌^◌, ◌<◌, ◌≤◌, Bool, true, false, cond, nat_lt, Some, Result, Ok, Err, refl, ap, sym, ◌∙◌, subst, arith, slice_get, leb-true}
use Rattle.std.proofs.Math.Nat.{div-div-eq-div-mul, lt-mul-div-succ, mul-le-mul_left}
use Rattle.network.specs.declared.wiring.LinePlan.{LinePlan}
use Rattle.network.specs.Words.{IsAccepted, Plan, lines_of}
use Rattle.network.proofs.PortLemmas.{line-within}
use Rattle.nodes.specs.declared.ports.Outlet.{Outlet}
use Rattle.output_port.specs.declared.event.Priority.TheVariants.{High, Low}
use Rattle.seqsim.specs.Networks.{setting_of}
use Rattle.plan_bounds.proofs.Counted.{AreSized}
use Rattle.frame_ages.specs.Sizes.{Sizes}
use Rattle.network_bounds.specs.declared.sizes.LinkSizes.{LinkSizes}
use Rattle.network_bounds.specs.declared.mixing.Choice.{Choice}
use Rattle.network_bounds.specs.declared.mixing.Choice.TheVariants.{By}
use Rattle.network_bounds.specs.declared.mixing.Mixture.{Mixture}
use Rattle.network_bounds.specs.declared.delays.Weights.{Weights}
use Rattle.network_bounds.specs.declared.reason.Reason.{Reason}
use Rattle.network_bounds.specs.declared.reason.Reason.TheVariants.{Number, Rate}
use Rattle.network_bounds.specs.Delays.{bound_by, fits_both, only_if, waiting_bound, waiting_of}
use Rattle.network_bounds.specs.Mixing.{groups_at, mixed_at, port_before}
use Rattle.network_bounds.specs.Numbers.{SCALE, UNITS, WHOLE, capped}
use Rattle.port_bounds.specs.Mixtures.{groups_burst, groups_rate}
use Rattle.frame_ages.specs.Ports.{IsWaitingBound}
use Rattle.plan_bounds.proofs.Certified.{are-groups}
use Rattle.plan_bounds.proofs.InTime.{IsPair, pair, err-ok, lt-true, same-ok}
use Rattle.plan_bounds.proofs.LowTimes.{bursts-fit}

record IsWaiting (byte_ns : ℕ) (high low : Mixture) (bytes : ℕ) : Type 0 where
  rates : capped (high.rate + low.rate) ≤ UNITS
  held : capped (high.burst + low.burst) < 2 ^ 128 - 1
  is : bytes ≡ capped (high.burst + low.burst) / UNITS / byte_ns

waiting-of : (byte_ns : ℕ) (high low : Mixture) (bytes : ℕ) → waiting_of byte_ns high low ≡ Ok bytes → IsWaiting byte_ns high low bytes
waiting-of byte_ns high low bytes e = go (fits_both high low) refl (nat_lt (capped (high.burst + low.burst)) (2 ^ 128 - 1)) refl e
  where
    go : (fits : Bool) → fits_both high low ≡ fits → (held : Bool) → nat_lt (capped (high.burst + low.burst)) (2 ^ 128 - 1) ≡ held
        → cond fits (only_if held (capped (high.burst + low.burst) / UNITS / byte_ns) Number) (Err Rate) ≡ Ok bytes → IsWaiting byte_ns high low bytes
    go false f held h e = absurd (err-ok Rate bytes e)
    go true f false h e = absurd (err-ok Number bytes e)
    go true f true h e = record {
      rates = leb-true _ _ f;
      held = lt-true _ _ h;
      is = sym (same-ok (capped (high.burst + low.burst) / UNITS / byte_ns) bytes e);
    }

rates-both : (high low : ℕ) → capped (capped high + capped low) ≤ UNITS → high + low ≤ UNITS
rates-both high low le = omega (arith, le)

room-within : (burst byte_ns : ℕ) → 1 ≤ byte_ns → burst < (UNITS * byte_ns) * (burst / UNITS / byte_ns + 1)
room-within burst byte_ns some =
    let least : UNITS * 1 ≤ UNITS * byte_ns = mul-le-mul_left UNITS some in
    let positive : 0 < UNITS * byte_ns = omega (arith, least) in
    subst (λ n. burst < (UNITS * byte_ns) * (n + 1)) (sym (div-div-eq-div-mul burst UNITS byte_ns)) (lt-mul-div-succ burst {b = UNITS * byte_ns} positive)

module _ (known : ℕ → LinkSizes) (size : ℕ → Sizes) (plan : Plan) (accepted : IsAccepted plan) (k : ℕ) (line : LinePlan) (read : slice_get (lines_of plan) k ≡ Some line) (all : AreSized plan known size line.from) where
  waiting-made : (outlet : Outlet) → outlet.ahead.byte_ns ≡ line.byte_ns → (bytes : ℕ) (high low : Choice) → IsWaiting line.byte_ns (mixed_at (port_before known plan line) high true) (mixed_at (port_before known plan line) low false) bytes
      → IsWaitingBound (setting_of plan) size line.from line.from_port outlet bytes
  unfolding mixed_at
  waiting-made outlet byte bytes high low h =
      let port = port_before known plan line in
      let high_burst = groups_burst WHOLE (groups_at port high true) in
      let low_burst = groups_burst WHOLE (groups_at port low false) in
      let high_rate = groups_rate WHOLE (groups_at port high true) in
      let low_rate = groups_rate WHOLE (groups_at port low false) in
      let burst_is = bursts-fit high_burst low_burst h.held in
      let bytes_is : bytes ≡ (high_burst + low_burst) / UNITS / line.byte_ns = h.is ∙ ap (λ n. n / UNITS / line.byte_ns) burst_is in
      let within = room-within (high_burst + low_burst) line.byte_ns (line-within plan k line accepted read).times.byte in
      record {
        scale = SCALE;
        whole = WHOLE;
        high = groups_at port high true;
        high_are = are-groups known size plan accepted k line read all high High outlet byte;
        low = groups_at port low false;
        low_are = are-groups known size plan accepted k line read all low Low outlet byte;
        rates = rates-both high_rate low_rate h.rates;
        within = subst (λ n. high_burst + low_burst < (UNITS * n) * (bytes + 1)) (sym byte) (subst (λ n. high_burst + low_burst < (UNITS * line.byte_ns) * (n + 1)) (sym bytes_is) within);
      }

  pub waiting-bound : (w : Weights) (outlet : Outlet) → outlet.ahead.byte_ns ≡ line.byte_ns → (bytes : ℕ) → (bound_by (port_before known plan line) w).waiting ≡ Ok bytes
      → IsWaitingBound (setting_of plan) size line.from line.from_port outlet bytes
  waiting-bound w outlet byte bytes e =
      let port = port_before known plan line in
      let value : Choice → Choice → Result ℕ Reason = λ h l. waiting_of port.byte_ns (mixed_at port h true) (mixed_at port l false) in
      let chosen : IsPair (Result ℕ Reason) value (waiting_bound port w) = pair (Result ℕ Reason) value (By w.waiting_high) (By w.waiting_low) (fits_both (mixed_at port (By w.waiting_high) true) (mixed_at port (By w.waiting_low) false)) in
      waiting-made outlet byte bytes chosen.high chosen.low (waiting-of line.byte_ns (mixed_at port chosen.high true) (mixed_at port chosen.low false) bytes (sym chosen.is ∙ e))
