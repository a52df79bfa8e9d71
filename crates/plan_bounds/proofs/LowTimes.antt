-- The delay that the bounds of a network give low frames of a virtual link at a port is a bound of it that passes the check.
use Rattle.std.proofs.Common.{◌≡◌, ℕ, ◌+◌, ◌-◌, ◌*◌, ◌/◌, ◌^◌, ◌<◌, ◌≤◌, ◌&&◌, Bool, true, false, cond, nat_lt, Some, Result, Ok, Err, refl, ap, sym, ◌∙◌, subst, arith, slice_get, leb-true}
use Rattle.std.proofs.Math.Nat.{lt-mul-div-succ}
use Rattle.std.proofs.lemmas.Bool.{false≢true}
use Rattle.vlink.specs.Wire.{busy_for, last_bit_after}
use Rattle.output_port.specs.declared.event.Priority.TheVariants.{High, Low}
use Rattle.network.specs.declared.wiring.LinePlan.{LinePlan}
use Rattle.network.specs.Words.{IsAccepted, Plan, lines_of}
use Rattle.nodes.specs.declared.ports.Outlet.{Outlet}
use Rattle.seqsim.specs.Networks.{setting_of}
use Rattle.plan_bounds.proofs.Counted.{AreSized}
use Rattle.frame_ages.specs.Sizes.{Sizes}
use Rattle.network_bounds.specs.declared.sizes.LinkSizes.{LinkSizes}
use Rattle.network_bounds.specs.declared.mixing.Choice.{Choice}
use Rattle.network_bounds.specs.declared.mixing.Choice.TheVariants.{By}
use Rattle.network_bounds.specs.declared.mixing.Mixture.{Mixture}
use Rattle.network_bounds.specs.declared.delays.Later.{Later}
use Rattle.network_bounds.specs.declared.delays.Weights.{Weights}
use Rattle.network_bounds.specs.declared.reason.Reason.{Reason}
use Rattle.network_bounds.specs.declared.reason.Reason.TheVariants.{Number, Rate}
use Rattle.network_bounds.specs.Delays.{after, bound_by, fits_both, fits_later, later_bound, later_by, later_delay, later_of, only_if}
use Rattle.network_bounds.specs.Mixing.{PortPlan, groups_at, mixed_at, port_before}
use Rattle.network_bounds.specs.Numbers.{SCALE, UNITS, WHOLE, capped}
use Rattle.port_bounds.specs.Mixtures.{groups_burst, groups_rate}
use Rattle.frame_ages.specs.Ways.{IsInTime}
use Rattle.plan_bounds.proofs.Certified.{are-groups}
use Rattle.plan_bounds.proofs.InTime.{IsPair, pair, err-ok, lt-true, same-ok, uncapped}

-- ---- what a bound of low frames says

record IsLater (high low : Mixture) (later : Later) : Type 0 where
  some : high.rate < UNITS
  rates : capped (high.rate + low.rate) ≤ UNITS
  held : capped (high.burst + low.burst) < 2 ^ 128 - 1
  burst : later.burst ≡ capped (high.burst + low.burst)
  left : later.left ≡ UNITS - high.rate

both-true : (a b : Bool) → (a && b) ≡ true → (a ≡ true) × (b ≡ true)
both-true true b h = (refl, h)
both-true false b h = absurd (false≢true h)

later-of : (high low : Mixture) (later : Later) → later_of high low ≡ Ok later → IsLater high low later
later-of high low later e = go (fits_later high low) refl (nat_lt (capped (high.burst + low.burst)) (2 ^ 128 - 1)) refl e
  where
    go : (fits : Bool) → fits_later high low ≡ fits → (held : Bool) → nat_lt (capped (high.burst + low.burst)) (2 ^ 128 - 1) ≡ held
        → cond fits (only_if held (record { burst = capped (high.burst + low.burst); left = UNITS - high.rate }) Number) (Err Rate) ≡ Ok later → IsLater high low later
    go false f held h e = absurd (err-ok Rate later e)
    go true f false h e = absurd (err-ok Number later e)
    go true f true h e =
        let two = both-true (nat_lt high.rate UNITS) (fits_both high low) f in
        let same = same-ok (record { burst = capped (high.burst + low.burst); left = UNITS - high.rate }) later e in
        record {
          some = lt-true high.rate UNITS two.0;
          rates = leb-true _ _ two.1;
          held = lt-true _ _ h;
          burst = ap (λ (x : Later). x.burst) (sym same);
          left = ap (λ (x : Later). x.left) (sym same);
        }

paired : (port : PortPlan) (w : Weights) → IsPair (Result Later Reason) (λ h l. later_of (mixed_at port h true) (mixed_at port l false)) (later_bound port w)
paired port w = pair (Result Later Reason) (λ h l. later_of (mixed_at port h true) (mixed_at port l false)) (By w.high) (By w.low) (later_by port (By w.high) (By w.low))

-- the delay of a low frame of a virtual link
record IsLowDelay (byte_ns least : ℕ) (later : Later) (delay : ℕ) : Type 0 where
  some : 0 < later.left
  is : delay ≡ capped ((later.burst - UNITS * busy_for least byte_ns) / later.left + last_bit_after least byte_ns)

low-delay : (byte_ns least : ℕ) (later : Later) (delay : ℕ) → later_delay byte_ns least later ≡ Ok delay → IsLowDelay byte_ns least later delay
low-delay byte_ns least later delay e = go (nat_lt 0 later.left) refl e
  where
    go : (b : Bool) → nat_lt 0 later.left ≡ b → only_if b (capped ((later.burst - UNITS * busy_for least byte_ns) / later.left + last_bit_after least byte_ns)) Rate ≡ Ok delay → IsLowDelay byte_ns least later delay
    go true h e = record { some = lt-true 0 later.left h; is = sym (same-ok _ delay e) }
    go false h e = absurd (err-ok Rate delay e)

-- ---- numbers

rates-fit : (high low : ℕ) → capped high < UNITS → capped (capped high + capped low) ≤ UNITS → (high < UNITS) × (high + low ≤ UNITS) × (capped high ≡ high)
rates-fit high low lt le = (omega (arith, lt), omega (arith, lt, le), omega (arith, lt))

pub bursts-fit : (high low : ℕ) → capped (capped high + capped low) < 2 ^ 128 - 1 → capped (capped high + capped low) ≡ high + low
bursts-fit high low lt = omega (arith, lt)

low-within : (burst left cost : ℕ) → 0 < left → burst < left * ((burst - UNITS * cost) / left + 1) + UNITS * cost
low-within burst left cost some = let lt = lt-mul-div-succ (burst - UNITS * cost) {b = left} some in omega (arith, lt)

-- ---- low frames

module _ (known : ℕ → LinkSizes) (size : ℕ → Sizes) (plan : Plan) (accepted : IsAccepted plan) (k : ℕ) (line : LinePlan) (read : slice_get (lines_of plan) k ≡ Some line) (all : AreSized plan known size line.from) where
  low-made : (v least : ℕ) → (size v).least ≡ least → (outlet : Outlet) → outlet.ahead.byte_ns ≡ line.byte_ns → (delay : ℕ) → delay < 2 ^ 128 - 1 → (high low : Choice) (later : Later)
      → IsLater (mixed_at (port_before known plan line) high true) (mixed_at (port_before known plan line) low false) later → IsLowDelay line.byte_ns least later delay
      → IsInTime (setting_of plan) size v line.from line.from_port outlet Low delay
  unfolding mixed_at
  low-made v least sized outlet byte delay lt high low later h d =
      let port = port_before known plan line in
      let high_burst = groups_burst WHOLE (groups_at port high true) in
      let low_burst = groups_burst WHOLE (groups_at port low false) in
      let high_rate = groups_rate WHOLE (groups_at port high true) in
      let low_rate = groups_rate WHOLE (groups_at port low false) in
      let rates = rates-fit high_rate low_rate h.some h.rates in
      let burst_is : later.burst ≡ high_burst + low_burst = h.burst ∙ bursts-fit high_burst low_burst h.held in
      let left_is : later.left ≡ UNITS - high_rate = h.left ∙ ap (λ n. UNITS - n) rates.2 in
      let cost = busy_for least line.byte_ns in
      let start = (later.burst - UNITS * cost) / later.left in
      let time : delay ≡ start + last_bit_after least line.byte_ns = d.is ∙ uncapped _ (subst (λ n. n < 2 ^ 128 - 1) d.is lt) in
      let within : later.burst < later.left * (start + 1) + UNITS * cost = low-within later.burst later.left cost d.some in
      let within_is : high_burst + low_burst < (UNITS - high_rate) * (start + 1) + UNITS * cost = subst (λ n. n < (UNITS - high_rate) * (start + 1) + UNITS * cost) burst_is (subst (λ n. later.burst < n * (start + 1) + UNITS * cost) left_is within) in (
        start,
        record {
          scale = SCALE;
          whole = WHOLE;
          high = groups_at port high true;
          high_are = are-groups known size plan accepted k line read all high High outlet byte;
          low = groups_at port low false;
          low_are = are-groups known size plan accepted k line read all low Low outlet byte;
          rates = rates.1;
          some = rates.0;
          within = low-given outlet byte least (size v).least sized high_rate (high_burst + low_burst) start within_is;
        },
        time-given outlet byte least (size v).least sized start delay time,
      )
    where
      low-given : (outlet : Outlet) → outlet.ahead.byte_ns ≡ line.byte_ns → (bytes own : ℕ) → own ≡ bytes → (rate burst start : ℕ) → burst < (UNITS - rate) * (start + 1) + UNITS * busy_for bytes line.byte_ns
          → burst < (UNITS - rate) * (start + 1) + UNITS * busy_for own outlet.ahead.byte_ns
      low-given outlet byte bytes own sized rate burst start h = rw (byte, sized) h

      time-given : (outlet : Outlet) → outlet.ahead.byte_ns ≡ line.byte_ns → (bytes own : ℕ) → own ≡ bytes → (start delay : ℕ) → delay ≡ start + last_bit_after bytes line.byte_ns → start + last_bit_after own outlet.ahead.byte_ns ≤ delay
      time-given outlet byte bytes own sized start delay time = rw (byte, sized) (let is = time in omega (arith, is))

  pub low-bound : (w : Weights) (v least : ℕ) → (size v).least ≡ least → (outlet : Outlet) → outlet.ahead.byte_ns ≡ line.byte_ns → (delay : ℕ) → delay < 2 ^ 128 - 1
      → after (bound_by (port_before known plan line) w).later (later_delay line.byte_ns least) ≡ Ok delay
      → IsInTime (setting_of plan) size v line.from line.from_port outlet Low delay
  low-bound w v least sized outlet byte delay lt e = go (later_bound (port_before known plan line) w) refl e
    where
      go : (o : Result Later Reason) → later_bound (port_before known plan line) w ≡ o → after o (later_delay line.byte_ns least) ≡ Ok delay → IsInTime (setting_of plan) size v line.from line.from_port outlet Low delay
      go (Err reason) is e = absurd (err-ok reason delay e)
      go (Ok later) is e =
          low-made v least sized outlet byte delay lt (paired (port_before known plan line) w).high (paired (port_before known plan line) w).low later
          (later-of (mixed_at (port_before known plan line) (paired (port_before known plan line) w).high true) (mixed_at (port_before known plan line) (paired (port_before known plan line) w).low false) later (sym (paired (port_before known plan line) w).is ∙ is))
          (low-delay line.byte_ns least later delay e)
