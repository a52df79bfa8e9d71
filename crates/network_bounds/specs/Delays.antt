-- How long a frame takes from a port to the end of its last bit, and how much waits there, or why that has no bound.
use Rattle.std.specs.Prelude.{◌≡◌, ℕ, ◌+◌, ◌-◌, ◌*◌, ◌/◌, ◌^◌, ◌&&◌, Bool, true, false, if◌then◌else◌, nat_le, nat_lt, List, [], ◌∷◌, ⊤, Result, Ok, Err}
use Rattle.vlink.specs.Wire.{busy_for, last_bit_after}
use Rattle.network.specs.declared.wiring.LinePlan.{LinePlan}
use Rattle.network.specs.Words.{Plan}
use Rattle.row_types.specs.declared.rows.VirtualLink.{VirtualLink}
use Rattle.network_bounds.specs.declared.reason.Reason.{Reason}
use Rattle.network_bounds.specs.declared.reason.Reason.TheVariants.{Number, Rate}
use Rattle.network_bounds.specs.declared.mixing.Mixture.{Mixture}
use Rattle.network_bounds.specs.declared.mixing.Choice.{Choice}
use Rattle.network_bounds.specs.declared.mixing.Choice.TheVariants.{Least, By}
use Rattle.network_bounds.specs.declared.delays.Weights.{Weights}
use Rattle.network_bounds.specs.declared.delays.Later.{Later}
use Rattle.network_bounds.specs.declared.delays.PortBound.{PortBound}
use Rattle.network_bounds.specs.declared.sizes.LinkSizes.{LinkSizes}
use Rattle.network_bounds.specs.Numbers.{UNITS, capped}
use Rattle.network_bounds.specs.Curves.{is_first}
use Rattle.network_bounds.specs.Mixing.{PortPlan, mixed_at, port_before}

-- the number where the test holds, else the reason
abbrev pub only_if : {X : Type 0} → Bool → X → Reason → Result X Reason
only_if test x reason = if test then Ok x else Err reason

-- ---- high frames: they wait for their burst and for one low frame in transmission; the last bit leaves 12 bytes before the line is free

-- they come no faster than the line sends
abbrev pub fits_first : Mixture → Bool
fits_first high = nat_le high.rate UNITS

-- by these weights, or where those do not fit by those of the least rate
abbrev pub first_mixed : PortPlan → Weights → Mixture
first_mixed port w = let by = mixed_at port (By w.first) true in if fits_first by then by else mixed_at port Least true

abbrev pub first_of : ℕ → Mixture → ℕ → Result ℕ Reason
first_of byte_ns high greatest =
    if fits_first high then only_if (nat_lt high.burst (2 ^ 128 - 1)) (capped (high.burst / UNITS + greatest) - 12 * byte_ns) Number else Err Rate

-- ---- low frames: they wait for both bursts at what high frames leave of the line

abbrev pub both_burst : Mixture → Mixture → ℕ
both_burst high low = capped (high.burst + low.burst)

abbrev pub fits_both : Mixture → Mixture → Bool
fits_both high low = nat_le (capped (high.rate + low.rate)) UNITS

-- high frames leave something of it
abbrev pub fits_later : Mixture → Mixture → Bool
fits_later high low = nat_lt high.rate UNITS && fits_both high low

abbrev pub later_by : PortPlan → Choice → Choice → Bool
later_by port high low = fits_later (mixed_at port high true) (mixed_at port low false)

abbrev pub later_of : Mixture → Mixture → Result Later Reason
later_of high low =
    if fits_later high low then only_if (nat_lt (both_burst high low) (2 ^ 128 - 1)) (record { burst = both_burst high low; left = UNITS - high.rate }) Number else Err Rate

abbrev pub later_bound : PortPlan → Weights → Result Later Reason
later_bound port w =
    if later_by port (By w.high) (By w.low)
    then later_of (mixed_at port (By w.high) true) (mixed_at port (By w.low) false)
    else later_of (mixed_at port Least true) (mixed_at port Least false)

-- ---- how many bytes wait: no more than both bursts, at the rate of the line

abbrev pub waiting_of : ℕ → Mixture → Mixture → Result ℕ Reason
waiting_of byte_ns high low =
    if fits_both high low then only_if (nat_lt (both_burst high low) (2 ^ 128 - 1)) (both_burst high low / UNITS / byte_ns) Number else Err Rate

abbrev pub waiting_bound : PortPlan → Weights → Result ℕ Reason
waiting_bound port w =
    if fits_both (mixed_at port (By w.waiting_high) true) (mixed_at port (By w.waiting_low) false)
    then waiting_of port.byte_ns (mixed_at port (By w.waiting_high) true) (mixed_at port (By w.waiting_low) false)
    else waiting_of port.byte_ns (mixed_at port Least true) (mixed_at port Least false)

-- ---- the port

abbrev pub bound_by : PortPlan → Weights → PortBound
bound_by port w = record {
  first = first_of port.byte_ns (first_mixed port w) (mixed_at port Least false).greatest;
  later = later_bound port w;
  waiting = waiting_bound port w;
}

-- a bound of the port by some weights: any are right, and none is given only where those of the least rate do not fit
abbrev pub IsBound : PortPlan → PortBound → Type 0
IsBound port bound = (w : Weights) × (bound ≡ bound_by port w)

-- a bound of the port before each line, where the frames of each virtual link have these sizes
abbrev pub AreBounds : (ℕ → LinkSizes) → Plan → List LinePlan → List PortBound → Type 0
AreBounds known plan [] [] = ⊤
AreBounds known plan (line ∷ lines) (bound ∷ bounds) = IsBound (port_before known plan line) bound × AreBounds known plan lines bounds
AreBounds known plan [] (bound ∷ bounds) = ⊥
AreBounds known plan (line ∷ lines) [] = ⊥

-- what follows a number, where there is one
abbrev pub after : {X : Type 0} → Result X Reason → (X → Result ℕ Reason) → Result ℕ Reason
after (Ok x) f = f x
after (Err reason) f = Err reason

-- from the port until its last bit has left, in ns. A frame waits for what comes besides it, so the least frame of a virtual link may wait longest
abbrev pub later_delay : ℕ → ℕ → Later → Result ℕ Reason
later_delay byte_ns least later =
    only_if (nat_lt 0 later.left) (capped ((later.burst - UNITS * busy_for least byte_ns) / later.left + last_bit_after least byte_ns)) Rate

abbrev pub delay_of : Bool → ℕ → PortBound → VirtualLink → ℕ → Result ℕ Reason
delay_of is_end byte_ns bound link least = if is_first is_end link then bound.first else after bound.later (later_delay byte_ns least)
