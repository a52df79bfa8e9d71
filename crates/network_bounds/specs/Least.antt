-- The least time that a frame of a virtual link takes from its release to a place along its path: that of its least frame where nothing waits.
use Rattle.std.specs.Prelude.{ℕ, zero, suc, ◌+◌, ◌-◌, ◌^◌, if◌then◌else◌, nat_le, nat_lt, min, List, length, slice_get, Result, Ok, Err}
use Rattle.std.specs.Option.{option_map_or}
use Rattle.vlink.specs.Wire.{last_bit_after}
use Rattle.network.specs.declared.wiring.LinePlan.{LinePlan}
use Rattle.network.specs.Words.{Plan, is_end_system, lines_of}
use Rattle.row_types.specs.declared.rows.VirtualLink.{VirtualLink}
use Rattle.network_bounds.specs.declared.ages.Span.{Span}
use Rattle.network_bounds.specs.declared.delays.PortBound.{PortBound}
use Rattle.network_bounds.specs.declared.reason.Reason.{Reason}
use Rattle.network_bounds.specs.declared.reason.Reason.TheVariants.{Number, Size}
use Rattle.network_bounds.specs.Ages.{ends_by, latency_of, network_ns_of, wait_of}
use Rattle.network_bounds.specs.Mixing.{line_into}
use Rattle.network_bounds.specs.Numbers.{capped}
use Rattle.network_bounds.specs.Passing.{input_of}
use Rattle.network_bounds.specs.Sizes.{sizes_in}

-- over a line, from the port before it, at which nothing waits
abbrev pub sent_at_once : LinePlan → ℕ → ℕ → ℕ
sent_at_once line bytes age = capped (capped (age + last_bit_after bytes line.byte_ns) + line.propagation_ns)

-- as it is put at a port of node n
abbrev pub least_at : Plan → VirtualLink → ℕ → (ℕ → ℕ) → ℕ
least_at plan link n came =
    if is_end_system plan.nodes n then 0 else option_map_or (λ k. capped (came k + latency_of plan n)) (line_into plan n (input_of plan n link.id.0)) 0

-- as it comes out of line k, where it came over so many lines at most; 0 where it does not come there
abbrev pub least_after : Plan → VirtualLink → ℕ → ℕ → ℕ → ℕ
least_after plan link bytes zero k = 0
least_after plan link bytes (suc lines) k =
    option_map_or (λ line. sent_at_once line bytes (least_at plan link line.from (least_after plan link bytes lines))) (slice_get (lines_of plan) k) 0

-- by port q of its destination; the greatest number where it does not come by it
abbrev pub least_by : Plan → VirtualLink → ℕ → ℕ → ℕ → ℕ
least_by plan link bytes n q =
    if ends_by plan n link.id.0 q then option_map_or (least_after plan link bytes (length (lines_of plan))) (line_into plan n q) 0 else 2 ^ 128 - 1

-- at its destination: the lesser of the two networks
abbrev pub least_to : Plan → VirtualLink → ℕ → ℕ → ℕ
least_to plan link bytes n = min (least_by plan link bytes n 0) (least_by plan link bytes n 1)

abbrev pub least_ns_of : Plan → VirtualLink → ℕ → ℕ
least_ns_of plan link n = least_to plan link (sizes_in plan link).least n

-- ---- with the greatest time, where there is one

abbrev pub with_least : Result ℕ Reason → ℕ → Result Span Reason
with_least (Ok most) least = Ok (record { most = most; least = least })
with_least (Err reason) least = Err reason

-- 128 bits hold the sum with the wait in the regulator, too
abbrev pub if_held : ℕ → Result Span Reason → Result Span Reason
if_held wait (Ok span) = if nat_lt (capped (span.most + wait)) (2 ^ 128 - 1) then Ok span else Err Number
if_held wait (Err reason) = Err reason

-- a switch passes no frame that is longer than Smax, and each path goes through a switch
abbrev pub span_of : Plan → List PortBound → VirtualLink → ℕ → Result Span Reason
span_of plan bounds link n =
    if nat_le (sizes_in plan link).least link.smax then if_held (wait_of plan link) (with_least (network_ns_of plan bounds link n) (least_ns_of plan link n)) else Err Size
