-- How long a frame of a virtual link takes from its release to a place, along its path.
use Rattle.std.specs.Prelude.{ℕ, zero, suc, ◌+◌, ◌-◌, ◌*◌, ◌==◌, ◌&&◌, ◌||◌, Bool, not, if◌then◌else◌, max, min, nat_le, nat_lt, List, length, slice_get, Result, Ok, Err}
use Rattle.std.specs.List.{list_any}
use Rattle.std.specs.Option.{option_map_or}
use Rattle.network.specs.declared.wiring.LinePlan.{LinePlan}
use Rattle.network.specs.Words.{Plan, arrivals_of, is_end_system, lines_of}
use Rattle.row_types.specs.declared.rows.NodeKind.{NodeKind}
use Rattle.row_types.specs.declared.rows.NodeKind.TheVariants.{EndSystem, Switch}
use Rattle.row_types.specs.declared.rows.Stream.{Stream}
use Rattle.row_types.specs.declared.rows.VirtualLink.{VirtualLink}
use Rattle.network_bounds.specs.declared.reason.Reason.{Reason}
use Rattle.network_bounds.specs.declared.reason.Reason.TheVariants.{Way}
use Rattle.network_bounds.specs.declared.delays.PortBound.{PortBound}
use Rattle.network_bounds.specs.Numbers.{capped, within}
use Rattle.network_bounds.specs.Curves.{bag_of}
use Rattle.network_bounds.specs.Passing.{input_of}
use Rattle.network_bounds.specs.Mixing.{line_into}
use Rattle.network_bounds.specs.Delays.{after, delay_of}
use Rattle.network_bounds.specs.Sizes.{sizes_in}
use Rattle.traffic.specs.Plain.{is_periodic}

-- how long a frame takes through the node
abbrev pub latency_in : NodeKind → ℕ
latency_in EndSystem = 0
latency_in (Switch net latency_ns) = latency_ns

abbrev pub latency_of : Plan → ℕ → ℕ
latency_of plan n = option_map_or (λ node. latency_in node.kind) (slice_get plan.nodes n) 0

abbrev pub plus : Result ℕ Reason → ℕ → Result ℕ Reason
plus age more = after age (λ a. Ok (capped (a + more)))

-- as it is put at a port of node n: at its end system it is released just then; at a switch it came by its line, and then through the switch
abbrev pub age_at : Plan → VirtualLink → ℕ → (ℕ → Result ℕ Reason) → Result ℕ Reason
age_at plan link n came =
    if is_end_system plan.nodes n then Ok 0 else option_map_or (λ k. plus (came k) (latency_of plan n)) (line_into plan n (input_of plan n link.id.0)) (Err Way)

-- as it comes out of a line: it waited at the port before it and was sent, and was then on the way
abbrev pub sent_over : Bool → LinePlan → PortBound → VirtualLink → ℕ → Result ℕ Reason → Result ℕ Reason
sent_over is_end line bound link least age = after age (λ a. after (delay_of is_end line.byte_ns bound link least) (λ delay. Ok (capped (capped (a + delay) + line.propagation_ns))))

abbrev pub age_over : Plan → VirtualLink → ℕ → (ℕ → Result ℕ Reason) → LinePlan → PortBound → Result ℕ Reason
age_over plan link least came line bound = sent_over (is_end_system plan.nodes line.from) line bound link least (age_at plan link line.from came)

-- as it comes out of line k, where it came over so many lines at most
abbrev pub age_after : Plan → List PortBound → VirtualLink → ℕ → ℕ → ℕ → Result ℕ Reason
age_after plan bounds link least zero k = Err Way
age_after plan bounds link least (suc lines) k =
    option_map_or (λ line. option_map_or (age_over plan link least (age_after plan bounds link least lines) line) (slice_get bounds k) (Err Way)) (slice_get (lines_of plan) k) (Err Way)

-- the virtual link ends at this node by port q: by 0 on network A, by 1 on network B
abbrev pub ends_by : Plan → ℕ → ℕ → ℕ → Bool
ends_by plan n id q = list_any (λ way. (way.vl.0 == id) && (way.port == q)) (arrivals_of plan n)

abbrev pub age_by : Plan → List PortBound → VirtualLink → ℕ → ℕ → ℕ → Result ℕ Reason
age_by plan bounds link least n q =
    if ends_by plan n link.id.0 q
    then option_map_or (age_after plan bounds link least (length (lines_of plan))) (line_into plan n q) (Err Way)
    else Ok 0

-- at its destination, where its least frame has so many bytes: the greater of the two networks
abbrev pub age_to : Plan → List PortBound → VirtualLink → ℕ → ℕ → Result ℕ Reason
age_to plan bounds link least n =
    if ends_by plan n link.id.0 0 || ends_by plan n link.id.0 1
    then after (age_by plan bounds link least n 0) (λ a. after (age_by plan bounds link least n 1) (λ b. within (max a b)))
    else Err Way

abbrev pub network_ns_of : Plan → List PortBound → VirtualLink → ℕ → Result ℕ Reason
network_ns_of plan bounds link n = age_to plan bounds link (sizes_in plan link).least n

-- how late the bursts of a stream may come after their moments: a sporadic one counts the next moment from when a burst came
abbrev pub late_in : Stream → ℕ
late_in stream = if is_periodic stream.timing then stream.jitter_ns else 0

-- one list; or bursts of one frame that come each before the next one is due, so that at most one frame waits
abbrev pub one_waits : VirtualLink → Bool
one_waits link = (link.sub == 1) || ((link.own.frames == 1) && nat_lt (late_in link.own) link.own.period_ns)

-- and no stream but its own
abbrev pub is_alone : Plan → VirtualLink → Bool
is_alone plan link = one_waits link && not (list_any (λ s. s.vl.0 == link.id.0) plan.streams)

-- its bursts come in order, and a period has the BAGs of a burst
abbrev pub is_in_time : VirtualLink → Bool
is_in_time link = nat_le (link.own.frames * bag_of link) link.own.period_ns && nat_le (late_in link.own) link.own.period_ns

abbrev pub is_steady : Plan → VirtualLink → Bool
is_steady plan link = is_alone plan link && is_in_time link

-- then a frame waits for the frames before it in its burst, and for what the BAGs of a burst and its lateness are beyond the period
abbrev pub steady_wait : VirtualLink → ℕ
steady_wait link = let burst = link.own.frames * bag_of link in (burst - bag_of link) + (late_in link.own + burst - link.own.period_ns)

-- the longest wait in a regulator: of any offers a list of `depth` frames of each sub-virtual link
abbrev pub wait_of : Plan → VirtualLink → ℕ
wait_of plan link =
    let full = link.depth * link.sub * bag_of link in
    if is_steady plan link then min full (steady_wait link) else full
