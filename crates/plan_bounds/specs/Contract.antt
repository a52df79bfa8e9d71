-- Networks in which other end systems send whatever they like: the bounds by contract hold in each of them.
use Rattle.std.specs.Prelude.{◌≡◌, ℕ, ◌+◌, ◌<◌, ◌≤◌, [], Contains, List, None, Ok, Some, length, map, max, slice_get, true}
use Rattle.row_types.specs.declared.rows.Stream.{Stream}
use Rattle.row_types.specs.declared.rows.Timing.TheVariants.{Periodic}
use Rattle.row_types.specs.declared.rows.VirtualLink.{VirtualLink}
use Rattle.network.specs.declared.wiring.LinePlan.{LinePlan}
use Rattle.network.specs.Words.{Plan, VlPlan, destinations_of, is_end_system, lines_of, source_of}
use Rattle.network_bounds.specs.declared.delays.PortBound.{PortBound}
use Rattle.network_bounds.specs.declared.sizes.Senders.TheVariants.{ByContract}
use Rattle.network_bounds.specs.Ages.{network_ns_of, wait_of}
use Rattle.network_bounds.specs.Delays.{AreBounds}
use Rattle.network_bounds.specs.Sizes.{known_sizes, sizes_in}
use Rattle.plan_bounds.specs.Latencies.{IsLatencyBound}
use Rattle.plan_bounds.specs.Rooms.{DropsNoneFull, Holds}

-- no stream
abbrev pub no_stream : Stream
no_stream = record { size = 0; frames = 0; last_size = None; offset_ns = 0; period_ns = 0; jitter_ns = 0; timing = Periodic; end_ns = None; sub_vl = None }

-- what is agreed of a virtual link, whatever it offers
abbrev pub agreed_of_link : VirtualLink → VirtualLink
agreed_of_link link = record link { own = no_stream }

abbrev pub agreed_of_vl : VlPlan → VlPlan
agreed_of_vl vl = record vl { link = agreed_of_link vl.link }

-- what is agreed in a network
abbrev pub agreed_of : Plan → Plan
agreed_of plan = record plan { until = 0; seed = 0; outages = []; vls = map agreed_of_vl plan.vls; streams = [] }

-- of each virtual link that node p sends, the second network offers no frame that is longer than Smax, or than the longest that the first one offers
abbrev pub KeepsItsSizes : Plan → Plan → ℕ → Type 0
KeepsItsSizes shape plan p =
    (known : VlPlan) → Contains shape.vls known → (vl : VlPlan) → Contains plan.vls vl → vl.link.id ≡ known.link.id → source_of vl ≡ Some p →
    (sizes_in plan vl.link).greatest ≤ max known.link.smax (sizes_in shape known.link).greatest

-- where two networks agree, the number of the one for a virtual link is a bound of the other's runs for that with its number, if its end system keeps its
-- sizes, and none of its own frames is shorter than the least of the one; with the longest wait in the other's regulator. What other end systems offer is open
abbrev pub AreContractBounds : Plan → Plan → Type 0
AreContractBounds shape plan =
    agreed_of plan ≡ agreed_of shape → (bounds : List PortBound) → AreBounds (known_sizes ByContract shape) shape (lines_of shape) bounds →
    (known : VlPlan) → Contains shape.vls known → (vl : VlPlan) → Contains plan.vls vl → vl.link.id ≡ known.link.id →
    (source : ℕ) → source_of vl ≡ Some source → KeepsItsSizes shape plan source → (sizes_in shape known.link).least ≤ (sizes_in plan vl.link).least →
    (n : ℕ) → Contains (destinations_of vl) n → (network_ns : ℕ) → network_ns_of shape bounds known.link n ≡ Ok network_ns → IsLatencyBound plan vl n (network_ns + wait_of plan vl.link)

-- and where the bounds hold at each port of a node, the other drops no frame there because a port is full: at a switch whatever is offered, and at an end system
-- if that keeps its sizes
abbrev pub AreContractRooms : Plan → Plan → Type 0
AreContractRooms shape plan =
    agreed_of plan ≡ agreed_of shape → (bounds : List PortBound) → AreBounds (known_sizes ByContract shape) shape (lines_of shape) bounds → (p : ℕ) → p < length shape.nodes → (is_end_system shape.nodes p ≡ true → KeepsItsSizes shape plan p) →
    ((k : ℕ) (line : LinePlan) → slice_get (lines_of shape) k ≡ Some line → line.from ≡ p → Holds shape bounds p k) → DropsNoneFull plan p
