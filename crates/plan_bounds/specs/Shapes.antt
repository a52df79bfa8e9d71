-- Networks of one shape: they differ in the end and the seed of runs, in outages, and in what applications offer, but for the least and the greatest frame of each
-- virtual link.
use Rattle.std.specs.Prelude.{◌≡◌, ℕ, ◌+◌, ◌<◌, [], Contains, List, None, Ok, Some, length, map, slice_get}
use Rattle.row_types.specs.declared.rows.Stream.{Stream}
use Rattle.row_types.specs.declared.rows.Timing.TheVariants.{Periodic}
use Rattle.row_types.specs.declared.rows.VirtualLink.{VirtualLink}
use Rattle.network.specs.declared.wiring.LinePlan.{LinePlan}
use Rattle.network.specs.Words.{Plan, VlPlan, destinations_of, lines_of}
use Rattle.network_bounds.specs.declared.delays.PortBound.{PortBound}
use Rattle.network_bounds.specs.Ages.{network_ns_of, wait_of}
use Rattle.network_bounds.specs.Delays.{AreBounds}
use Rattle.network_bounds.specs.declared.sizes.FrameSizes.{FrameSizes}
use Rattle.network_bounds.specs.declared.sizes.Senders.TheVariants.{AsStated}
use Rattle.network_bounds.specs.Sizes.{known_sizes, sizes_in}
use Rattle.plan_bounds.specs.Latencies.{IsLatencyBound}
use Rattle.plan_bounds.specs.Rooms.{DropsNoneFull, Holds}

-- one stream of frames of these two sizes
abbrev pub stream_of_sizes : FrameSizes → Stream
stream_of_sizes sizes =
    record { size = sizes.greatest; frames = 2; last_size = Some sizes.least; offset_ns = 0; period_ns = 0; jitter_ns = 0; timing = Periodic; end_ns = None; sub_vl = None }

-- what is agreed of a virtual link, and of its streams the least and the greatest size of their frames
abbrev pub shape_of_link : Plan → VirtualLink → VirtualLink
shape_of_link plan link = record link { own = stream_of_sizes (sizes_in plan link) }

abbrev pub shape_of_vl : Plan → VlPlan → VlPlan
shape_of_vl plan vl = record vl { link = shape_of_link plan vl.link }

-- the shape of a network
abbrev pub shape_of : Plan → Plan
shape_of plan = record plan { until = 0; seed = 0; outages = []; vls = map (shape_of_vl plan) plan.vls; streams = [] }

-- where two networks have one shape, the number of the one for a virtual link is a bound of the other's runs for that with its number, with the longest wait in
-- the other's regulator
abbrev pub AreShapeBounds : Plan → Plan → Type 0
AreShapeBounds shape plan =
    shape_of plan ≡ shape_of shape → (bounds : List PortBound) → AreBounds (known_sizes AsStated shape) shape (lines_of shape) bounds →
    (known : VlPlan) → Contains shape.vls known → (vl : VlPlan) → Contains plan.vls vl → vl.link.id ≡ known.link.id → (n : ℕ) → Contains (destinations_of vl) n →
    (network_ns : ℕ) → network_ns_of shape bounds known.link n ≡ Ok network_ns → IsLatencyBound plan vl n (network_ns + wait_of plan vl.link)

-- and where the bounds hold at each port of a node, the other drops no frame there because a port is full
abbrev pub AreShapeRooms : Plan → Plan → Type 0
AreShapeRooms shape plan =
    shape_of plan ≡ shape_of shape → (bounds : List PortBound) → AreBounds (known_sizes AsStated shape) shape (lines_of shape) bounds → (p : ℕ) → p < length shape.nodes →
    ((k : ℕ) (line : LinePlan) → slice_get (lines_of shape) k ≡ Some line → line.from ≡ p → Holds shape bounds p k) → DropsNoneFull plan p
