-- What the bounds of a network say of its one-thread run.
use Rattle.std.specs.Prelude.{◌≡◌, ℕ, ◌+◌, ◌≤◌, Contains, List, Ok}
use Rattle.vlink.specs.Letters.{Row}
use Rattle.vlink.specs.declared.note.Note.TheVariants.{Delivered}
use Rattle.virtual_time.specs.Law.{one}
use Rattle.network.specs.Words.{Plan, VlPlan, destinations_of, lines_of}
use Rattle.nodes.specs.Words.{simulation_of}
use Rattle.network_bounds.specs.declared.delays.PortBound.{PortBound}
use Rattle.network_bounds.specs.declared.sizes.Senders.{Senders}
use Rattle.network_bounds.specs.Ages.{network_ns_of, wait_of}
use Rattle.network_bounds.specs.Delays.{AreBounds}
use Rattle.network_bounds.specs.Sizes.{known_sizes}
use Rattle.least_ages.specs.Deliveries.{IsTimely}

-- however many events the run has handled, no frame of the virtual link was delivered at node n later after its offer than this
abbrev pub IsLatencyBound : Plan → VlPlan → ℕ → ℕ → Type 0
IsLatencyBound plan vl n most =
    (events : ℕ) (row : Row) → Contains (one (simulation_of plan) events).rows row → row.place ≡ n → (latency : ℕ) → row.note ≡ Delivered vl.link.id latency → latency ≤ most

-- each frame of it that was delivered there was held, and took, as long as this at most, and took this at least
abbrev pub AreTimely : Plan → VlPlan → ℕ → ℕ → ℕ → ℕ → Type 0
AreTimely plan vl n wait most least =
    (events : ℕ) (row : Row) → Contains (one (simulation_of plan) events).rows row → row.place ≡ n → (latency : ℕ) → row.note ≡ Delivered vl.link.id latency → IsTimely row latency wait most least

-- the number of each virtual link at each of its destinations is such a bound, whether the frames of other end systems count as they are stated or by contract
abbrev pub AreLatencyBounds : Plan → Type 0
AreLatencyBounds plan =
    (senders : Senders) (bounds : List PortBound) → AreBounds (known_sizes senders plan) plan (lines_of plan) bounds → (vl : VlPlan) → Contains plan.vls vl → (n : ℕ) → Contains (destinations_of vl) n →
    (network_ns : ℕ) → network_ns_of plan bounds vl.link n ≡ Ok network_ns → IsLatencyBound plan vl n (network_ns + wait_of plan vl.link)
