-- Which nodes of a network never drop a frame because a port is full, as its bounds say.
use Rattle.std.specs.Prelude.{◌≡◌, ℕ, ◌<◌, ◌≤◌, Contains, List, Ok, Some, length, slice_get}
use Rattle.vlink.specs.Letters.{Row}
use Rattle.vlink.specs.declared.frame.VlId.{VlId}
use Rattle.vlink.specs.declared.note.Cause.TheVariants.{PortFull}
use Rattle.vlink.specs.declared.note.Note.TheVariants.{Dropped}
use Rattle.virtual_time.specs.Law.{one}
use Rattle.network.specs.declared.wiring.LinePlan.{LinePlan}
use Rattle.network.specs.Words.{Plan, lines_of}
use Rattle.nodes.specs.Words.{simulation_of}
use Rattle.plan_ports.specs.Outlets.{port_bytes_at}
use Rattle.network_bounds.specs.declared.delays.PortBound.{PortBound}
use Rattle.network_bounds.specs.declared.sizes.Senders.{Senders}
use Rattle.network_bounds.specs.Delays.{AreBounds}
use Rattle.network_bounds.specs.Sizes.{known_sizes}

-- the bound of the bytes that wait at the port before line k is no more than may wait there
pub record Holds (plan : Plan) (bounds : List PortBound) (p k : ℕ) : Type 0 where
  pub bound : PortBound
  pub read : slice_get bounds k ≡ Some bound
  pub bytes : ℕ
  pub waiting : bound.waiting ≡ Ok bytes
  pub room : bytes ≤ port_bytes_at plan p

-- however many events the run has handled, no frame was dropped at node p because a port is full
abbrev pub DropsNoneFull : Plan → ℕ → Type 0
DropsNoneFull plan p =
    (events : ℕ) (row : Row) → Contains (one (simulation_of plan) events).rows row → row.place ≡ p → (vl : VlId) (bytes : ℕ) → row.note ≡ Dropped vl PortFull bytes → ⊥

-- so it is at each node at whose every port the bound holds
abbrev pub AreRoomsEnough : Plan → Type 0
AreRoomsEnough plan =
    (senders : Senders) (bounds : List PortBound) → AreBounds (known_sizes senders plan) plan (lines_of plan) bounds → (p : ℕ) → p < length plan.nodes →
    ((k : ℕ) (line : LinePlan) → slice_get (lines_of plan) k ≡ Some line → line.from ≡ p → Holds plan bounds p k) → DropsNoneFull plan p
