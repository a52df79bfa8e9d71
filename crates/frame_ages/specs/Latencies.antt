-- How late frames are delivered in the one-thread run.
use Rattle.std.specs.Prelude.{◌≡◌, ℕ, ◌+◌, ◌<◌, ◌≤◌, ◌⊎◌, Contains, Some}
use Rattle.vlink.specs.declared.frame.VlId.{VlId}
use Rattle.vlink.specs.declared.note.Note.TheVariants.{Delivered}
use Rattle.vlink.specs.Letters.{Row}
use Rattle.reverse.specs.Rules.{rules_of}
use Rattle.reverse.specs.Setting.{Setting, simulation_of}
use Rattle.virtual_time.specs.Law.{Laws, one}
use Rattle.port_bounds.specs.Port.{lows_of}
use Rattle.port_bounds.specs.Sublists.{Every}
use Rattle.port_bounds.specs.Frames.{link_of}
use Rattle.nodes.specs.declared.ports.Outlet.{Outlet}
use Rattle.nodes.specs.rules.Node.{NodeState}
use Rattle.nodes.specs.undoing.Node.{node}
use Rattle.port_turns.specs.Nodes.{IsOfNodes}
use Rattle.port_turns.specs.PortEvents.{outlet_in}
use Rattle.frame_ages.specs.Ports.{trace_at}
use Rattle.frame_ages.specs.Sizes.{OpensEmpty, Sizes}
use Rattle.frame_ages.specs.Ways.{ComesBy, ComesNot}

-- the regulator of virtual link v at end system p holds no frame longer than `wait` ns, in any run of this setting
pub record IsHeldWithin (x : Setting NodeState) (p v wait : ℕ) : Type 0 where
  pub holds : (q : ℕ) (outlet : Outlet) → outlet_in (x.opening p).equipment q ≡ Some outlet → (n : ℕ) →
      Every (λ put. link_of put ≡ v → put.frame.released ≤ put.frame.offered + wait) (lows_of (trace_at x p q outlet n))

-- by each port of node `to` that there is, virtual link v comes within so many ns, or it does not come
abbrev pub ComesWithin : Setting NodeState → (ℕ → Sizes) → ℕ → ℕ → ℕ → ℕ → Type 0
ComesWithin x size v source to most =
    (port : ℕ) (outlet : Outlet) → outlet_in (x.opening to).equipment port ≡ Some outlet →
    ((time : ℕ) × ComesBy x size v source to port time × (time ≤ most)) ⊎ ComesNot x v to port

-- so no frame of it is delivered there later than both together after its offer
abbrev pub AreLatenciesBounded : Type 0
AreLatenciesBounded =
    (x : Setting NodeState) → Laws (simulation_of (rules_of node) x) → IsOfNodes x → (size : ℕ → Sizes) → OpensEmpty x size →
    (v source to wait most : ℕ) → to < x.processes → IsHeldWithin x source v wait → ComesWithin x size v source to most →
    (n : ℕ) (row : Row) → Contains (one (simulation_of (rules_of node) x) n).rows row → row.place ≡ to →
    (vl : VlId) (latency : ℕ) → vl.0 ≡ v → row.note ≡ Delivered vl latency → latency ≤ wait + most
