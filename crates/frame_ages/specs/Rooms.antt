-- Which nodes never drop a frame because a port is full.
use Rattle.std.specs.Prelude.{◌≡◌, ℕ, ◌<◌, ◌≤◌, Contains, Some}
use Rattle.vlink.specs.declared.frame.VlId.{VlId}
use Rattle.vlink.specs.declared.note.Note.TheVariants.{Dropped}
use Rattle.vlink.specs.declared.note.Cause.TheVariants.{PortFull}
use Rattle.vlink.specs.Letters.{Row}
use Rattle.reverse.specs.Rules.{rules_of}
use Rattle.reverse.specs.Setting.{Setting, simulation_of}
use Rattle.virtual_time.specs.Law.{Laws, one}
use Rattle.nodes.specs.declared.ports.Outlet.{Outlet}
use Rattle.nodes.specs.rules.Node.{NodeState}
use Rattle.nodes.specs.undoing.Node.{node}
use Rattle.port_turns.specs.Nodes.{IsOfNodes}
use Rattle.port_turns.specs.PortEvents.{outlet_in}
use Rattle.frame_ages.specs.Ports.{IsWaitingBound}
use Rattle.frame_ages.specs.Sizes.{OpensEmpty, Sizes}

-- no more bytes wait at port q of node p than may
pub record HasRoomAt (x : Setting NodeState) (size : ℕ → Sizes) (p q : ℕ) (outlet : Outlet) : Type 0 where
  pub bytes : ℕ
  pub bound : IsWaitingBound x size p q outlet bytes
  pub room : bytes ≤ outlet.port.bytes

-- where each port of a node has room, none of its frames is dropped as its ports are full
abbrev pub AreFramesKept : Type 0
AreFramesKept =
    (x : Setting NodeState) → Laws (simulation_of (rules_of node) x) → IsOfNodes x → (size : ℕ → Sizes) → OpensEmpty x size → (p : ℕ) → p < x.processes →
    ((q : ℕ) (outlet : Outlet) → outlet_in (x.opening p).equipment q ≡ Some outlet → HasRoomAt x size p q outlet) →
    (n : ℕ) (row : Row) → Contains (one (simulation_of (rules_of node) x) n).rows row → row.place ≡ p → (vl : VlId) (bytes : ℕ) → row.note ≡ Dropped vl PortFull bytes → ⊥
