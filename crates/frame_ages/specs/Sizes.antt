-- Each frame of a virtual link has a size from the least to the greatest of its virtual link.
use Rattle.std.specs.Prelude.{◌≡◌, ℕ, ◌<◌, ◌≤◌, All, IfSome, [], ⊤}
use Rattle.vlink.specs.declared.message.Body.{Body}
use Rattle.vlink.specs.declared.message.Body.TheVariants.{Offer, Arrive, Enqueue, Carry}
use Rattle.vlink.specs.declared.frame.Frame.{Frame}
use Rattle.reverse.specs.Rules.{rules_of}
use Rattle.reverse.specs.Setting.{Setting, simulation_of}
use Rattle.virtual_time.specs.Law.{Laws, one}
use Rattle.port_bounds.specs.Port.{idle}
use Rattle.element_bounds.specs.PortTrace.{IsSamePort}
use Rattle.nodes.specs.declared.equipment.Equipment.{Equipment}
use Rattle.nodes.specs.declared.equipment.Equipment.TheVariants.{EndSystem, Switch, Line}
use Rattle.nodes.specs.rules.Node.{NodeState}
use Rattle.nodes.specs.undoing.Node.{node}
use Rattle.port_turns.specs.Nodes.{IsOfNodes}

-- which sizes the frames of a virtual link have
pub record Sizes : Type 0 where
  pub least : ℕ
  pub greatest : ℕ

abbrev pub IsWithin : Sizes → ℕ → Type 0
IsWithin s bytes = (s.least ≤ bytes) × (bytes ≤ s.greatest)

-- the frame has one of the sizes of its virtual link
abbrev pub IsSizedFrame : (ℕ → Sizes) → Frame → Type 0
IsSizedFrame size frame = IsWithin (size frame.vl.0) frame.size

-- and so has the frame that a message offers or brings, if it does
abbrev pub IsSized : (ℕ → Sizes) → Body → Type 0
IsSized size (Offer vl bytes sub) = IsWithin (size vl.0) bytes
IsSized size (Arrive p frame) = IsSizedFrame size frame
IsSized size (Enqueue p frame) = IsSizedFrame size frame
IsSized size (Carry frame) = IsSizedFrame size frame
IsSized size _ = ⊤

-- no frame waits in a regulator
abbrev pub HaveEmptyRegulators : Equipment → Type 0
HaveEmptyRegulators (EndSystem s) = All (λ source. All (λ list. list.frames ≡ []) source.regulator.lists) s.sources
HaveEmptyRegulators _ = ⊤

-- each port is idle, and no frame waits there
abbrev pub HaveIdlePorts : Equipment → Type 0
HaveIdlePorts (EndSystem s) = All (λ slot. IfSome slot (λ outlet. IsSamePort outlet.port idle)) s.ports
HaveIdlePorts (Switch s) = All (λ slot. IfSome slot (λ outlet. IsSamePort outlet.port idle)) s.ports
HaveIdlePorts (Line s) = ⊤

-- at first no frame waits or is in transmission, and each frame that is offered has the size of its virtual link
pub record OpensEmpty (x : Setting NodeState) (size : ℕ → Sizes) : Type 0 where
  pub regulators : (p : ℕ) → p < x.processes → HaveEmptyRegulators (x.opening p).equipment
  pub ports : (p : ℕ) → p < x.processes → HaveIdlePorts (x.opening p).equipment
  pub offers : All (λ m. IsSized size m.body) x.offers

-- so in the one-thread run each message handled has such a frame, or none
abbrev pub AreAllSized : Type 0
AreAllSized =
    (x : Setting NodeState) → Laws (simulation_of (rules_of node) x) → IsOfNodes x → (size : ℕ → Sizes) → OpensEmpty x size → (n : ℕ) → All (λ m. IsSized size m.body) (one (simulation_of (rules_of node) x) n).handled
