-- When frames are delivered in the one-thread run: their offer, their release and their delivery.
use Rattle.std.specs.Prelude.{◌≡◌, ℕ, ◌+◌, ◌<◌, ◌≤◌, ◌⊎◌, ◌∷◌, Contains, List, Some}
use Rattle.vlink.specs.declared.frame.Frame.{Frame}
use Rattle.vlink.specs.declared.frame.VlId.{VlId}
use Rattle.vlink.specs.declared.message.Body.TheVariants.{Arrive}
use Rattle.vlink.specs.declared.note.Note.TheVariants.{Delivered}
use Rattle.vlink.specs.Letters.{Row}
use Rattle.reverse.specs.Rules.{rules_of}
use Rattle.reverse.specs.Setting.{Setting, simulation_of}
use Rattle.virtual_time.specs.Law.{Laws, one}
use Rattle.nodes.specs.declared.ports.Outlet.{Outlet}
use Rattle.nodes.specs.rules.Node.{NodeState}
use Rattle.nodes.specs.undoing.Node.{node}
use Rattle.port_turns.specs.Nodes.{IsOfNodes}
use Rattle.port_turns.specs.PortEvents.{outlet_in}
use Rattle.frame_ages.specs.Latencies.{IsHeldWithin}
use Rattle.frame_ages.specs.Sizes.{OpensEmpty, Sizes}
use Rattle.frame_ages.specs.Ways.{ComesNot, Hop, IsRoute, source_of, way_time}
use Rattle.least_ages.specs.Ages.{way_least}

-- a row that reports a delivery: the frame, when it came, and how long after its offer. Its regulator held it for `wait` ns at most, and then it took `most` ns
-- at most and `least` ns at least
pub record IsTimely (row : Row) (latency wait most least : ℕ) : Type 0 where
  pub port : ℕ
  pub frame : Frame
  pub came : row.message.body ≡ Arrive port frame
  pub since : frame.offered + latency ≡ row.message.time
  pub released : frame.offered ≤ frame.released
  pub held : frame.released ≤ frame.offered + wait
  pub no_later : row.message.time ≤ frame.released + most
  pub no_sooner : frame.released + least ≤ row.message.time

-- virtual link v comes to port `port` of node `to` over a route from the end system `source`, which takes so long at most and at least
pub record ComesBetween (x : Setting NodeState) (size : ℕ → Sizes) (v source to port most least : ℕ) : Type 0 where
  pub hop : Hop
  pub earlier : List Hop
  pub route : IsRoute x size v (hop ∷ earlier)
  pub from_source : source_of (hop ∷ earlier) ≡ source
  pub to_there : hop.to ≡ to
  pub to_port : hop.port ≡ port
  pub no_later : way_time (hop ∷ earlier) ≤ most
  pub no_sooner : least ≤ way_least (size v).least (hop ∷ earlier)

-- by each port of node `to` that there is it comes so, or it does not come
abbrev pub ComesInTime : Setting NodeState → (ℕ → Sizes) → ℕ → ℕ → ℕ → ℕ → ℕ → Type 0
ComesInTime x size v source to most least =
    (port : ℕ) (outlet : Outlet) → outlet_in (x.opening to).equipment port ≡ Some outlet → ComesBetween x size v source to port most least ⊎ ComesNot x v to port

-- so each frame of it that is delivered there is in time
abbrev pub AreDeliveriesTimely : Type 0
AreDeliveriesTimely =
    (x : Setting NodeState) → Laws (simulation_of (rules_of node) x) → IsOfNodes x → (size : ℕ → Sizes) → OpensEmpty x size →
    (v source to wait most least : ℕ) → to < x.processes → IsHeldWithin x source v wait → ComesInTime x size v source to most least →
    (n : ℕ) (row : Row) → Contains (one (simulation_of (rules_of node) x) n).rows row → row.place ≡ to →
    (vl : VlId) (latency : ℕ) → vl.0 ≡ v → row.note ≡ Delivered vl latency → IsTimely row latency wait most least
