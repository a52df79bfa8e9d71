-- Frames of one virtual link that a switch puts to one of its output ports, and the virtual link as it goes through the switch.
use Rattle.std.specs.Prelude.{◌≡◌, ℕ, ◌==◌, ◌&&◌, Bool, false, Option, None, option_map}
use Rattle.vlink.specs.declared.message.Body.{Body}
use Rattle.vlink.specs.declared.message.Body.TheVariants.{Arrive, Enqueue}
use Rattle.nodes.specs.declared.equipment.Equipment.{Equipment}
use Rattle.nodes.specs.declared.equipment.Equipment.TheVariants.{Switch}
use Rattle.nodes.specs.declared.transit.Transit.{Transit}
use Rattle.nodes.specs.rules.Finding.{find}
use Rattle.nodes.specs.rules.Switch.{transit_number}

-- the message puts a frame of virtual link v to port q, whichever process gets it
abbrev pub is_put : ℕ → ℕ → Body → Bool
is_put q v (Enqueue p frame) = (p == q) && (frame.vl.0 == v)
is_put q v _ = false

-- the message brings a frame of virtual link v with that many bytes
abbrev pub IsBrought : ℕ → ℕ → Body → Type 0
IsBrought v bytes (Arrive k frame) = (frame.vl.0 ≡ v) × (bytes ≡ frame.size)
IsBrought v bytes _ = ⊥

-- the virtual link as it goes through this equipment, if that is a switch through which it goes
abbrev pub transit_of : Equipment → ℕ → Option Transit
transit_of (Switch s) v = option_map (λ found. found.entry) (find transit_number s.transits v)
transit_of _ v = None
