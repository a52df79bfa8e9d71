-- Definition: a node's plain step, which is what a node makes of a message; and what can be read of a node.
use Rattle.std.specs.Prelude.{ℕ, List, Option, None, option_map}
use Rattle.vlink.specs.declared.frame.VlId.{VlId}
use Rattle.vlink.specs.declared.message.Message.{Message}
use Rattle.vlink.specs.declared.note.Note.{Note}
use Rattle.bag_regulator.specs.Regulator.{Regulator}
use Rattle.output_port.specs.Port.{PortState}
use Rattle.reverse.specs.Sending.{Reply, Sender, sent, after_sending}
use Rattle.nodes.specs.rules.Finding.{Found}
use Rattle.nodes.specs.rules.Ports.{port_at}
use Rattle.nodes.specs.rules.EndSystem.{EndSystemOutcome, end_system, source_at}
use Rattle.nodes.specs.rules.Switch.{SwitchOutcome, switch}
use Rattle.nodes.specs.rules.Line.{line}
use Rattle.nodes.specs.declared.change.Change.{Change}
use Rattle.nodes.specs.declared.change.Change.TheVariants as change
use Rattle.nodes.specs.declared.source.Source.{Source}
use Rattle.nodes.specs.declared.equipment.Equipment.{Equipment}
use Rattle.nodes.specs.declared.equipment.Equipment.TheVariants.{EndSystem, Switch, Line}

-- a process: what it is, and the number of its next message
pub record NodeState : Type 0 where
  pub sender : Sender
  pub equipment : Equipment

pub record EquipmentOutcome : Type 0 where
  pub equipment : Equipment
  pub reply : Reply
  pub change : Change

abbrev pub end_system_equipment : EndSystemOutcome → EquipmentOutcome
end_system_equipment o = record { equipment = EndSystem o.state; reply = o.reply; change = o.change }

abbrev pub switch_equipment : SwitchOutcome → EquipmentOutcome
switch_equipment o = record { equipment = Switch o.state; reply = o.reply; change = o.change }

-- what the equipment of a node with number n makes of a message
abbrev pub handled : ℕ → Message → Equipment → EquipmentOutcome
handled n m (EndSystem s) = end_system_equipment (end_system n m.time m.body s)
handled n m (Switch s) = switch_equipment (switch n m.time m.body s)
handled n m (Line s) = record { equipment = Line s; reply = line m.time m.body s; change = change.Nothing }

-- the state after a message, what is then sent, and what is noted
abbrev pub after : NodeState → Message → NodeState
after s m =
    let now = handled s.sender.number m s.equipment in
    record { sender = after_sending s.sender now.reply.wishes; equipment = now.equipment }

abbrev pub sends : NodeState → Message → List Message
sends s m = sent s.sender (handled s.sender.number m s.equipment).reply.wishes

abbrev pub notes : NodeState → Message → List Note
notes s m = (handled s.sender.number m s.equipment).reply.notes

-- the regulator of a virtual link that the node sends
abbrev pub regulator_in : Equipment → VlId → Option Regulator
regulator_in (EndSystem s) vl = option_map (λ (found : Found Source). found.entry.regulator) (source_at s vl)
regulator_in (Switch s) vl = None
regulator_in (Line s) vl = None

-- its port with this number
abbrev pub port_in : Equipment → ℕ → Option PortState
port_in (EndSystem s) q = port_at s.ports q
port_in (Switch s) q = port_at s.ports q
port_in (Line s) q = None
