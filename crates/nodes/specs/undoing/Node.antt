-- Undoing: what is kept of an event of a node, and the node before it.
use Rattle.std.specs.Prelude.{◌-◌, length}
use Rattle.vlink.specs.declared.message.Message.{Message}
use Rattle.reverse.specs.declared.sends.Sends.{Sends}
use Rattle.reverse.specs.Plain.{Plain}
use Rattle.nodes.specs.declared.node.NodeRecord.{NodeRecord}
use Rattle.nodes.specs.rules.Placed.{IsPlaced}
use Rattle.nodes.specs.rules.Node.{EquipmentOutcome, NodeState, handled, after, sends, notes}
use Rattle.nodes.specs.undoing.Changes.{undone, IsLastChange}

-- what changed is a change of a value: the element as it now is, and what it kept, came from one event at a value of its type
abbrev pub IsValueChange : EquipmentOutcome → Type 0
IsValueChange o = IsLastChange o.change o.equipment

-- the delays of the node are those of a network, and the element that the message changes is a value of its type
abbrev pub IsNodeValue : NodeState → Message → Type 0
IsNodeValue s m = IsPlaced s × IsValueChange (handled s.sender.number m s.equipment)

-- a node as an actor: its plain step, the record of an event, and the node before it, whose counter goes back by what was sent
abbrev pub node : Plain NodeState Message Sends NodeRecord
node = record {
  after = after;
  out = λ s m. record { messages = record { items = sends s m }; notes = record { items = notes s m } };
  saves = λ s m. record { sends = length (sends s m); change = (handled s.sender.number m s.equipment).change };
  before = λ s m k. record {
    sender = record s.sender { counter = s.sender.counter - k.sends };
    equipment = undone k.change s.equipment;
  };
  counter = λ s. s.sender.counter;
}
