-- Definition: the fixed parts of a node as it has them in a network, which are its delays, and the processes that it sends to.
use Rattle.std.specs.Prelude.{ℕ, ◌<◌, ◌≤◌, IfSome, All}
use Rattle.nodes.specs.declared.ports.LineAhead.{LineAhead}
use Rattle.nodes.specs.declared.equipment.Equipment.{Equipment}
use Rattle.nodes.specs.declared.equipment.Equipment.TheVariants.{EndSystem, Switch, Line}
use Rattle.nodes.specs.rules.Ports.{PortsState}
use Rattle.nodes.specs.rules.Node.{NodeState}

-- each line that a port leads into has P
abbrev pub AllAhead : (LineAhead → Type 0) → PortsState → Type 0
AllAhead P ports = All (λ slot. IfSome slot (λ outlet. P outlet.ahead)) ports

-- each delay is at least 1 ns: of a byte on the wire, between two releases of a regulator, through a switch and over a line
abbrev pub IsPlacedEquipment : Equipment → Type 0
IsPlacedEquipment (EndSystem s) = AllAhead (λ ahead. 1 ≤ ahead.byte_ns) s.ports × All (λ source. 1 ≤ source.regulator.bag) s.sources
IsPlacedEquipment (Switch s) = AllAhead (λ ahead. 1 ≤ ahead.byte_ns) s.ports × (1 ≤ s.latency)
IsPlacedEquipment (Line s) = 1 ≤ s.propagation

abbrev pub IsPlaced : NodeState → Type 0
IsPlaced s = IsPlacedEquipment s.equipment

-- the node is one of that many processes, and so is each that it sends to: its lines, or the far node of a line
abbrev pub IsWiredEquipment : ℕ → Equipment → Type 0
IsWiredEquipment processes (EndSystem s) = AllAhead (λ ahead. ahead.line < processes) s.ports
IsWiredEquipment processes (Switch s) = AllAhead (λ ahead. ahead.line < processes) s.ports
IsWiredEquipment processes (Line s) = s.to < processes

abbrev pub IsWired : ℕ → NodeState → Type 0
IsWired processes s = (s.sender.number < processes) × IsWiredEquipment processes s.equipment
