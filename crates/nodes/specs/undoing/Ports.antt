-- Undoing: the ports of a node before the last event at one of them, and when a record is of the last one.
use Rattle.std.specs.Prelude.{ℕ, Option, None, Some, IfSome, slice_set}
use Rattle.output_port.specs.Port.{port, undone, IsWithinBytes}
use Rattle.output_port.specs.declared.event.PortEvent.{PortEvent}
use Rattle.output_port.specs.declared.event.PortRecord.{PortRecord}
use Rattle.output_port.specs.declared.event.PortRecord.TheVariants.{Put}
use Rattle.reverse.specs.Plain.{CameFrom}
use Rattle.nodes.specs.declared.copies.CopiesRecord.{CopiesRecord}
use Rattle.nodes.specs.declared.ports.Outlet.{Outlet}
use Rattle.nodes.specs.rules.Ports.{PortsState, outlet_at}

-- the ports before the event at port q of which this is kept, where there is such a port
abbrev pub restored_at : ℕ → PortRecord → PortsState → Option Outlet → PortsState
restored_at q kept ports (Some outlet) = slice_set ports q (Some (record outlet { port = undone outlet.port kept }))
restored_at q kept ports None = ports

abbrev pub restored : ℕ → PortRecord → PortsState → PortsState
restored q kept ports = restored_at q kept ports (outlet_at ports q)

-- before the copies of a frame were put to the ports of A and B
abbrev pub uncopied : CopiesRecord → PortsState → PortsState
uncopied copies ports = restored 0 (Put copies.a) (restored 1 (Put copies.b) ports)

-- what waits at port q, where there is such a port, is a value of its type
abbrev pub IsPortValue : ℕ → PortsState → Type 0
IsPortValue q ports = IfSome (outlet_at ports q) (λ outlet. IsWithinBytes outlet.port)

-- this is kept of the last event at port q
abbrev pub IsLastAtPort : ℕ → PortRecord → PortsState → Type 0
IsLastAtPort q kept ports = IfSome (outlet_at ports q) (λ outlet. (e : PortEvent) × CameFrom port (λ p e. IsWithinBytes p) outlet.port e kept)
