-- Definition: the output ports of a node, and the lines that they lead into.
use Rattle.std.specs.Prelude.{ℕ, ◌+◌, Bool, List, [], ◌∷◌, Option, None, Some, is_some, slice_get, slice_set, option_and_then, option_map}
use Rattle.vlink.specs.declared.frame.Frame.{Frame}
use Rattle.vlink.specs.declared.message.Body.TheVariants.{Carry, PortFree}
use Rattle.vlink.specs.declared.note.Cause.TheVariants.{PortFull}
use Rattle.vlink.specs.Wire.{last_bit_after, busy_for}
use Rattle.output_port.specs.Port.{PortState, port, put_kept}
use Rattle.output_port.specs.declared.event.Priority.{Priority}
use Rattle.output_port.specs.declared.event.PortEvent.{PortEvent}
use Rattle.output_port.specs.declared.event.PortEvent.TheVariants.{Put, Free}
use Rattle.output_port.specs.declared.event.PortAnswer.{PortAnswer}
use Rattle.output_port.specs.declared.event.PortAnswer.TheVariants as answer
use Rattle.output_port.specs.declared.event.PortRecord.{PortRecord}
use Rattle.output_port.specs.declared.event.PutRecord.{PutRecord}
use Rattle.nodes.specs.declared.change.Change.{Change}
use Rattle.nodes.specs.declared.change.Change.TheVariants as change
use Rattle.nodes.specs.declared.ports.Outlet.{Outlet}
use Rattle.nodes.specs.declared.ports.LineAhead.{LineAhead}
use Rattle.reverse.specs.Sending.{Reply, silent, loss}

-- for each port number the port and the line that it leads into, if there is such a port
abbrev pub PortsState : Type 0
PortsState = List (Option Outlet)

-- what stands at port number q, if there is such a port
abbrev pub outlet_at : PortsState → ℕ → Option Outlet
outlet_at ports q = option_and_then (λ outlet. outlet) (slice_get ports q)

abbrev pub exists : PortsState → ℕ → Bool
exists ports q = is_some (outlet_at ports q)

-- port q, if there is such a port
abbrev pub port_at : PortsState → ℕ → Option PortState
port_at ports q = option_map (λ outlet. outlet.port) (outlet_at ports q)

-- at moment t node n starts the frame at port q: its last bit is carried into the line, and then the port is free
abbrev pub start : ℕ → ℕ → ℕ → LineAhead → Frame → Reply
start n t q ahead frame = record {
  wishes =
      record { time = t + last_bit_after frame.size ahead.byte_ns; receiver = ahead.line; body = Carry frame }
      ∷ record { time = t + busy_for frame.size ahead.byte_ns; receiver = n; body = PortFree q }
      ∷ [];
  notes = [];
}

-- what follows from a port's answer: a frame that it starts goes out, and one that it drops is lost
abbrev pub answered : ℕ → ℕ → ℕ → LineAhead → PortEvent → PortAnswer → Reply
answered n t q ahead e (answer.Started frame) = start n t q ahead frame
answered n t q ahead (Put frame priority) answer.Dropped = loss PortFull frame
answered n t q ahead Free answer.Dropped = silent
answered n t q ahead e answer.Kept = silent
answered n t q ahead e answer.Idle = silent
answered n t q ahead e answer.Nothing = silent

-- port q is asked to do something: nothing changes where there is no such port
abbrev pub changed_at : ℕ → PortEvent → PortsState → Option Outlet → PortsState
changed_at q e ports (Some outlet) = slice_set ports q (Some (record outlet { port = port.after outlet.port e }))
changed_at q e ports None = ports

abbrev pub changed : ℕ → PortEvent → PortsState → PortsState
changed q e ports = changed_at q e ports (outlet_at ports q)

-- what then follows
abbrev pub reply_at : ℕ → ℕ → ℕ → PortEvent → Option Outlet → Reply
reply_at n t q e (Some outlet) = answered n t q outlet.ahead e (port.out outlet.port e)
reply_at n t q e None = silent

abbrev pub reply : ℕ → ℕ → ℕ → PortEvent → PortsState → Reply
reply n t q e ports = reply_at n t q e (outlet_at ports q)

-- what the port keeps of it, if there is such a port, and of a frame put
abbrev pub port_kept : ℕ → PortEvent → PortsState → Option PortRecord
port_kept q e ports = option_map (λ outlet. port.saves outlet.port e) (outlet_at ports q)

abbrev pub port_put_kept : ℕ → Frame → Priority → PortsState → Option PutRecord
port_put_kept q frame priority ports = option_map (λ outlet. put_kept outlet.port frame priority) (outlet_at ports q)

-- which is the change of a node
abbrev pub port_change : ℕ → Option PortRecord → Change
port_change q None = change.Nothing
port_change q (Some kept) = change.Outlet q kept
