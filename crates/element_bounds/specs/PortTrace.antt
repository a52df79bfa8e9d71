-- An output port, seen as the port of which bounds are known: what it drops was never put there, and it is freed only while it is busy.
use Rattle.std.specs.Prelude.{◌≡◌, ℕ, List, [], ◌∷◌, ◌++◌, map, is_some}
use Rattle.vlink.specs.Wire.{busy_for}
use Rattle.vlink.specs.declared.frame.Frame.{Frame}
use Rattle.output_port.specs.declared.event.Priority.{Priority}
use Rattle.output_port.specs.declared.event.Priority.TheVariants as priority
use Rattle.output_port.specs.declared.event.PortEvent.{PortEvent}
use Rattle.output_port.specs.declared.event.PortEvent.TheVariants as event
use Rattle.output_port.specs.declared.event.PortAnswer.{PortAnswer}
use Rattle.output_port.specs.declared.event.PortAnswer.TheVariants.{Started, Kept, Idle}
use Rattle.output_port.specs.Port.{PortState, port}
use Rattle.port_bounds.specs.Frames.{PutFrame}
use Rattle.port_bounds.specs.Port.{Event, Port, after, starts_of}
use Rattle.port_bounds.specs.Port.Event.{High, Low, Free}

-- an event of a port, when it comes, and by which line the frame came that is put
pub record PortEventAt : Type 0 where
  pub at : ℕ
  pub line : ℕ
  pub event : PortEvent

-- the frame as it is put at moment t, to a port whose line takes so many ns for a byte
abbrev pub put_at : ℕ → ℕ → ℕ → Frame → PutFrame
put_at byte_ns t line frame = record { frame = frame; at = t; cost = busy_for frame.size byte_ns; line = line }

abbrev pub put_event : Priority → PutFrame → Event
put_event priority.High x = High x
put_event priority.Low x = Low x

-- what an event with this answer is for the port of which bounds are known
abbrev pub seen_as : ℕ → ℕ → ℕ → PortEvent → PortAnswer → List Event
seen_as byte_ns t line (event.Put frame priority) (Started f) = put_event priority (put_at byte_ns t line frame) ∷ []
seen_as byte_ns t line (event.Put frame priority) Kept = put_event priority (put_at byte_ns t line frame) ∷ []
seen_as byte_ns t line event.Free (Started f) = Free t ∷ []
seen_as byte_ns t line event.Free Idle = Free t ∷ []
seen_as byte_ns t line _ _ = []

-- what these events are for it, from the state p on
abbrev pub trace_of : ℕ → PortState → List PortEventAt → List Event
trace_of byte_ns p [] = []
trace_of byte_ns p (e ∷ es) = seen_as byte_ns e.at e.line e.event (port.out p e.event) ++ trace_of byte_ns (port.after p e.event) es

-- the state after them
abbrev pub state_after : PortState → List PortEventAt → PortState
state_after p [] = p
state_after p (e ∷ es) = state_after (port.after p e.event) es

-- a frame that starts, and when
pub record FrameStart : Type 0 where
  pub frame : Frame
  pub at : ℕ

abbrev pub started_by : ℕ → PortAnswer → List FrameStart
started_by t (Started frame) = record { frame = frame; at = t } ∷ []
started_by t _ = []

-- the frames that these events start
abbrev pub started_of : PortState → List PortEventAt → List FrameStart
started_of p [] = []
started_of p (e ∷ es) = started_by e.at (port.out p e.event) ++ started_of (port.after p e.event) es

abbrev pub frames_of : List PutFrame → List Frame
frames_of xs = map (λ x. x.frame) xs

-- the ports have the same frames waiting, and both are busy, or neither
pub record IsSamePort (p : PortState) (a : Port) : Type 0 where
  pub busy : p.busy ≡ is_some a.until
  pub high : p.high ≡ frames_of a.high
  pub low : p.low ≡ frames_of a.low

-- they stay the same, and start the same frames at the same moments
abbrev pub ArePortsSame : Type 0
ArePortsSame =
    (byte_ns : ℕ) (p : PortState) (a : Port) (es : List PortEventAt) → IsSamePort p a →
    IsSamePort (state_after p es) (after a (trace_of byte_ns p es))
    × (started_of p es ≡ map (λ s. record { frame = s.put.frame; at = s.at }) (starts_of a (trace_of byte_ns p es)))
