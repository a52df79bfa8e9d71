-- Definition: what an end system does with a message.
use Rattle.std.specs.Prelude.{ℕ, ◌-◌, Bool, if◌then◌else◌, List, [], ◌∷◌, Option, None, Some, slice_set, option_and_then, unwrap_or}
use Rattle.vlink.specs.declared.frame.Frame.{Frame}
use Rattle.vlink.specs.declared.frame.VlId.{VlId}
use Rattle.vlink.specs.declared.frame.Net.{Net}
use Rattle.vlink.specs.declared.frame.Net.TheVariants.{A, B}
use Rattle.vlink.specs.declared.message.Body.{Body}
use Rattle.vlink.specs.declared.message.Body.TheVariants as body
use Rattle.vlink.specs.declared.note.Note.TheVariants.{Delivered}
use Rattle.vlink.specs.declared.note.Cause.{Cause}
use Rattle.vlink.specs.declared.note.Cause.TheVariants.{QueueFull, Unknown, Integrity, Duplicate}
use Rattle.bag_regulator.specs.Regulator.{regulator}
use Rattle.bag_regulator.specs.declared.event.RegEvent.{RegEvent}
use Rattle.bag_regulator.specs.declared.event.RegEvent.TheVariants.{Offer, Release}
use Rattle.bag_regulator.specs.declared.event.RegAnswer.{RegAnswer}
use Rattle.bag_regulator.specs.declared.event.RegAnswer.TheVariants as answer
use Rattle.output_port.specs.declared.event.PortEvent.{PortEvent}
use Rattle.output_port.specs.declared.event.PortEvent.TheVariants.{Put, Free}
use Rattle.output_port.specs.declared.event.Priority.TheVariants.{Low}
use Rattle.output_port.specs.declared.event.PutRecord.{PutRecord}
use Rattle.output_port.specs.declared.event.PutRecord.TheVariants as put
use Rattle.integrity.specs.Integrity.{integrity}
use Rattle.integrity.specs.declared.checking.Checked.{Checked}
use Rattle.integrity.specs.declared.checking.Checked.TheVariants as check
use Rattle.redundancy.specs.Redundancy.{redundancy}
use Rattle.redundancy.specs.declared.delivery.Delivery.{Delivery}
use Rattle.redundancy.specs.declared.delivery.Delivery.TheVariants as delivery
use Rattle.nodes.specs.declared.change.Change.{Change}
use Rattle.nodes.specs.declared.change.Change.TheVariants as change
use Rattle.nodes.specs.declared.copies.CopiesRecord.{CopiesRecord}
use Rattle.nodes.specs.declared.vl_end.VlEnd.{VlEnd}
use Rattle.nodes.specs.declared.receiving.Receiving.{Receiving}
use Rattle.nodes.specs.declared.receiving.ReceivingRecord.{ReceivingRecord}
use Rattle.nodes.specs.declared.source.Source.{Source}
use Rattle.nodes.specs.declared.reception.Reception.{Reception}
use Rattle.reverse.specs.Sending.{Reply, silent, joined, loss}
use Rattle.nodes.specs.rules.Ports.{PortsState, changed, exists, port_change, port_kept, port_put_kept, reply}
use Rattle.nodes.specs.rules.Finding.{Found, find}

-- the virtual links that it sends, those that it receives, and its ports
pub record EndSystemState : Type 0 where
  pub sources : List Source
  pub receptions : List Reception
  pub ports : PortsState

-- the state after an event, what is then sent and noted, and what changed, and where
pub record EndSystemOutcome : Type 0 where
  pub state : EndSystemState
  pub reply : Reply
  pub change : Change

-- nothing happens
abbrev pub unmoved : EndSystemState → EndSystemOutcome
unmoved s = record { state = s; reply = silent; change = change.Nothing }

-- the numbers of their virtual links
abbrev pub source_number : Source → ℕ
source_number source = source.end.vl.0

abbrev pub reception_number : Reception → ℕ
reception_number reception = reception.end.vl.0

-- the port of a network
abbrev pub port_of : Net → ℕ
port_of A = 0
port_of B = 1

-- the end is on this network
abbrev pub is_on : VlEnd → Net → Bool
is_on end A = end.a
is_on end B = end.b

-- a frame that is offered, as the regulator gets it
abbrev pub offered_frame : ℕ → VlId → ℕ → Frame
offered_frame t vl size = record { vl = vl; number = 0; size = size; offered = t; released = 0; net = A }

-- the copy of a frame for a network is put low at that network's port, where the virtual link is on it
abbrev pub copy : Net → Frame → PortEvent
copy net frame = Put (record frame { net = net }) Low

abbrev pub copied : VlEnd → Net → Frame → PortsState → PortsState
copied end net frame ports = if is_on end net then changed (port_of net) (copy net frame) ports else ports

abbrev pub copied_reply : ℕ → ℕ → VlEnd → Net → Frame → PortsState → Reply
copied_reply n t end net frame ports = if is_on end net then reply n t (port_of net) (copy net frame) ports else silent

abbrev pub copied_kept : VlEnd → Net → Frame → PortsState → PutRecord
copied_kept end net frame ports = if is_on end net then unwrap_or (port_put_kept (port_of net) (record frame { net = net }) Low ports) put.Nothing else put.Nothing

-- both copies, A before B, of the frame that a regulator releases
abbrev pub released_out : VlEnd → RegAnswer → PortsState → PortsState
released_out end (answer.Released frame) ports = copied end B frame (copied end A frame ports)
released_out end answer.Kept ports = ports
released_out end answer.Dropped ports = ports
released_out end answer.Nothing ports = ports

abbrev pub released_reply : ℕ → ℕ → VlEnd → RegAnswer → PortsState → Reply
released_reply n t end (answer.Released frame) ports =
    joined (copied_reply n t end A frame ports) (copied_reply n t end B frame (copied end A frame ports))
released_reply n t end answer.Kept ports = silent
released_reply n t end answer.Dropped ports = silent
released_reply n t end answer.Nothing ports = silent

abbrev pub released_kept : VlEnd → RegAnswer → PortsState → CopiesRecord
released_kept end (answer.Released frame) ports = record { a = copied_kept end A frame ports; b = copied_kept end B frame (copied end A frame ports) }
released_kept end answer.Kept ports = record { a = put.Nothing; b = put.Nothing }
released_kept end answer.Dropped ports = record { a = put.Nothing; b = put.Nothing }
released_kept end answer.Nothing ports = record { a = put.Nothing; b = put.Nothing }

-- the Release that a regulator asks for
abbrev pub asked : ℕ → VlId → Option ℕ → Reply
asked n vl None = silent
asked n vl (Some at) = record { wishes = record { time = at; receiver = n; body = body.Release vl } ∷ []; notes = [] }

-- the frame that a regulator is offered is lost for this cause
abbrev pub lost : Cause → RegEvent → Reply
lost cause (Offer at sub frame) = loss cause frame
lost cause (Release at) = silent

-- a frame that finds the queue full is lost
abbrev pub full : RegEvent → RegAnswer → Reply
full (Offer at sub frame) answer.Dropped = loss QueueFull frame
full (Offer at sub frame) (answer.Released f) = silent
full (Offer at sub frame) answer.Kept = silent
full (Offer at sub frame) answer.Nothing = silent
full (Release at) a = silent

-- a virtual link that the end system sends
abbrev pub source_at : EndSystemState → VlId → Option (Found Source)
source_at s vl = find source_number s.sources vl.0

-- its regulator is asked to do something; where the end system does not send the virtual link, there is only this reply
abbrev pub regulated : ℕ → ℕ → RegEvent → Reply → EndSystemState → Option (Found Source) → EndSystemOutcome
regulated n t e otherwise s None = record { state = s; reply = otherwise; change = change.Nothing }
regulated n t e otherwise s (Some found) =
    let source = found.entry in
    let out = regulator.out source.regulator e in
    record {
      state = record s {
        sources = slice_set s.sources found.place (record source { regulator = regulator.after source.regulator e });
        ports = released_out source.end out.answer s.ports;
      };
      reply = joined (joined (full e out.answer) (asked n source.end.vl out.release_at)) (released_reply n t source.end out.answer s.ports);
      change = change.Source found.place (released_kept source.end out.answer s.ports) (regulator.saves source.regulator e);
    }

-- a frame is offered: it is lost where the virtual link does not begin here
abbrev pub offered : ℕ → ℕ → VlId → ℕ → ℕ → EndSystemState → EndSystemOutcome
offered n t vl size sub s =
    let frame = offered_frame t vl size in
    regulated n t (Offer t sub frame) (loss Unknown frame) s (source_at s vl)

-- the moment of a Release has come
abbrev pub released : ℕ → ℕ → VlId → EndSystemState → EndSystemOutcome
released n t vl s = regulated n t (Release t) silent s (source_at s vl)

-- a virtual link that ends here on this network
abbrev pub ending_on : Net → Found Reception → Option (Found Reception)
ending_on net found = if is_on found.entry.end net then Some found else None

abbrev pub reception_at : EndSystemState → VlId → Net → Option (Found Reception)
reception_at s vl net = option_and_then (ending_on net) (find reception_number s.receptions vl.0)

-- the check of a network, and the checks with another one there
abbrev pub check_of : Net → Receiving → Option ℕ
check_of A r = r.a
check_of B r = r.b

abbrev pub with_check : Net → Option ℕ → Receiving → Receiving
with_check A c r = record r { a = c }
with_check B c r = record r { b = c }

-- what a frame makes of the checks of its virtual link: redundancy management sees it only if it passes the check of its network
abbrev pub redundant : ℕ → Frame → Receiving → Checked → Receiving
redundant t frame r check.Refused = r
redundant t frame r check.Passed = record r { redundancy = redundancy.after r.redundancy (record { number = frame.number; at = t }) }

abbrev pub received : ℕ → Frame → Receiving → Receiving
received t frame r =
    let check = check_of frame.net r in
    redundant t frame (with_check frame.net (integrity.after check frame.number) r) (integrity.out check frame.number)

-- what becomes of the frame
abbrev pub delivered : ℕ → Frame → Delivery → Reply
delivered t frame delivery.Delivered = record { wishes = []; notes = Delivered frame.vl (t - frame.offered) ∷ [] }
delivered t frame delivery.Duplicate = loss Duplicate frame

abbrev pub checked : ℕ → Frame → Receiving → Checked → Reply
checked t frame r check.Refused = loss Integrity frame
checked t frame r check.Passed = delivered t frame (redundancy.out r.redundancy (record { number = frame.number; at = t }))

abbrev pub received_reply : ℕ → Frame → Receiving → Reply
received_reply t frame r = checked t frame r (integrity.out (check_of frame.net r) frame.number)

-- what the checks keep of it
abbrev pub delivery_kept : Receiving → Checked → Option (Option (ℕ × ℕ))
delivery_kept r check.Refused = None
delivery_kept r check.Passed = Some r.redundancy.last

abbrev pub received_kept : Frame → Receiving → ReceivingRecord
received_kept frame r =
    let check = check_of frame.net r in
    record { net = frame.net; check = check; delivery = delivery_kept r (integrity.out check frame.number) }

-- a frame has come: it is lost where its virtual link does not end here on its network
abbrev pub taken_in : ℕ → Frame → EndSystemState → Option (Found Reception) → EndSystemOutcome
taken_in t frame s None = record { state = s; reply = loss Unknown frame; change = change.Nothing }
taken_in t frame s (Some found) =
    let reception = found.entry in
    record {
      state = record s { receptions = slice_set s.receptions found.place (record reception { receiving = received t frame reception.receiving }) };
      reply = received_reply t frame reception.receiving;
      change = change.Reception found.place (received_kept frame reception.receiving);
    }

-- a frame has come to a port
abbrev pub arrived : ℕ → ℕ → Frame → EndSystemState → EndSystemOutcome
arrived t q frame s = if exists s.ports q then taken_in t frame s (reception_at s frame.vl frame.net) else unmoved s

-- the frame of a port has left
abbrev pub freed : ℕ → ℕ → ℕ → EndSystemState → EndSystemOutcome
freed n t q s = record { state = record s { ports = changed q Free s.ports }; reply = reply n t q Free s.ports; change = port_change q (port_kept q Free s.ports) }

-- end system n at moment t; a message that says something else changes nothing
abbrev pub end_system : ℕ → ℕ → Body → EndSystemState → EndSystemOutcome
end_system n t (body.Offer vl size sub) s = offered n t vl size sub s
end_system n t (body.Release vl) s = released n t vl s
end_system n t (body.PortFree q) s = freed n t q s
end_system n t (body.Arrive q frame) s = arrived t q frame s
end_system n t (body.Enqueue q frame) s = unmoved s
end_system n t (body.Carry frame) s = unmoved s
