-- Definition: what a switch does with a message.
use Rattle.std.specs.Prelude.{ℕ, ◌+◌, ◌==◌, if◌then◌else◌, nat_lt, List, [], map, Option, None, Some, slice_set}
use Rattle.vlink.specs.declared.frame.Frame.{Frame}
use Rattle.vlink.specs.declared.frame.VlId.{VlId}
use Rattle.vlink.specs.declared.message.Body.{Body}
use Rattle.vlink.specs.declared.message.Body.TheVariants.{Offer, Release, PortFree, Arrive, Enqueue, Carry}
use Rattle.vlink.specs.declared.note.Cause.TheVariants.{Unknown, TooLong, Policed}
use Rattle.policer.specs.Account.{account}
use Rattle.policer.specs.declared.account.AccountRecord.{AccountRecord}
use Rattle.policer.specs.declared.account.Verdict.{Verdict}
use Rattle.policer.specs.declared.account.Verdict.TheVariants as verdict
use Rattle.output_port.specs.declared.event.PortEvent.{PortEvent}
use Rattle.output_port.specs.declared.event.PortEvent.TheVariants.{Put, Free}
use Rattle.nodes.specs.declared.change.Change.{Change}
use Rattle.nodes.specs.declared.change.Change.TheVariants as change
use Rattle.nodes.specs.declared.transit.Transit.{Transit}
use Rattle.reverse.specs.Sending.{Reply, silent, loss}
use Rattle.nodes.specs.rules.Ports.{PortsState, changed, exists, port_change, port_kept, reply}
use Rattle.nodes.specs.rules.Finding.{Found, find}
use Rattle.nodes.specs.rules.Outputs.{marked_from}

-- the delay from a frame's arrival to its output ports; the virtual links that go through; and the ports
pub record SwitchState : Type 0 where
  pub latency : ℕ
  pub transits : List Transit
  pub ports : PortsState

-- the state after an event, what is then sent and noted, and what changed, and where
pub record SwitchOutcome : Type 0 where
  pub state : SwitchState
  pub reply : Reply
  pub change : Change

-- nothing happens
abbrev pub unmoved : SwitchState → SwitchOutcome
unmoved s = record { state = s; reply = silent; change = change.Nothing }

-- the number of its virtual link
abbrev pub transit_number : Transit → ℕ
transit_number transit = transit.vl.0

-- the output ports of a virtual link, rising
abbrev pub outputs_of : Transit → List ℕ
outputs_of transit = marked_from 0 transit.outputs

-- a frame that has passed is put to each output port of its virtual link after the switch's delay
abbrev pub forwarded : ℕ → ℕ → Frame → List ℕ → Reply
forwarded n at frame outputs = record { wishes = map (λ (q : ℕ). record { time = at; receiver = n; body = Enqueue q frame }) outputs; notes = [] }

abbrev pub judged : ℕ → ℕ → Frame → List ℕ → Verdict → Reply
judged n at frame outputs verdict.Passed = forwarded n at frame outputs
judged n at frame outputs verdict.Refused = loss Policed frame

-- a virtual link that goes through the switch
abbrev pub transit_at : SwitchState → VlId → Option (Found Transit)
transit_at s vl = find transit_number s.transits vl.0

-- the virtual link once a frame has come to port q: its account has judged the frame, if that comes in there and is not too long
abbrev pub entered : ℕ → ℕ → Frame → Transit → Transit
entered t q frame transit =
    if transit.input == q
    then (if nat_lt transit.smax frame.size then transit else record transit { account = account.after transit.account (record { at = t; size = frame.size }) })
    else transit

-- the frame is lost where its virtual link does not come in there, where it is too long, or where the account refuses it; the delay is the switch's
abbrev pub entered_reply : ℕ → ℕ → ℕ → ℕ → Frame → Transit → Reply
entered_reply n t delay q frame transit =
    if transit.input == q
    then (if nat_lt transit.smax frame.size then loss TooLong frame else judged n (t + delay) frame (outputs_of transit) (account.out transit.account (record { at = t; size = frame.size })))
    else loss Unknown frame

-- what the account keeps of it, where it judges the frame; and that as the change of a node
abbrev pub entered_kept : ℕ → ℕ → Frame → Transit → Option AccountRecord
entered_kept t q frame transit =
    if transit.input == q
    then (if nat_lt transit.smax frame.size then None else Some (account.saves transit.account (record { at = t; size = frame.size })))
    else None

abbrev pub transit_change : ℕ → Option AccountRecord → Change
transit_change place None = change.Nothing
transit_change place (Some kept) = change.Transit place kept

-- and where its virtual link does not go through the switch
abbrev pub taken_in : ℕ → ℕ → ℕ → Frame → SwitchState → Option (Found Transit) → SwitchOutcome
taken_in n t q frame s None = record { state = s; reply = loss Unknown frame; change = change.Nothing }
taken_in n t q frame s (Some found) = record {
  state = record s { transits = slice_set s.transits found.place (entered t q frame found.entry) };
  reply = entered_reply n t s.latency q frame found.entry;
  change = transit_change found.place (entered_kept t q frame found.entry);
}

-- a frame has come to port q
abbrev pub arrived : ℕ → ℕ → ℕ → Frame → SwitchState → SwitchOutcome
arrived n t q frame s = if exists s.ports q then taken_in n t q frame s (transit_at s frame.vl) else unmoved s

-- port q is asked to do something
abbrev pub at_port : ℕ → ℕ → ℕ → PortEvent → SwitchState → SwitchOutcome
at_port n t q e s = record { state = record s { ports = changed q e s.ports }; reply = reply n t q e s.ports; change = port_change q (port_kept q e s.ports) }

-- a frame is put to port q, with the priority of its virtual link: it is lost where that does not go through the switch
abbrev pub put : ℕ → ℕ → ℕ → Frame → SwitchState → Option (Found Transit) → SwitchOutcome
put n t q frame s None = record { state = s; reply = loss Unknown frame; change = change.Nothing }
put n t q frame s (Some found) = at_port n t q (Put frame found.entry.priority) s

abbrev pub enqueued : ℕ → ℕ → ℕ → Frame → SwitchState → SwitchOutcome
enqueued n t q frame s = if exists s.ports q then put n t q frame s (transit_at s frame.vl) else unmoved s

-- switch n at moment t; a message that says something else changes nothing
abbrev pub switch : ℕ → ℕ → Body → SwitchState → SwitchOutcome
switch n t (Offer vl size sub) s = unmoved s
switch n t (Release vl) s = unmoved s
switch n t (PortFree q) s = at_port n t q Free s
switch n t (Arrive q frame) s = arrived n t q frame s
switch n t (Enqueue q frame) s = enqueued n t q frame s
switch n t (Carry frame) s = unmoved s
