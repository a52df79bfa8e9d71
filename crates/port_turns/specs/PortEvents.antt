-- What a message asks of an output port of a node: one thing at most.
use Rattle.std.specs.Prelude.{◌≡◌, ℕ, ◌==◌, ◌&&◌, if◌then◌else◌, Option, Some, None, option_map}
use Rattle.vlink.specs.declared.frame.Net.{Net}
use Rattle.vlink.specs.declared.frame.Net.TheVariants.{A, B}
use Rattle.vlink.specs.declared.message.Message.{Message}
use Rattle.vlink.specs.declared.message.Body.{Body}
use Rattle.vlink.specs.declared.message.Body.TheVariants as body
use Rattle.bag_regulator.specs.Regulator.{regulator}
use Rattle.bag_regulator.specs.declared.event.RegEvent.{RegEvent}
use Rattle.bag_regulator.specs.declared.event.RegEvent.TheVariants.{Offer, Release}
use Rattle.bag_regulator.specs.declared.event.RegAnswer.{RegAnswer}
use Rattle.bag_regulator.specs.declared.event.RegAnswer.TheVariants.{Released}
use Rattle.output_port.specs.Port.{port}
use Rattle.output_port.specs.declared.event.PortEvent.{PortEvent}
use Rattle.output_port.specs.declared.event.PortEvent.TheVariants.{Put, Free}
use Rattle.nodes.specs.declared.equipment.Equipment.{Equipment}
use Rattle.nodes.specs.declared.equipment.Equipment.TheVariants.{EndSystem, Switch, Line}
use Rattle.nodes.specs.declared.ports.Outlet.{Outlet}
use Rattle.nodes.specs.declared.source.Source.{Source}
use Rattle.nodes.specs.declared.vl_end.VlEnd.{VlEnd}
use Rattle.nodes.specs.rules.Finding.{Found}
use Rattle.nodes.specs.rules.Ports.{outlet_at}
use Rattle.nodes.specs.rules.EndSystem.{EndSystemState, copy, is_on, offered_frame, port_of, source_at}
use Rattle.nodes.specs.rules.Switch.{SwitchState, transit_at}
use Rattle.nodes.specs.rules.Node.{handled}

-- the copy for this network of the frame that a regulator releases, at the port of the network
abbrev pub copy_asks : ℕ → VlEnd → Net → RegAnswer → Option PortEvent
copy_asks q end net (Released frame) = if (port_of net == q) && is_on end net then Some (copy net frame) else None
copy_asks q end net _ = None

-- the first, or the second where there is no first
abbrev pub or_else : Option PortEvent → Option PortEvent → Option PortEvent
or_else (Some e) other = Some e
or_else None other = other

-- the two networks have two ports
abbrev pub regulated_asks : ℕ → RegEvent → Option (Found Source) → Option PortEvent
regulated_asks q e None = None
regulated_asks q e (Some found) =
    let answer = (regulator.out found.entry.regulator e).answer in
    or_else (copy_asks q found.entry.end A answer) (copy_asks q found.entry.end B answer)

abbrev pub free_asks : ℕ → ℕ → Option PortEvent
free_asks q p = if p == q then Some Free else None

abbrev pub end_system_asks : ℕ → ℕ → Body → EndSystemState → Option PortEvent
end_system_asks q t (body.Offer vl size sub) s = regulated_asks q (Offer t sub (offered_frame t vl size)) (source_at s vl)
end_system_asks q t (body.Release vl) s = regulated_asks q (Release t) (source_at s vl)
end_system_asks q t (body.PortFree p) s = free_asks q p
end_system_asks q t _ s = None

-- a switch puts a frame whose virtual link goes through it
abbrev pub switch_asks : ℕ → Body → SwitchState → Option PortEvent
switch_asks q (body.PortFree p) s = free_asks q p
switch_asks q (body.Enqueue p frame) s = if p == q then option_map (λ found. Put frame found.entry.priority) (transit_at s frame.vl) else None
switch_asks q _ s = None

-- what message m asks of port q
abbrev pub asks : ℕ → Message → Equipment → Option PortEvent
asks q m (EndSystem s) = end_system_asks q m.time m.body s
asks q m (Switch s) = switch_asks q m.body s
asks q m (Line s) = None

-- what stands at port q of this equipment, if there is such a port
abbrev pub outlet_in : Equipment → ℕ → Option Outlet
outlet_in (EndSystem s) q = outlet_at s.ports q
outlet_in (Switch s) q = outlet_at s.ports q
outlet_in (Line s) q = None

-- a port once it did what was asked
abbrev pub done_at : Option PortEvent → Outlet → Outlet
done_at None outlet = outlet
done_at (Some e) outlet = record outlet { port = port.after outlet.port e }

-- a port does just what a message asks of it
abbrev pub ArePortsAsked : Type 0
ArePortsAsked = (n q : ℕ) (m : Message) (e : Equipment) → outlet_in (handled n m e).equipment q ≡ option_map (done_at (asks q m e)) (outlet_in e q)
