-- Undoing: a node before its last change, and when a change is the last one. Both are said of changes, whatever message made them.
use Rattle.std.specs.Prelude.{◌≤◌, ℕ, ⊤, List, Option, None, Some, IfSome, slice_get, slice_set}
use Rattle.bag_regulator.specs.Regulator as regulators
use Rattle.bag_regulator.specs.Regulator.{regulator, IsRegulator}
use Rattle.bag_regulator.specs.declared.event.RegEvent.{RegEvent}
use Rattle.bag_regulator.specs.declared.event.RegRecord.{RegRecord}
use Rattle.policer.specs.Account as accounts
use Rattle.policer.specs.Account.{account, cap}
use Rattle.policer.specs.declared.account.Arrival.{Arrival}
use Rattle.policer.specs.declared.account.AccountRecord.{AccountRecord}
use Rattle.reverse.specs.Plain.{CameFrom}
use Rattle.nodes.specs.declared.change.Change.{Change}
use Rattle.nodes.specs.declared.change.Change.TheVariants as change
use Rattle.nodes.specs.declared.equipment.Equipment.{Equipment}
use Rattle.nodes.specs.declared.equipment.Equipment.TheVariants.{EndSystem, Switch, Line}
use Rattle.nodes.specs.declared.receiving.Receiving.{Receiving}
use Rattle.nodes.specs.declared.receiving.ReceivingRecord.{ReceivingRecord}
use Rattle.nodes.specs.declared.reception.Reception.{Reception}
use Rattle.nodes.specs.declared.source.Source.{Source}
use Rattle.nodes.specs.declared.transit.Transit.{Transit}
use Rattle.nodes.specs.rules.EndSystem.{EndSystemState, with_check}
use Rattle.nodes.specs.rules.Switch.{SwitchState}
use Rattle.nodes.specs.undoing.Ports.{restored, uncopied, IsLastAtPort}

-- a list once the entry at a place is changed, if there is one
abbrev pub modified_at : {X : Type 0} → ℕ → (X → X) → List X → Option X → List X
modified_at i f xs None = xs
modified_at i f xs (Some x) = slice_set xs i (f x)

abbrev pub modified : {X : Type 0} → ℕ → (X → X) → List X → List X
modified i f xs = modified_at i f xs (slice_get xs i)

-- checks before the frame of which this is kept
abbrev pub undelivered : Option (Option (ℕ × ℕ)) → Receiving → Receiving
undelivered None r = r
undelivered (Some last) r = record r { redundancy = record r.redundancy { last = last } }

abbrev pub unreceived : ReceivingRecord → Receiving → Receiving
unreceived kept r = with_check kept.net kept.check (undelivered kept.delivery r)

-- a virtual link before the event of which its regulator, its checks or its account keeps this
abbrev pub source_undone : RegRecord → Source → Source
source_undone kept source = record source { regulator = regulators.undone source.regulator kept }

abbrev pub reception_undone : ReceivingRecord → Reception → Reception
reception_undone kept reception = record reception { receiving = unreceived kept reception.receiving }

abbrev pub transit_undone : AccountRecord → Transit → Transit
transit_undone kept transit = record transit { account = accounts.undone transit.account kept }

-- a node before its last change; a change of what it has not changes nothing
abbrev pub end_system_undone : Change → EndSystemState → EndSystemState
end_system_undone (change.Source place copies kept) s = record s { sources = modified place (source_undone kept) s.sources; ports = uncopied copies s.ports }
end_system_undone (change.Reception place kept) s = record s { receptions = modified place (reception_undone kept) s.receptions }
end_system_undone (change.Outlet q kept) s = record s { ports = restored q kept s.ports }
end_system_undone (change.Transit place kept) s = s
end_system_undone change.Nothing s = s

abbrev pub switch_undone : Change → SwitchState → SwitchState
switch_undone (change.Transit place kept) s = record s { transits = modified place (transit_undone kept) s.transits }
switch_undone (change.Outlet q kept) s = record s { ports = restored q kept s.ports }
switch_undone (change.Source place copies kept) s = s
switch_undone (change.Reception place kept) s = s
switch_undone change.Nothing s = s

abbrev pub undone : Change → Equipment → Equipment
undone change (EndSystem s) = EndSystem (end_system_undone change s)
undone change (Switch s) = Switch (switch_undone change s)
undone change (Line s) = Line s

-- this is kept of the last event of a regulator, and of an account; the checks ask for nothing
abbrev pub IsLastOfSource : RegRecord → Source → Type 0
IsLastOfSource kept source = (e : RegEvent) × CameFrom regulator (λ g _. IsRegulator g) source.regulator e kept

abbrev pub IsLastOfTransit : AccountRecord → Transit → Type 0
IsLastOfTransit kept transit = (frame : Arrival) × CameFrom account (λ a _. a.level ≤ cap a) transit.account frame kept

-- a change is the last one of a node: its element now, and what it kept, came from one event
abbrev pub IsLastOfEndSystem : Change → EndSystemState → Type 0
IsLastOfEndSystem (change.Source place copies kept) s = IfSome (slice_get s.sources place) (IsLastOfSource kept)
IsLastOfEndSystem (change.Outlet q kept) s = IsLastAtPort q kept s.ports
IsLastOfEndSystem (change.Reception place kept) s = ⊤
IsLastOfEndSystem (change.Transit place kept) s = ⊤
IsLastOfEndSystem change.Nothing s = ⊤

abbrev pub IsLastOfSwitch : Change → SwitchState → Type 0
IsLastOfSwitch (change.Transit place kept) s = IfSome (slice_get s.transits place) (IsLastOfTransit kept)
IsLastOfSwitch (change.Outlet q kept) s = IsLastAtPort q kept s.ports
IsLastOfSwitch (change.Source place copies kept) s = ⊤
IsLastOfSwitch (change.Reception place kept) s = ⊤
IsLastOfSwitch change.Nothing s = ⊤

abbrev pub IsLastChange : Change → Equipment → Type 0
IsLastChange change (EndSystem s) = IsLastOfEndSystem change s
IsLastChange change (Switch s) = IsLastOfSwitch change s
IsLastChange change (Line s) = ⊤
