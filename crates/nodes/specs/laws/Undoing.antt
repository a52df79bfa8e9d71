-- For proofs alone: undoing a change gives back the node before it, and the change of an event is the last one.
use Rattle.std.proofs.Common.{◌≡◌, ◌==◌, ℕ, Bool, true, false, cond, nat_lt, Option, None, Some, IfSome, slice_get, slice_set, unwrap_or, refl, sym, subst, ap, ◌∙◌}
use Rattle.vlink.specs.declared.frame.Frame.{Frame}
use Rattle.vlink.specs.declared.frame.Net.{Net}
use Rattle.vlink.specs.declared.frame.Net.TheVariants.{A, B}
use Rattle.vlink.specs.declared.message.Message.{Message}
use Rattle.bag_regulator.specs.Regulator.{regulator, IsRegulator}
use Rattle.bag_regulator.specs.Undoing.{regulator-undoes}
use Rattle.bag_regulator.specs.declared.event.RegEvent.{RegEvent}
use Rattle.bag_regulator.specs.declared.event.RegAnswer.{RegAnswer}
use Rattle.bag_regulator.specs.declared.event.RegAnswer.TheVariants as answer
use Rattle.policer.specs.Account.{account}
use Rattle.policer.specs.declared.account.Arrival.{Arrival}
use Rattle.policer.specs.declared.account.AccountRecord.{AccountRecord}
use Rattle.output_port.specs.declared.event.PortEvent.{PortEvent}
use Rattle.output_port.specs.declared.event.PortEvent.TheVariants.{Free}
use Rattle.output_port.specs.declared.event.PortRecord.TheVariants as saved
use Rattle.output_port.specs.declared.event.PutRecord.TheVariants as of_put
use Rattle.output_port.specs.declared.event.Priority.TheVariants.{Low}
use Rattle.integrity.specs.Integrity.{integrity}
use Rattle.integrity.specs.declared.checking.Checked.{Checked}
use Rattle.integrity.specs.declared.checking.Checked.TheVariants as check
use Rattle.nodes.specs.declared.equipment.Equipment.{Equipment}
use Rattle.nodes.specs.declared.equipment.Equipment.TheVariants.{EndSystem, Switch, Line}
use Rattle.nodes.specs.declared.receiving.Receiving.{Receiving}
use Rattle.nodes.specs.declared.source.Source.{Source}
use Rattle.nodes.specs.declared.transit.Transit.{Transit}
use Rattle.nodes.specs.declared.vl_end.VlEnd.{VlEnd}
use Rattle.nodes.specs.rules.EndSystem.{EndSystemState, check_of, copied, copied_kept, copy, delivery_kept, is_on, port_of, received, received_kept, reception_number, redundant, released_kept, released_out, source_number, with_check}
use Rattle.nodes.specs.rules.Node.{handled}
use Rattle.nodes.specs.rules.Ports.{PortsState, changed, port_change, port_kept, port_put_kept}
use Rattle.nodes.specs.rules.Switch.{SwitchState, entered, entered_kept, transit_change, transit_number}
use Rattle.nodes.specs.undoing.Changes.{end_system_undone, reception_undone, source_undone, switch_undone, transit_undone, undelivered, undone, unreceived, IsLastOfSource, IsLastOfSwitch, IsLastOfTransit}
use Rattle.nodes.specs.undoing.Ports.{restored, uncopied, IsPortValue}
use Rattle.nodes.specs.laws.EndSystemSending.{end_system-cases}
use Rattle.nodes.specs.laws.Places.{found-there, get-set, modified-back, set-same}
use Rattle.nodes.specs.laws.Ports.{nothing-undone, port-cases, put-undone}
use Rattle.nodes.specs.laws.SwitchSending.{switch-cases}

-- a copy that was put is taken back, and both copies of a frame
copied-undone : (end : VlEnd) (net : Net) (frame : Frame) (ports : PortsState) →
    restored (port_of net) (saved.Put (copied_kept end net frame ports)) (copied end net frame ports) ≡ ports
copied-undone end net frame ports = go (is_on end net)
  where
    go : (b : Bool) → restored (port_of net) (saved.Put (cond b (unwrap_or (port_put_kept (port_of net) (record frame { net = net }) Low ports) of_put.Nothing) of_put.Nothing))
        (cond b (changed (port_of net) (copy net frame) ports) ports) ≡ ports
    go true = put-undone (port_of net) (record frame { net = net }) Low ports
    go false = nothing-undone (port_of net) ports

none-undone : (ports : PortsState) → uncopied (record { a = of_put.Nothing; b = of_put.Nothing }) ports ≡ ports
none-undone ports = ap (restored 0 (saved.Put of_put.Nothing)) (nothing-undone 1 ports) ∙ nothing-undone 0 ports

released-undone : (end : VlEnd) (a : RegAnswer) (ports : PortsState) → uncopied (released_kept end a ports) (released_out end a ports) ≡ ports
released-undone end (answer.Released frame) ports =
    ap (restored 0 (saved.Put (copied_kept end A frame ports))) (copied-undone end B frame (copied end A frame ports)) ∙ copied-undone end A frame ports
released-undone end answer.Kept ports = none-undone ports
released-undone end answer.Dropped ports = none-undone ports
released-undone end answer.Nothing ports = none-undone ports

-- the checks that a frame went through
received-undone : (t : ℕ) (frame : Frame) (r : Receiving) → unreceived (received_kept frame r) (received t frame r) ≡ r
received-undone t frame r = go frame.net (integrity.out (check_of frame.net r) frame.number)
  where
    go : (net : Net) (c : Checked) →
        with_check net (check_of net r) (undelivered (delivery_kept r c) (redundant t frame (with_check net (integrity.after (check_of net r) frame.number) r) c)) ≡ r
    go A check.Passed = refl
    go A check.Refused = refl
    go B check.Passed = refl
    go B check.Refused = refl

end_system-undone : (n : ℕ) (m : Message) (s : EndSystemState) → undone (handled n m (EndSystem s)).change (handled n m (EndSystem s)).equipment ≡ EndSystem s
end_system-undone n m s = end_system-cases (λ o. EndSystem (end_system_undone o.change o.state) ≡ EndSystem s) n m.time s (record {
  quiet = λ r q. refl;
  receives = λ frame found h.
      let x = found.entry in
      ap (λ receptions. EndSystem (record s { receptions = receptions })) (modified-back (reception_undone (received_kept frame x.receiving)) s.receptions found.place x
      (record x { receiving = received m.time frame x.receiving }) (found-there reception_number s.receptions frame.vl.0 found h)
      (ap (λ r. record x { receiving = r }) (received-undone m.time frame x.receiving)));
  frees = λ q. port-cases (λ kept now. EndSystem (end_system_undone (port_change q kept) (record s { ports = now })) ≡ EndSystem s) q Free s.ports refl
      (λ kept now back last. ap (λ ports. EndSystem (record s { ports = ports })) back);
  asks = λ vl e otherwise found at h.
      let x = found.entry in
      let sources = modified-back (source_undone (regulator.saves x.regulator e)) s.sources found.place x (record x { regulator = regulator.after x.regulator e })
      (found-there source_number s.sources vl.0 found h) (ap (λ g. record x { regulator = g }) (regulator-undoes x.regulator e)) in
      let ports = released-undone x.end (regulator.out x.regulator e).answer s.ports in
      λ i. EndSystem (record s { sources = sources i; ports = ports i });
}) m.body

-- the account of a virtual link to which a frame came
entered-undone : (s : SwitchState) (place : ℕ) (x : Transit) (t q : ℕ) (frame : Frame) → slice_get s.transits place ≡ Some x →
    switch_undone (transit_change place (entered_kept t q frame x)) (record s { transits = slice_set s.transits place (entered t q frame x) }) ≡ s
entered-undone s place x t q frame there = go (x.input == q) (nat_lt x.smax frame.size)
  where
    arrival : Arrival
    arrival = record { at = t; size = frame.size }

    new : Transit
    new = record x { account = account.after x.account arrival }

    go : (b c : Bool) → switch_undone (transit_change place (cond b (cond c None (Some (account.saves x.account arrival))) None))
        (record s { transits = slice_set s.transits place (cond b (cond c x new) x) }) ≡ s
    go true true = ap (λ transits. record s { transits = transits }) (set-same s.transits place x there)
    go true false = ap (λ transits. record s { transits = transits }) (modified-back (transit_undone (account.saves x.account arrival)) s.transits place x new there refl)
    go false c = ap (λ transits. record s { transits = transits }) (set-same s.transits place x there)

switch-undone : (n : ℕ) (m : Message) (s : SwitchState) → undone (handled n m (Switch s)).change (handled n m (Switch s)).equipment ≡ Switch s
switch-undone n m s = switch-cases (λ o. Switch (switch_undone o.change o.state) ≡ Switch s) n m.time s (record {
  quiet = λ r q. refl;
  at_ports = λ q e. port-cases (λ kept now. Switch (switch_undone (port_change q kept) (record s { ports = now })) ≡ Switch s) q e s.ports refl
      (λ kept now back last. ap (λ ports. Switch (record s { ports = ports })) back);
  takes = λ q frame found h.
      ap (λ s. Switch s) (entered-undone s found.place found.entry m.time q frame (found-there transit_number s.transits frame.vl.0 found h));
}) m.body

-- the law of undoing, of all nodes
pub handled-undone : (n : ℕ) (m : Message) (p : Equipment) → undone (handled n m p).change (handled n m p).equipment ≡ p
handled-undone n m (EndSystem s) = end_system-undone n m s
handled-undone n m (Switch s) = switch-undone n m s
handled-undone n m (Line s) = refl

-- ---- the change of an event is the last one, where the element that it changes is a value of its type

pub source-last : (s : EndSystemState) (place : ℕ) (x : Source) (e : RegEvent) → slice_get s.sources place ≡ Some x → IsRegulator x.regulator →
    IfSome (slice_get (slice_set s.sources place (record x { regulator = regulator.after x.regulator e })) place) (IsLastOfSource (regulator.saves x.regulator e))
source-last s place x e h value =
    let new : Source = record x { regulator = regulator.after x.regulator e } in
    subst (λ o. IfSome o (IsLastOfSource (regulator.saves x.regulator e))) (sym (get-set s.sources place x new h)) (e, (x.regulator, value, refl, refl))

pub transit-last : (s : SwitchState) (place : ℕ) (x new : Transit) (o : Option AccountRecord) → slice_get s.transits place ≡ Some x →
    IfSome o (λ kept. IsLastOfTransit kept new) → IsLastOfSwitch (transit_change place o) (record s { transits = slice_set s.transits place new })
transit-last s place x new None h last = tt
transit-last s place x new (Some kept) h last = subst (λ o. IfSome o (IsLastOfTransit kept)) (sym (get-set s.transits place x new h)) last

pub switch-port-last : (s : SwitchState) (q : ℕ) (e : PortEvent) → IsPortValue q s.ports →
    IsLastOfSwitch (port_change q (port_kept q e s.ports)) (record s { ports = changed q e s.ports })
switch-port-last s q e value =
    port-cases (λ kept now. IsLastOfSwitch (port_change q kept) (record s { ports = now })) q e s.ports tt (λ kept now back last. last value)
