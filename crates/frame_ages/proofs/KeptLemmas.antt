-- Why no frame of a node is dropped at a full port, where each port of the node has room for what waits.
use Rattle.std.proofs.Common.{◌≡◌, ℕ, ◌*◌, ◌<◌, List, ◌∷◌, ◌++◌, Option, Some, None, option_map, sym, ap, ◌∙◌, subst}
use Rattle.std.specs.Prelude.{Contains}
use Rattle.std.proofs.lemmas.Option.{same_Some}
use Rattle.vlink.specs.declared.frame.VlId.{VlId}
use Rattle.vlink.specs.declared.message.Message.{Message}
use Rattle.vlink.specs.declared.note.Note.{Note}
use Rattle.vlink.specs.declared.note.Note.TheVariants.{Dropped}
use Rattle.vlink.specs.declared.note.Cause.TheVariants.{PortFull}
use Rattle.vlink.specs.Letters.{Row}
use Rattle.output_port.specs.Port.{PortState}
use Rattle.output_port.specs.declared.event.Priority.{Priority}
use Rattle.output_port.specs.declared.event.Priority.TheVariants.{High, Low}
use Rattle.output_port.specs.declared.event.PortEvent.{PortEvent}
use Rattle.reverse.specs.Rules.{rules_of}
use Rattle.reverse.specs.Setting.{Setting, simulation_of}
use Rattle.virtual_time.specs.Law.{Laws, Simulation, events, one}
use Rattle.port_bounds.specs.Mixtures.{Group, groups_burst, groups_rate}
use Rattle.nodes.specs.declared.equipment.Equipment.{Equipment}
use Rattle.nodes.specs.declared.node.NodeRecord.{NodeRecord}
use Rattle.nodes.specs.declared.ports.Outlet.{Outlet}
use Rattle.nodes.specs.rules.Node.{NodeState, after}
use Rattle.nodes.specs.undoing.Node.{node}
use Rattle.port_turns.specs.Nodes.{IsOfNodes}
use Rattle.port_turns.specs.PortEvents.{asks, done_at, outlet_in}
use Rattle.port_turns.specs.PortRuns.{asked_at, input_of, port_events}
use Rattle.port_turns.proofs.Asking.{node-asks}
use Rattle.port_turns.proofs.PortRuns.{ports-run-well}
use Rattle.frame_ages.specs.Ports.{AreGroups}
use Rattle.frame_ages.specs.Rooms.{HasRoomAt}
use Rattle.frame_ages.specs.Sizes.{OpensEmpty, Sizes}
use Rattle.frame_ages.proofs.GivenLemmas.{all-within}
use Rattle.frame_ages.proofs.LatencyLemmas.{some-before}
use Rattle.frame_ages.proofs.NoteLemmas.{DropsAt, Shows}
use Rattle.frame_ages.proofs.RowLemmas.{row-fits}
use Rattle.frame_ages.proofs.RoomLemmas.{NoneDropped, none-dropped}
use Rattle.frame_ages.proofs.SizeLemmas.{idle-at}

-- none of these messages makes a port of the node drop a frame
abbrev AllTaken : Equipment → (ℕ → Outlet → Type 0) → Type 0
AllTaken e P = (q : ℕ) (outlet : Outlet) → outlet_in e q ≡ Some outlet → P q outlet

abbrev Takes : NodeState → List Message → Type 0
Takes s ms = AllTaken s.equipment (λ q outlet. NoneDropped outlet.port (port_events q s ms))

abbrev IsOther : Note → Type 0
IsOther note = (vl : VlId) (bytes : ℕ) → note ≡ Dropped vl PortFull bytes → ⊥

takes-later : (s : NodeState) (m : Message) (ms : List Message) → Takes s (m ∷ ms) → Takes (after s m) ms
takes-later s m ms h q outlet is =
    let b = some-before (asks q m s.equipment) (outlet_in s.equipment q) outlet (sym (node-asks s.sender.number q m s.equipment) ∙ is) in
    let now : done_at (asks q m s.equipment) b.0 ≡ outlet =
    same_Some (done_at (asks q m s.equipment) b.0) outlet (ap (option_map (done_at (asks q m s.equipment))) (sym b.1) ∙ (sym (node-asks s.sender.number q m s.equipment) ∙ is)) in
    subst (λ (z : Outlet). NoneDropped z.port (port_events q (after s m) ms)) now (go b.0 (asks q m s.equipment) (h q b.0 b.1))
  where
    go : (before : Outlet) (o : Option PortEvent) → NoneDropped before.port (asked_at m.time (input_of m.body s.equipment) o ++ port_events q (after s m) ms) → NoneDropped (done_at o before).port (port_events q (after s m) ms)
    go before None k = k
    go before (Some e) k = k.1

none-drops : (s : NodeState) (m : Message) (ms : List Message) → Takes s (m ∷ ms) → DropsAt m s.equipment → ⊥
none-drops s m ms h d =
    (subst (λ o. NoneDropped d.outlet.port (asked_at m.time (input_of m.body s.equipment) o ++ port_events d.at_port (after s m) ms)) d.asked (h d.at_port d.outlet d.there)).0 d.dropped

note-other : (s : NodeState) (m : Message) (ms : List Message) → Takes s (m ∷ ms) → (note : Note) → Shows m s.equipment note → IsOther note
note-other s m ms h note d vl bytes e = none-drops s m ms h (subst (Shows m s.equipment) e d)

module _ (x : Setting NodeState) (L : Laws (simulation_of (rules_of node) x)) (N : IsOfNodes x) (size : ℕ → Sizes) (O : OpensEmpty x size) (p : ℕ) (inside : p < x.processes) (n : ℕ) where
  abbrev f : Simulation Message NodeState NodeRecord Note
  f = simulation_of (rules_of node) x

  -- the groups do not speak of how many bytes may wait
  other-port : (q scale whole : ℕ) (outlet : Outlet) (other : PortState) (r : Priority) (groups : List Group) → AreGroups x size p q outlet scale whole r groups → AreGroups x size p q (record outlet { port = other }) scale whole r groups
  other-port q scale whole outlet other r groups h = record { each = h.each; listed = h.listed }

  none-at : (q : ℕ) (outlet : Outlet) → outlet_in (x.opening p).equipment q ≡ Some outlet → HasRoomAt x size p q outlet → NoneDropped outlet.port (port_events q (x.opening p) (events f n p))
  none-at q outlet is h =
      let b = h.bound in
      none-dropped outlet.ahead.byte_ns h.bytes (b.whole * b.scale) (groups_burst b.whole b.high) (groups_rate b.whole b.high) (groups_burst b.whole b.low) (groups_rate b.whole b.low) outlet.port (port_events q (x.opening p) (events f n p))
      (idle-at (x.opening p).equipment q outlet (O.ports p inside) is) (ports-run-well x p q L inside N outlet is (idle-at (x.opening p).equipment q outlet (O.ports p inside) is) n) b.rates
      (λ other. all-within x L N size O p q (record outlet { port = other }) inside n High b.scale b.whole b.high (other-port q b.scale b.whole outlet other High b.high b.high_are))
      (λ other. all-within x L N size O p q (record outlet { port = other }) inside n Low b.scale b.whole b.low (other-port q b.scale b.whole outlet other Low b.low b.low_are))
      b.within h.room

  pub frames-kept : ((q : ℕ) (outlet : Outlet) → outlet_in (x.opening p).equipment q ≡ Some outlet → HasRoomAt x size p q outlet) →
      (row : Row) → Contains (one f n).rows row → row.place ≡ p → (vl : VlId) (bytes : ℕ) → row.note ≡ Dropped vl PortFull bytes → ⊥
  frames-kept room row inside place = row-fits IsOther Takes takes-later note-other x L p n (λ q outlet is. none-at q outlet is (room q outlet is)) row inside place
