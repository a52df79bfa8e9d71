-- What a note shows. Of a delivery: a frame came to a port of the node that there is, so long after its offer. Of a frame dropped at a full
-- port: a port was asked to take it, and dropped it.
use Rattle.std.proofs.Common.{◌≡◌, ℕ, ◌+◌, ◌-◌, ◌==◌, Bool, true, false, cond, nat_lt, is_some, [], ◌∷◌, All, Option, Some, None, option_map, refl, sym, ap, ◌∙◌, eq-eqb}
use Rattle.std.specs.Prelude.{⊤}
use Rattle.std.specs.List.{list_any}
use Rattle.std.proofs.lemmas.List.Elements.{All-append, All-cons, All-nil}
use Rattle.vlink.specs.declared.frame.Frame.{Frame}
use Rattle.vlink.specs.declared.frame.Net.{Net}
use Rattle.vlink.specs.declared.frame.Net.TheVariants.{A, B}
use Rattle.vlink.specs.declared.frame.VlId.{VlId}
use Rattle.vlink.specs.declared.message.Message.{Message}
use Rattle.vlink.specs.declared.message.Body.{Body}
use Rattle.vlink.specs.declared.message.Body.TheVariants as body
use Rattle.vlink.specs.declared.note.Note.{Note}
use Rattle.vlink.specs.declared.note.Note.TheVariants.{Delivered, Dropped}
use Rattle.vlink.specs.declared.note.Cause.{Cause}
use Rattle.vlink.specs.declared.note.Cause.TheVariants as cause
use Rattle.bag_regulator.specs.Regulator.{regulator}
use Rattle.bag_regulator.specs.declared.event.RegEvent.{RegEvent}
use Rattle.bag_regulator.specs.declared.event.RegEvent.TheVariants.{Offer, Release}
use Rattle.bag_regulator.specs.declared.event.RegAnswer.{RegAnswer}
use Rattle.bag_regulator.specs.declared.event.RegAnswer.TheVariants as reg
use Rattle.policer.specs.Account.{account}
use Rattle.policer.specs.declared.account.Verdict.{Verdict}
use Rattle.policer.specs.declared.account.Verdict.TheVariants as verdict
use Rattle.output_port.specs.Port.{port}
use Rattle.output_port.specs.declared.event.Priority.{Priority}
use Rattle.output_port.specs.declared.event.Priority.TheVariants.{Low}
use Rattle.output_port.specs.declared.event.PortEvent.{PortEvent}
use Rattle.output_port.specs.declared.event.PortEvent.TheVariants.{Put, Free}
use Rattle.output_port.specs.declared.event.PortAnswer.{PortAnswer}
use Rattle.output_port.specs.declared.event.PortAnswer.TheVariants as answer
use Rattle.integrity.specs.Integrity.{integrity}
use Rattle.integrity.specs.declared.checking.Checked.{Checked}
use Rattle.integrity.specs.declared.checking.Checked.TheVariants as check
use Rattle.redundancy.specs.Redundancy.{redundancy}
use Rattle.redundancy.specs.declared.delivery.Delivery.{Delivery}
use Rattle.redundancy.specs.declared.delivery.Delivery.TheVariants as delivery
use Rattle.reverse.specs.Sending.{Reply, joined, loss, silent}
use Rattle.nodes.specs.declared.equipment.Equipment.{Equipment}
use Rattle.nodes.specs.declared.equipment.Equipment.TheVariants.{EndSystem, Switch, Line}
use Rattle.nodes.specs.declared.ports.Outlet.{Outlet}
use Rattle.nodes.specs.declared.receiving.Receiving.{Receiving}
use Rattle.nodes.specs.declared.reception.Reception.{Reception}
use Rattle.nodes.specs.declared.source.Source.{Source}
use Rattle.nodes.specs.declared.transit.Transit.{Transit}
use Rattle.nodes.specs.declared.vl_end.VlEnd.{VlEnd}
use Rattle.nodes.specs.rules.EndSystem.{EndSystemState, asked, check_of, checked, copied, copied_reply, copy, delivered, end_system, full, is_on, offered_frame, port_of, received_reply, reception_at, regulated, released_reply, source_at}
use Rattle.nodes.specs.rules.EndSystem as es
use Rattle.nodes.specs.rules.Finding.{Found}
use Rattle.nodes.specs.rules.Line.{LineState, is_within, line}
use Rattle.nodes.specs.rules.Ports.{PortsState, answered, exists, outlet_at, reply, reply_at}
use Rattle.nodes.specs.rules.Switch.{SwitchState, judged, outputs_of, switch, transit_at}
use Rattle.nodes.specs.rules.Switch as sw
use Rattle.nodes.specs.rules.Node.{handled}
use Rattle.port_turns.specs.PortEvents.{asks, copy_asks, end_system_asks, or_else, outlet_in, regulated_asks, switch_asks}
use Rattle.port_turns.proofs.Asking.{copied-asks, same}

-- a frame came to a port of the node that there is, so long after its offer
pub record IsDelivery (m : Message) (e : Equipment) (vl : VlId) (latency : ℕ) : Type 0 where
  pub at_port : ℕ
  pub outlet : Outlet
  pub frame : Frame
  pub there : outlet_in e at_port ≡ Some outlet
  pub body_is : m.body ≡ body.Arrive at_port frame
  pub link : frame.vl ≡ vl
  pub since : m.time - frame.offered ≡ latency

-- a port of the node is asked to take a frame, and drops it
pub record DropsAt (m : Message) (e : Equipment) : Type 0 where
  pub at_port : ℕ
  pub outlet : Outlet
  pub frame : Frame
  pub priority : Priority
  pub there : outlet_in e at_port ≡ Some outlet
  pub asked : asks at_port m e ≡ Some (Put frame priority)
  pub dropped : port.out outlet.port (Put frame priority) ≡ answer.Dropped

abbrev pub ShowsDrop : Message → Equipment → Cause → Type 0
ShowsDrop m e cause.PortFull = DropsAt m e
ShowsDrop m e _ = ⊤

abbrev pub Shows : Message → Equipment → Note → Type 0
Shows m e (Delivered vl latency) = IsDelivery m e vl latency
Shows m e (Dropped vl c bytes) = ShowsDrop m e c

module _ (n : ℕ) (m : Message) (e : Equipment) where
  abbrev AllShow : Reply → Type 0
  AllShow r = All (Shows m e) r.notes

  none : All (Shows m e) []
  none = All-nil (Shows m e)

  loss-shows : (c : Cause) (frame : Frame) → ShowsDrop m e c → AllShow (loss c frame)
  loss-shows c frame h = All-cons (Shows m e) (Dropped frame.vl c frame.size) [] h none

  joined-show : (a b : Reply) → AllShow a → AllShow b → AllShow (joined a b)
  joined-show a b h k = All-append (Shows m e) a.notes b.notes h k

  abbrev Drops : ℕ → PortEvent → PortsState → Type 0
  Drops q event ports = (outlet : Outlet) (frame : Frame) (r : Priority) → outlet_at ports q ≡ Some outlet → event ≡ Put frame r → port.out outlet.port event ≡ answer.Dropped → DropsAt m e

  none-free : (q : ℕ) (ports : PortsState) → Drops q Free ports
  none-free q ports outlet frame r is e = let z : ⊥ = cc in absurd z

  ports-show : (q : ℕ) (event : PortEvent) (ports : PortsState) → Drops q event ports → AllShow (reply n m.time q event ports)
  ports-show q event ports h = go (outlet_at ports q) refl
    where
      by-answer : (outlet : Outlet) → outlet_at ports q ≡ Some outlet → (put : PortEvent) → event ≡ put → (a : PortAnswer) → port.out outlet.port event ≡ a → AllShow (answered n m.time q outlet.ahead put a)
      by-answer outlet is (Put frame r) at answer.Dropped k = loss-shows cause.PortFull frame (h outlet frame r is at k)
      by-answer outlet is Free at answer.Dropped k = none
      by-answer outlet is _ at _ k = none

      go : (o : Option Outlet) → outlet_at ports q ≡ o → AllShow (reply_at n m.time q event o)
      go None is = none
      go (Some outlet) is = by-answer outlet is event refl (port.out outlet.port event) refl

  copied-shows : (end : VlEnd) (net : Net) (frame : Frame) (ports : PortsState) → (is_on end net ≡ true → Drops (port_of net) (copy net frame) ports) → AllShow (copied_reply n m.time end net frame ports)
  copied-shows end net frame ports h = go (is_on end net) refl
    where
      go : (b : Bool) → is_on end net ≡ b → AllShow (cond b (reply n m.time (port_of net) (copy net frame) ports) silent)
      go true on = ports-show (port_of net) (copy net frame) ports (h on)
      go false on = none

  full-shows : (event : RegEvent) (a : RegAnswer) → AllShow (full event a)
  full-shows (Offer at sub frame) reg.Dropped = loss-shows cause.QueueFull frame tt
  full-shows _ _ = none

  asked-shows : (vl : VlId) (ask : Option ℕ) → AllShow (asked n vl ask)
  asked-shows vl None = none
  asked-shows vl (Some at) = none

-- the port of network B is as it was before the copy for A was put
b-stays : (end : VlEnd) (frame : Frame) (ports : PortsState) (outlet : Outlet) → outlet_at (copied end A frame ports) (port_of B) ≡ Some outlet → outlet_at ports (port_of B) ≡ Some outlet
b-stays end frame ports outlet is = same (outlet_at ports (port_of B)) ∙ (sym (copied-asks (port_of B) end A frame ports) ∙ is)

module _ (n : ℕ) (m : Message) (s : EndSystemState) where
  abbrev e : Equipment
  e = EndSystem s

  -- what a regulator that is asked makes follow
  released-shows : (vl : VlId) (event : RegEvent) (found : Found Source) → source_at s vl ≡ Some found → ((q : ℕ) → end_system_asks q m.time m.body s ≡ regulated_asks q event (source_at s vl)) → (a : RegAnswer) → (regulator.out found.entry.regulator event).answer ≡ a →
      AllShow n m e (released_reply n m.time found.entry.end a s.ports)
  released-shows vl event found is says (reg.Released frame) at =
      joined-show n m e (copied_reply n m.time found.entry.end A frame s.ports) (copied_reply n m.time found.entry.end B frame (copied found.entry.end A frame s.ports))
      (copied-shows n m e found.entry.end A frame s.ports (λ on outlet f r there put dropped. record {
        at_port = port_of A;
        outlet = outlet;
        frame = record frame { net = A };
        priority = Low;
        there = there;
        asked = asks-is (port_of A) ∙ rw on refl;
        dropped = dropped;
      }))
      (copied-shows n m e found.entry.end B frame (copied found.entry.end A frame s.ports) (λ on outlet f r there put dropped. record {
        at_port = port_of B;
        outlet = outlet;
        frame = record frame { net = B };
        priority = Low;
        there = b-stays found.entry.end frame s.ports outlet there;
        asked = asks-is (port_of B) ∙ rw on refl;
        dropped = dropped;
      }))
    where
      asks-is : (q : ℕ) → end_system_asks q m.time m.body s ≡ or_else (copy_asks q found.entry.end A (reg.Released frame)) (copy_asks q found.entry.end B (reg.Released frame))
      asks-is q = says q ∙ (ap (regulated_asks q event) is ∙ ap (λ z. or_else (copy_asks q found.entry.end A z) (copy_asks q found.entry.end B z)) at)
  released-shows vl event found is says _ at = none n m e

  regulated-shows : (vl : VlId) (event : RegEvent) (otherwise : Reply) → ((q : ℕ) → end_system_asks q m.time m.body s ≡ regulated_asks q event (source_at s vl)) → AllShow n m e otherwise → AllShow n m e (regulated n m.time event otherwise s (source_at s vl)).reply
  regulated-shows vl event otherwise says h = go (source_at s vl) refl
    where
      go : (o : Option (Found Source)) → source_at s vl ≡ o → AllShow n m e (regulated n m.time event otherwise s o).reply
      go None is = h
      go (Some found) is =
          let out = regulator.out found.entry.regulator event in
          joined-show n m e (joined (full event out.answer) (asked n found.entry.end.vl out.release_at)) (released_reply n m.time found.entry.end out.answer s.ports)
          (joined-show n m e (full event out.answer) (asked n found.entry.end.vl out.release_at) (full-shows n m e event out.answer) (asked-shows n m e found.entry.end.vl out.release_at))
          (released-shows vl event found is says out.answer refl)

  received-shows : (frame : Frame) (r : Receiving) → IsDelivery m e frame.vl (m.time - frame.offered) → AllShow n m e (received_reply m.time frame r)
  received-shows frame r come = go (integrity.out (check_of frame.net r) frame.number)
    where
      by-delivery : (d : Delivery) → AllShow n m e (delivered m.time frame d)
      by-delivery delivery.Delivered = All-cons (Shows m e) (Delivered frame.vl (m.time - frame.offered)) [] come (none n m e)
      by-delivery delivery.Duplicate = loss-shows n m e cause.Duplicate frame tt

      go : (c : Checked) → AllShow n m e (checked m.time frame r c)
      go check.Passed = by-delivery (redundancy.out r.redundancy (record { number = frame.number; at = m.time }))
      go check.Refused = loss-shows n m e cause.Integrity frame tt

  end-shows : (b : Body) → m.body ≡ b → AllShow n m e (end_system n m.time b s).reply
  end-shows (body.Offer vl bytes sub) k =
      regulated-shows vl (Offer m.time sub (offered_frame m.time vl bytes)) (loss cause.Unknown (offered_frame m.time vl bytes)) (λ q. ap (λ b. end_system_asks q m.time b s) k) (loss-shows n m e cause.Unknown (offered_frame m.time vl bytes) tt)
  end-shows (body.Release vl) k = regulated-shows vl (Release m.time) silent (λ q. ap (λ b. end_system_asks q m.time b s) k) (none n m e)
  end-shows (body.PortFree q) k = ports-show n m e q Free s.ports (none-free n m e q s.ports)
  end-shows (body.Arrive q frame) k = go (outlet_at s.ports q) refl (reception_at s frame.vl frame.net)
    where
      go : (o : Option Outlet) → outlet_at s.ports q ≡ o → (r : Option (Found Reception)) → AllShow n m e (cond (is_some o) (es.taken_in m.time frame s r) (es.unmoved s)).reply
      go None is r = none n m e
      go (Some outlet) is None = loss-shows n m e cause.Unknown frame tt
      go (Some outlet) is (Some found) = received-shows frame found.entry.receiving (record { at_port = q; outlet = outlet; frame = frame; there = is; body_is = k; link = refl; since = refl })
  end-shows _ k = none n m e

module _ (n : ℕ) (m : Message) (s : SwitchState) where
  abbrev here : Equipment
  here = Switch s

  switch-shows : (b : Body) → m.body ≡ b → AllShow n m here (switch n m.time b s).reply
  switch-shows (body.PortFree q) k = ports-show n m here q Free s.ports (none-free n m here q s.ports)
  switch-shows (body.Arrive q frame) k = go (exists s.ports q) (transit_at s frame.vl)
    where
      entered : (x : Transit) (b c : Bool) (v : Verdict) → AllShow n m here (cond b (cond c (loss cause.TooLong frame) (judged n (m.time + s.latency) frame (outputs_of x) v)) (loss cause.Unknown frame))
      entered x true true v = loss-shows n m here cause.TooLong frame tt
      entered x true false verdict.Passed = none n m here
      entered x true false verdict.Refused = loss-shows n m here cause.Policed frame tt
      entered x false c v = loss-shows n m here cause.Unknown frame tt

      go : (b : Bool) (o : Option (Found Transit)) → AllShow n m here (cond b (sw.taken_in n m.time q frame s o) (sw.unmoved s)).reply
      go true None = loss-shows n m here cause.Unknown frame tt
      go true (Some found) = entered found.entry (found.entry.input == q) (nat_lt found.entry.smax frame.size) (account.out found.entry.account (record { at = m.time; size = frame.size }))
      go false o = none n m here
  switch-shows (body.Enqueue q frame) k = go (exists s.ports q) (transit_at s frame.vl) refl
    where
      go : (b : Bool) (o : Option (Found Transit)) → transit_at s frame.vl ≡ o → AllShow n m here (cond b (sw.put n m.time q frame s o) (sw.unmoved s)).reply
      go true None is = loss-shows n m here cause.Unknown frame tt
      go true (Some found) is = ports-show n m here q (Put frame found.entry.priority) s.ports (λ outlet f r there put dropped. record {
        at_port = q;
        outlet = outlet;
        frame = frame;
        priority = found.entry.priority;
        there = there;
        asked = ap (λ b. switch_asks q b s) k ∙ (ap (λ z. cond z (option_map (λ (found : Found Transit). Put frame found.entry.priority) (transit_at s frame.vl)) None) (eq-eqb q q refl) ∙ ap (option_map (λ (found : Found Transit). Put frame found.entry.priority)) is);
        dropped = dropped;
      })
      go false o is = none n m here
  switch-shows _ k = none n m here

line-shows : (n : ℕ) (m : Message) (e : Equipment) (b : Body) (l : LineState) → AllShow n m e (line m.time b l)
line-shows n m e (body.Carry frame) l = go (list_any (is_within m.time) l.outages)
  where
    go : (b : Bool) → AllShow n m e (cond b (loss cause.Outage frame) (record { wishes = record { time = m.time + l.propagation; receiver = l.to; body = body.Arrive l.to_port frame } ∷ []; notes = [] }))
    go true = loss-shows n m e cause.Outage frame tt
    go false = none n m e
line-shows n m e _ l = none n m e

pub notes-show : (n : ℕ) (m : Message) (e : Equipment) → All (Shows m e) (handled n m e).reply.notes
notes-show n m (EndSystem s) = end-shows n m s m.body refl
notes-show n m (Switch s) = switch-shows n m s m.body refl
notes-show n m (Line l) = line-shows n m (Line l) m.body l
