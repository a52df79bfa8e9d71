-- Why each frame that is delivered took as long as it may, and no less.
use Rattle.std.proofs.Common.{◌≡◌, ℕ, ◌+◌, ◌≤◌, ◌⊎◌, inl, inr, cond, List, [], ◌∷◌, Some, refl, sym, ap, ◌∙◌, subst, arith, eq-eqb}
use Rattle.std.specs.Prelude.{Contains}
use Rattle.vlink.specs.declared.frame.Frame.{Frame}
use Rattle.vlink.specs.declared.frame.VlId.{VlId}
use Rattle.vlink.specs.declared.message.Message.{Message}
use Rattle.vlink.specs.declared.note.Note.{Note}
use Rattle.vlink.specs.declared.note.Note.TheVariants.{Delivered}
use Rattle.vlink.specs.Letters.{Row}
use Rattle.output_port.specs.declared.event.Priority.{Priority}
use Rattle.output_port.specs.declared.event.Priority.TheVariants.{High, Low}
use Rattle.reverse.specs.Rules.{rules_of}
use Rattle.reverse.specs.Setting.{Setting, simulation_of}
use Rattle.virtual_time.specs.Law.{Laws, Simulation, events, one}
use Rattle.port_bounds.specs.Frames.{PutFrame, link_of}
use Rattle.port_bounds.specs.Port.{idle}
use Rattle.port_bounds.specs.Sublists.{Every}
use Rattle.port_bounds.proofs.StartLemmas.{high-put, low-put, starts-both}
use Rattle.port_bounds.proofs.SublistLemmas.{every-both, every-split, every-weaker}
use Rattle.element_bounds.specs.PortTrace.{put_at}
use Rattle.nodes.specs.declared.equipment.Equipment.{Equipment}
use Rattle.nodes.specs.declared.node.NodeRecord.{NodeRecord}
use Rattle.nodes.specs.declared.ports.Outlet.{Outlet}
use Rattle.nodes.specs.rules.Node.{NodeState, after}
use Rattle.nodes.specs.undoing.Node.{node}
use Rattle.port_turns.specs.Arrivals.{arrival_in, arrivals_in}
use Rattle.port_turns.specs.Nodes.{IsOfNodes}
use Rattle.port_turns.specs.PortEvents.{asks, outlet_in}
use Rattle.port_turns.specs.PortRuns.{puts_with}
use Rattle.port_turns.proofs.Arriving.{arrivals-have}
use Rattle.port_turns.proofs.Asking.{node-asks}
use Rattle.frame_ages.specs.Latencies.{IsHeldWithin}
use Rattle.frame_ages.specs.Ports.{IsThrough, trace_at}
use Rattle.frame_ages.specs.Sizes.{OpensEmpty, Sizes}
use Rattle.frame_ages.specs.Ways.{ComesNot, way_time}
use Rattle.frame_ages.proofs.AgeLemmas as most
use Rattle.frame_ages.proofs.GivenLemmas.{fits}
use Rattle.frame_ages.proofs.LatencyLemmas.{some-before}
use Rattle.frame_ages.proofs.NoteLemmas.{IsDelivery, Shows}
use Rattle.frame_ages.proofs.PutLemmas.{IsPutFit}
use Rattle.least_ages.specs.Ages.{way_least}
use Rattle.least_ages.specs.Deliveries.{ComesBetween, ComesInTime, IsTimely}
use Rattle.least_ages.proofs.LeastLemmas.{IsAged, ages}
use Rattle.least_ages.proofs.RowLemmas.{row-has}

module _ (v : ℕ) (P : ℕ → Frame → Type 0) where
  -- P holds of each frame of the virtual link that comes, and of when it comes
  abbrev IsGood : PutFrame → Type 0
  IsGood put = link_of put ≡ v → P put.at put.frame

  -- and of all that come with these messages to ports that there are
  abbrev AllComeGood : Equipment → List Message → Type 0
  AllComeGood e ms = (k : ℕ) (outlet : Outlet) → outlet_in e k ≡ Some outlet → (byte_ns : ℕ) × Every IsGood (arrivals_in byte_ns k ms)

  one-good : (m : Message) (ms : List Message) (e : Equipment) → AllComeGood e (m ∷ ms) → (vl : VlId) (latency : ℕ) → vl.0 ≡ v → (d : IsDelivery m e vl latency) → P m.time d.frame
  one-good m ms e h vl latency is d =
      let come = h d.at_port d.outlet d.there in
      let here = (every-split IsGood (arrival_in come.0 d.at_port m.time m.body) (arrivals_in come.0 d.at_port ms) come.1).0 in
      let first = subst (λ b. Every IsGood (arrival_in come.0 d.at_port m.time b)) d.body_is here in
      (subst (λ b. Every IsGood (cond b (put_at come.0 m.time d.at_port d.frame ∷ []) [])) (eq-eqb d.at_port d.at_port refl) first).0 (ap (λ (z : VlId). z.0) d.link ∙ is)

  good-later : (s : NodeState) (m : Message) (ms : List Message) → AllComeGood s.equipment (m ∷ ms) → AllComeGood (after s m).equipment ms
  good-later s m ms h k outlet is =
      let before = some-before (asks k m s.equipment) (outlet_in s.equipment k) outlet (sym (node-asks s.sender.number k m s.equipment) ∙ is) in
      let come = h k before.0 before.1 in
      (come.0, (every-split IsGood (arrival_in come.0 k m.time m.body) (arrivals_in come.0 k ms) come.1).1)

module _ (v wait top least : ℕ) where
  abbrev IsInTime : ℕ → Frame → Type 0
  IsInTime t frame = (frame.offered ≤ frame.released) × (frame.released ≤ frame.offered + wait) × (t ≤ frame.released + top) × (frame.released + least ≤ t)

  abbrev ReportsTimely : Message → Note → Type 0
  ReportsTimely m note = (place : ℕ) (vl : VlId) (latency : ℕ) → vl.0 ≡ v → note ≡ Delivered vl latency → IsTimely (record { message = m; place = place; note = note }) latency wait top least

  note-timely : (s : NodeState) (m : Message) (ms : List Message) → AllComeGood v IsInTime s.equipment (m ∷ ms) → (note : Note) → Shows m s.equipment note → ReportsTimely m note
  note-timely s m ms h note shown place vl latency is e =
      let d : IsDelivery m s.equipment vl latency = subst (Shows m s.equipment) e shown in
      let good = one-good v IsInTime m ms s.equipment h vl latency is d in
      let since = d.since in
      record {
        port = d.at_port;
        frame = d.frame;
        came = d.body_is;
        since = omega (arith, good.0, good.3);
        released = good.0;
        held = good.1;
        no_later = good.2;
        no_sooner = good.3;
      }

module _ (x : Setting NodeState) (L : Laws (simulation_of (rules_of node) x)) (N : IsOfNodes x) (size : ℕ → Sizes) (O : OpensEmpty x size) (v : ℕ) (n : ℕ) (source to wait top least : ℕ) (held : IsHeldWithin x source v wait)
    (C : ComesInTime x size v source to top least) where
  abbrev f : Simulation Message NodeState NodeRecord Note
  f = simulation_of (rules_of node) x

  abbrev IsHeldFrame : Frame → Type 0
  IsHeldFrame frame = frame.released ≤ frame.offered + wait

  abbrev Good : PutFrame → Type 0
  Good put = IsGood v (IsInTime v wait top least) put

  -- a port that does not send the virtual link brings none of it
  none-come : (port : ℕ) → (c : ComesNot x v to port) → Every (λ put. link_of put ≡ v → ⊥) (arrivals_in c.outlet.ahead.byte_ns port (events f n to))
  none-come port c =
      arrivals-have x L c.from c.from_port c.by to port c.from_inside c.by_inside N c.outlet c.line c.way (λ t frame. frame.vl.0 ≡ v → ⊥) n
      (starts-both (λ s. link_of s.put ≡ v → ⊥) idle (trace_at x c.from c.from_port c.outlet n)
      (high-put (λ put. link_of put ≡ v → ⊥) (trace_at x c.from c.from_port c.outlet n) (none High))
      (low-put (λ put. link_of put ≡ v → ⊥) (trace_at x c.from c.from_port c.outlet n) (none Low)))
    where
      none : (r : Priority) → Every (λ put. link_of put ≡ v → ⊥) (puts_with r (trace_at x c.from c.from_port c.outlet n))
      none r = every-weaker (λ put. IsPutFit x L N size O c.from c.from_port c.from_inside c.outlet.ahead.byte_ns r put) (λ put. link_of put ≡ v → ⊥)
          (λ put k e. c.barred put.line r (subst (λ z. IsThrough (x.opening c.from).equipment c.from_port z put.line r) e k.through))
          (puts_with r (trace_at x c.from c.from_port c.outlet n)) (fits x L N size O c.from c.from_port c.outlet c.from_inside n r)

  over-route : (port : ℕ) → ComesBetween x size v source to port top least → (byte_ns : ℕ) × Every Good (arrivals_in byte_ns port (events f n to))
  over-route port c =
      let old = most.ages x L N size O v IsHeldFrame n c.hop c.earlier c.route
      (subst (λ z. (q : ℕ) (outlet : Outlet) → outlet_in (x.opening z).equipment q ≡ Some outlet → Every (λ put. link_of put ≡ v → IsHeldFrame put.frame) (puts_with Low (trace_at x z q outlet n))) (sym c.from_source)
      (λ q outlet is. held.holds q outlet is n)) in
      let young = ages x L N size O v n c.hop c.earlier c.route in
      let both = every-weaker
      (λ put. most.IsAged x L N size O v IsHeldFrame n (way_time (c.hop ∷ c.earlier)) put.at put.frame × IsAged x L N size O v n (way_least (size v).least (c.hop ∷ c.earlier)) put.at put.frame) Good
      (λ put k e. (let late = k.0 e in let soon = k.1 e in let le = c.no_later in let ge = c.no_sooner in (soon.0, late.1, omega (arith, late.0), omega (arith, soon.1)))) (arrivals_in c.hop.outlet.ahead.byte_ns c.hop.port (events f n c.hop.to))
      (every-both (λ put. most.IsAged x L N size O v IsHeldFrame n (way_time (c.hop ∷ c.earlier)) put.at put.frame) (λ put. IsAged x L N size O v n (way_least (size v).least (c.hop ∷ c.earlier)) put.at put.frame)
      (arrivals_in c.hop.outlet.ahead.byte_ns c.hop.port (events f n c.hop.to)) old young) in (
        c.hop.outlet.ahead.byte_ns,
        subst (λ j. Every Good (arrivals_in c.hop.outlet.ahead.byte_ns j (events f n to))) c.to_port (subst (λ z. Every Good (arrivals_in c.hop.outlet.ahead.byte_ns c.hop.port (events f n z))) c.to_there both),
      )

  all-come : AllComeGood v (IsInTime v wait top least) (x.opening to).equipment (events f n to)
  all-come port outlet is = go (C port outlet is)
    where
      go : ComesBetween x size v source to port top least ⊎ ComesNot x v to port → (byte_ns : ℕ) × Every Good (arrivals_in byte_ns port (events f n to))
      go (inl c) = over-route port c
      go (inr k) = (
        k.outlet.ahead.byte_ns,
        every-weaker (λ put. link_of put ≡ v → ⊥) Good (λ put d e. absurd (d e)) (arrivals_in k.outlet.ahead.byte_ns port (events f n to)) (none-come port k),
      )

  pub delivered-timely : (row : Row) → Contains (one f n).rows row → row.place ≡ to → (vl : VlId) (latency : ℕ) → vl.0 ≡ v → row.note ≡ Delivered vl latency → IsTimely row latency wait top least
  delivered-timely row inside place vl latency is e =
      row-has (ReportsTimely v wait top least) (λ s ms. AllComeGood v (IsInTime v wait top least) s.equipment ms) (good-later v (IsInTime v wait top least)) (note-timely v wait top least) x L to n all-come row inside place row.place vl latency is e
