-- Why no frame is delivered later than its wait at the end system and its way take.
use Rattle.std.proofs.Common.{◌≡◌, ℕ, ◌+◌, ◌≤◌, ◌⊎◌, inl, inr, cond, List, [], ◌∷◌, Option, Some, None, option_map, refl, sym, ap, ◌∙◌, subst, arith, eq-eqb}
use Rattle.std.specs.Prelude.{Contains}
use Rattle.vlink.specs.declared.frame.VlId.{VlId}
use Rattle.vlink.specs.declared.message.Message.{Message}
use Rattle.vlink.specs.declared.note.Note.{Note}
use Rattle.vlink.specs.declared.note.Note.TheVariants.{Delivered}
use Rattle.vlink.specs.Letters.{Row}
use Rattle.output_port.specs.declared.event.Priority.{Priority}
use Rattle.output_port.specs.declared.event.Priority.TheVariants.{High, Low}
use Rattle.output_port.specs.declared.event.PortEvent.{PortEvent}
use Rattle.reverse.specs.Rules.{rules_of}
use Rattle.reverse.specs.Setting.{Setting, simulation_of}
use Rattle.virtual_time.specs.Law.{Laws, Simulation, events, one}
use Rattle.port_bounds.specs.Frames.{PutFrame, link_of}
use Rattle.port_bounds.specs.Port.{idle}
use Rattle.port_bounds.specs.Sublists.{Every}
use Rattle.port_bounds.proofs.StartLemmas.{high-put, low-put, starts-both}
use Rattle.port_bounds.proofs.SublistLemmas.{every-split, every-weaker}
use Rattle.element_bounds.specs.PortTrace.{put_at}
use Rattle.nodes.specs.declared.equipment.Equipment.{Equipment}
use Rattle.nodes.specs.declared.node.NodeRecord.{NodeRecord}
use Rattle.nodes.specs.declared.ports.Outlet.{Outlet}
use Rattle.nodes.specs.rules.Node.{NodeState, after}
use Rattle.nodes.specs.undoing.Node.{node}
use Rattle.port_turns.specs.Arrivals.{arrival_in, arrivals_in}
use Rattle.port_turns.specs.Nodes.{IsOfNodes}
use Rattle.port_turns.specs.PortEvents.{asks, done_at, outlet_in}
use Rattle.port_turns.specs.PortRuns.{puts_with}
use Rattle.port_turns.proofs.Arriving.{arrivals-have}
use Rattle.port_turns.proofs.Asking.{node-asks}
use Rattle.frame_ages.specs.Latencies.{ComesWithin, IsHeldWithin}
use Rattle.frame_ages.specs.Ports.{IsThrough, trace_at}
use Rattle.frame_ages.specs.Sizes.{OpensEmpty, Sizes}
use Rattle.frame_ages.specs.Ways.{ComesBy, ComesNot, way_time}
use Rattle.frame_ages.proofs.AgeLemmas.{IsAged, ages}
use Rattle.frame_ages.proofs.GivenLemmas.{fits}
use Rattle.frame_ages.proofs.NoteLemmas.{IsDelivery, Shows}
use Rattle.frame_ages.proofs.RowLemmas.{row-fits}
use Rattle.frame_ages.proofs.PutLemmas.{IsPutFit}

pub some-before : (a : Option PortEvent) (o : Option Outlet) (outlet : Outlet) → option_map (done_at a) o ≡ Some outlet → (before : Outlet) × (o ≡ Some before)
some-before a None outlet h = absurd (let z : ⊥ = cc in z)
some-before a (Some before) outlet h = (before, refl)

module _ (v bound : ℕ) where
  -- a frame of the virtual link that comes is not so long after its offer
  abbrev IsTimely : PutFrame → Type 0
  IsTimely put = link_of put ≡ v → put.at ≤ put.frame.offered + bound

  -- and so are all that come with these messages to ports that there are
  abbrev AllComeTimely : Equipment → List Message → Type 0
  AllComeTimely e ms = (k : ℕ) (outlet : Outlet) → outlet_in e k ≡ Some outlet → (byte_ns : ℕ) × Every IsTimely (arrivals_in byte_ns k ms)

  abbrev IsTimelyNote : Note → Type 0
  IsTimelyNote note = (vl : VlId) (latency : ℕ) → vl.0 ≡ v → note ≡ Delivered vl latency → latency ≤ bound

  one-timely : (m : Message) (ms : List Message) (e : Equipment) → AllComeTimely e (m ∷ ms) → (vl : VlId) (latency : ℕ) → vl.0 ≡ v → IsDelivery m e vl latency → latency ≤ bound
  one-timely m ms e h vl latency is d =
      let come = h d.at_port d.outlet d.there in
      let here = (every-split IsTimely (arrival_in come.0 d.at_port m.time m.body) (arrivals_in come.0 d.at_port ms) come.1).0 in
      let first = subst (λ b. Every IsTimely (arrival_in come.0 d.at_port m.time b)) d.body_is here in
      let put : m.time ≤ d.frame.offered + bound = (subst (λ b. Every IsTimely (cond b (put_at come.0 m.time d.at_port d.frame ∷ []) [])) (eq-eqb d.at_port d.at_port refl) first).0 (ap (λ (z : VlId). z.0) d.link ∙ is) in
      let since = d.since in
      omega arith

  ports-later : (s : NodeState) (m : Message) (ms : List Message) → AllComeTimely s.equipment (m ∷ ms) → AllComeTimely (after s m).equipment ms
  ports-later s m ms h k outlet is =
      let before = some-before (asks k m s.equipment) (outlet_in s.equipment k) outlet (sym (node-asks s.sender.number k m s.equipment) ∙ is) in
      let come = h k before.0 before.1 in
      (come.0, (every-split IsTimely (arrival_in come.0 k m.time m.body) (arrivals_in come.0 k ms) come.1).1)

  note-timely : (s : NodeState) (m : Message) (ms : List Message) → AllComeTimely s.equipment (m ∷ ms) → (note : Note) → Shows m s.equipment note → IsTimelyNote note
  note-timely s m ms h note d vl latency is e = one-timely m ms s.equipment h vl latency is (subst (Shows m s.equipment) e d)

module _ (x : Setting NodeState) (L : Laws (simulation_of (rules_of node) x)) (N : IsOfNodes x) (size : ℕ → Sizes) (O : OpensEmpty x size) (v : ℕ) (n : ℕ) where
  abbrev f : Simulation Message NodeState NodeRecord Note
  f = simulation_of (rules_of node) x

  -- a port that does not send the virtual link brings none of it
  none-come : (to port : ℕ) → (C : ComesNot x v to port) → Every (λ put. link_of put ≡ v → ⊥) (arrivals_in C.outlet.ahead.byte_ns port (events f n to))
  none-come to port C =
      arrivals-have x L C.from C.from_port C.by to port C.from_inside C.by_inside N C.outlet C.line C.way (λ t frame. frame.vl.0 ≡ v → ⊥) n
      (starts-both (λ s. link_of s.put ≡ v → ⊥) idle (trace_at x C.from C.from_port C.outlet n)
      (high-put (λ put. link_of put ≡ v → ⊥) (trace_at x C.from C.from_port C.outlet n) (none High))
      (low-put (λ put. link_of put ≡ v → ⊥) (trace_at x C.from C.from_port C.outlet n) (none Low)))
    where
      none : (r : Priority) → Every (λ put. link_of put ≡ v → ⊥) (puts_with r (trace_at x C.from C.from_port C.outlet n))
      none r = every-weaker (λ put. IsPutFit x L N size O C.from C.from_port C.from_inside C.outlet.ahead.byte_ns r put) (λ put. link_of put ≡ v → ⊥)
          (λ put k e. C.barred put.line r (subst (λ z. IsThrough (x.opening C.from).equipment C.from_port z put.line r) e k.through))
          (puts_with r (trace_at x C.from C.from_port C.outlet n)) (fits x L N size O C.from C.from_port C.outlet C.from_inside n r)

  module _ (source to wait most : ℕ) (held : IsHeldWithin x source v wait) (C : ComesWithin x size v source to most) where
    all-come : AllComeTimely v (wait + most) (x.opening to).equipment (events f n to)
    all-come port outlet is = go (C port outlet is)
      where
        go : ((time : ℕ) × ComesBy x size v source to port time × (time ≤ most)) ⊎ ComesNot x v to port → (byte_ns : ℕ) × Every (IsTimely v (wait + most)) (arrivals_in byte_ns port (events f n to))
        go (inr k) = (k.outlet.ahead.byte_ns, every-weaker (λ put. link_of put ≡ v → ⊥) (IsTimely v (wait + most)) (λ put d e. absurd (d e)) (arrivals_in k.outlet.ahead.byte_ns port (events f n to)) (none-come to port k))
        go (inl k) =
            let by = k.1 in
            let old = ages x L N size O v (λ frame. frame.released ≤ frame.offered + wait) n by.hop by.earlier by.route
            (subst (λ z. (q : ℕ) (outlet : Outlet) → outlet_in (x.opening z).equipment q ≡ Some outlet → Every (λ put. link_of put ≡ v → put.frame.released ≤ put.frame.offered + wait) (puts_with Low (trace_at x z q outlet n))) (sym by.from_source)
            (λ q outlet is. held.holds q outlet is n)) in (
              by.hop.outlet.ahead.byte_ns,
              every-weaker (λ put. IsAged x L N size O v (λ frame. frame.released ≤ frame.offered + wait) n (way_time (by.hop ∷ by.earlier)) put.at put.frame) (IsTimely v (wait + most))
                  (λ put a e. let both = a e in let time = by.within in omega (arith, both.0, both.1, k.2))
                  (arrivals_in by.hop.outlet.ahead.byte_ns port (events f n to))
                  (subst (λ z. Every (λ put. IsAged x L N size O v (λ frame. frame.released ≤ frame.offered + wait) n (way_time (by.hop ∷ by.earlier)) put.at put.frame) (arrivals_in by.hop.outlet.ahead.byte_ns z (events f n to))) by.to_port
                  (subst (λ z. Every (λ put. IsAged x L N size O v (λ frame. frame.released ≤ frame.offered + wait) n (way_time (by.hop ∷ by.earlier)) put.at put.frame) (arrivals_in by.hop.outlet.ahead.byte_ns by.hop.port (events f n z))) by.to_there old)),
            )

    pub latency-bounded : (row : Row) → Contains (one f n).rows row → row.place ≡ to → (vl : VlId) (latency : ℕ) → vl.0 ≡ v → row.note ≡ Delivered vl latency → latency ≤ wait + most
    latency-bounded row inside place = row-fits (IsTimelyNote v (wait + most)) (λ s ms. AllComeTimely v (wait + most) s.equipment ms) (ports-later v (wait + most)) (note-timely v (wait + most)) x L to n all-come row inside place
