-- Why each message that brings a frame brings one of its virtual link's size, and why one that puts a frame to an output of a switch does so by an output of its virtual link.
use Rattle.std.proofs.Common.{◌≡◌, ℕ, ◌+◌, ◌≤◌, true, List, [], ◌∷◌, All, IfSome, Option, Some, None, option_map, refl, sym, ap, subst}
use Rattle.std.specs.Prelude.{⊤}
use Rattle.std.proofs.lemmas.Option.{none-some}
use Rattle.std.proofs.lemmas.List.Elements.{All-cons, All-head, All-nil, All-tail, All-weaker}
use Rattle.vlink.specs.declared.frame.Frame.{Frame}
use Rattle.vlink.specs.declared.message.Message.{Message}
use Rattle.vlink.specs.declared.message.Body.{Body}
use Rattle.vlink.specs.declared.message.Body.TheVariants.{PortFree, Enqueue, Carry}
use Rattle.vlink.specs.declared.note.Note.{Note}
use Rattle.frame_ring.specs.Queue.{Queue}
use Rattle.policer.specs.Account.{Policing}
use Rattle.reverse.specs.Sending.{Wish}
use Rattle.reverse.specs.Rules.{rules_of}
use Rattle.reverse.specs.Setting.{Setting, simulation_of}
use Rattle.virtual_time.specs.Law.{Laws, Simulation, events, one}
use Rattle.port_bounds.specs.Mixtures.{IsAmong}
use Rattle.port_bounds.specs.Port.{idle}
use Rattle.element_bounds.specs.PortTrace.{IsSamePort}
use Rattle.nodes.specs.declared.equipment.Equipment.{Equipment}
use Rattle.nodes.specs.declared.equipment.Equipment.TheVariants.{EndSystem, Switch, Line}
use Rattle.nodes.specs.declared.node.NodeRecord.{NodeRecord}
use Rattle.nodes.specs.declared.ports.Outlet.{Outlet}
use Rattle.nodes.specs.declared.source.Source.{Source}
use Rattle.nodes.specs.declared.transit.Transit.{Transit}
use Rattle.nodes.specs.rules.Finding.{Found}
use Rattle.nodes.specs.rules.Ports.{PortsState}
use Rattle.nodes.specs.rules.Switch.{SwitchState, outputs_of, transit_at}
use Rattle.nodes.specs.rules.Node.{NodeState, handled}
use Rattle.nodes.specs.undoing.Node.{node}
use Rattle.nodes.specs.laws.Places.{All-there}
use Rattle.nodes.specs.laws.Sent.{IsSentAs, sent-all}
use Rattle.port_turns.specs.Nodes.{IsOfNodes, is_offer}
use Rattle.port_turns.specs.PortEvents.{outlet_in}
use Rattle.port_turns.specs.SwitchPuts.{transit_of}
use Rattle.port_turns.proofs.Elsewhere.{line-all}
use Rattle.port_turns.proofs.Senders.{number-is}
use Rattle.port_turns.proofs.Sources.{HasWaiting}
use Rattle.frame_ages.specs.Sizes.{HaveEmptyRegulators, HaveIdlePorts, IsSized, IsSizedFrame, OpensEmpty, Sizes}
use Rattle.frame_ages.proofs.PortFrames.{there, AllWaitAt, AllWaitAtPorts, IsCarryOf, IsPortWish}
use Rattle.frame_ages.proofs.EndFrames.{IsFitEnd, OfLink, end-sends, end-state}
use Rattle.frame_ages.proofs.SwitchFrames.{switch-ports, switch-sends}
use Rattle.port_turns.proofs.Transits.{AllTransits, transits-stay}
use Rattle.frame_ages.proofs.Invariants.{IsInvariant, all-events, all-handled}

-- the frame goes out by output q of this equipment: its virtual link does, and it is not longer than Smax
abbrev pub GoesOut : Equipment → ℕ → Frame → Type 0
GoesOut (Switch s) q frame = (transit : Transit) × (transit_of (Switch s) frame.vl.0 ≡ Some transit) × IsAmong q (outputs_of transit) × (frame.size ≤ transit.smax)
GoesOut _ q frame = ⊥

-- the virtual link as it goes through the switch at first, but for the account
abbrev pub SameAs : SwitchState → ℕ → Transit → Type 0
SameAs w v t = (was : Transit) × (transit_of (Switch w) v ≡ Some was) × (t ≡ record was { account = t.account })

pub same-as-stays : (w : SwitchState) (v : ℕ) (t : Transit) (a : Policing) → SameAs w v t → SameAs w v (record t { account = a })
same-as-stays w v t a h = (h.0, h.1, ap (λ (z : Transit). record z { account = a }) h.2)

pub same-as-first : (w : SwitchState) → AllTransits (SameAs w) (same-as-stays w) w
same-as-first w vl found is = (found.entry, ap (option_map (λ (z : Found Transit). z.entry)) is, refl)

-- a port that there is is idle at first
pub idle-at : (e : Equipment) (q : ℕ) (outlet : Outlet) → HaveIdlePorts e → outlet_in e q ≡ Some outlet → IsSamePort outlet.port idle
idle-at (EndSystem s) q outlet h is = All-there (λ slot. IfSome slot (λ outlet. IsSamePort outlet.port idle)) s.ports q (Some outlet) h (there s.ports q outlet is)
idle-at (Switch s) q outlet h is = All-there (λ slot. IfSome slot (λ outlet. IsSamePort outlet.port idle)) s.ports q (Some outlet) h (there s.ports q outlet is)
idle-at (Line s) q outlet h is = absurd (none-some outlet is)

module _ (size : ℕ → Sizes) where
  -- what waits at first
  pub none-waits : (s : List Source) → All (λ source. All (λ (list : Queue). list.frames ≡ []) source.regulator.lists) s → All (HasWaiting (OfLink size)) s
  none-waits s h = All-weaker (λ source. All (λ (list : Queue). list.frames ≡ []) source.regulator.lists) (HasWaiting (OfLink size))
      (λ source k. All-weaker (λ (list : Queue). list.frames ≡ []) (λ (list : Queue). All (OfLink size source.end.vl.0) list.frames)
      (λ list e. subst (All (OfLink size source.end.vl.0)) (sym e) (All-nil (OfLink size source.end.vl.0))) source.regulator.lists k) s h

  none-at-ports : (ports : PortsState) → All (λ slot. IfSome slot (λ outlet. IsSamePort outlet.port idle)) ports → AllWaitAtPorts (IsSizedFrame size) ports
  none-at-ports ports h = All-weaker (λ slot. IfSome slot (λ outlet. IsSamePort outlet.port idle)) (λ slot. IfSome slot (λ outlet. AllWaitAt (IsSizedFrame size) outlet.port)) one ports h
    where
      one : (slot : Option Outlet) → IfSome slot (λ outlet. IsSamePort outlet.port idle) → IfSome slot (λ outlet. AllWaitAt (IsSizedFrame size) outlet.port)
      one None k = tt
      one (Some outlet) k = record {
        high = subst (All (IsSizedFrame size)) (sym k.high) (All-nil (IsSizedFrame size));
        low = subst (All (IsSizedFrame size)) (sym k.low) (All-nil (IsSizedFrame size));
      }

module _ (x : Setting NodeState) (L : Laws (simulation_of (rules_of node) x)) (N : IsOfNodes x) (size : ℕ → Sizes) (O : OpensEmpty x size) where
  abbrev f : Simulation Message NodeState NodeRecord Note
  f = simulation_of (rules_of node) x

  abbrev pub IsOut : ℕ → Body → Type 0
  IsOut r (Enqueue q frame) = GoesOut (x.opening r).equipment q frame
  IsOut r _ = ⊤

  -- the frame of a message has the size of its virtual link, and goes out by one of its outputs
  abbrev pub IsFit : Message → Type 0
  IsFit m = IsSized size m.body × IsOut m.receiver m.body

  abbrev IsFitWish : Wish → Type 0
  IsFitWish w = IsSized size w.body × IsOut w.receiver w.body

  abbrev State : ℕ → Equipment → Type 0
  State p (EndSystem s) = IsFitEnd size s
  State p (Switch s) = AllWaitAtPorts (IsSizedFrame size) s.ports × (w : SwitchState) × ((x.opening p).equipment ≡ Switch w) × AllTransits (SameAs w) (same-as-stays w) s
  State p (Line s) = ⊤

  by-port : (w : Wish) → IsPortWish (IsSizedFrame size) w → IsFitWish w
  by-port w h = go w.body h
    where
      go : (b : Body) → IsCarryOf (IsSizedFrame size) b → IsSized size b × IsOut w.receiver b
      go (PortFree q) k = (tt, tt)
      go (Carry frame) k = (k, tt)
      go _ k = absurd k

  puts-fit : (p n t : ℕ) (s w : SwitchState) → n ≡ p → (x.opening p).equipment ≡ Switch w → AllTransits (SameAs w) (same-as-stays w) s →
      (frame : Frame) (found : Found Transit) (q : ℕ) → transit_at s frame.vl ≡ Some found → IsSizedFrame size frame → frame.size ≤ found.entry.smax → IsAmong q (outputs_of found.entry) →
      IsFitWish (record { time = t; receiver = n; body = Enqueue q frame })
  puts-fit p n t s w e is same frame found q here f small i =
      let was = same frame.vl found here in (
        f,
        subst (λ z. GoesOut (x.opening z).equipment q frame) (sym e) (subst (λ z. GoesOut z q frame) (sym is)
            (was.0, was.1, subst (IsAmong q) (ap outputs_of was.2) i, subst (λ k. frame.size ≤ k) (ap (λ (z : Transit). z.smax) was.2) small)),
      )

  handled-sends : (p n : ℕ) (m : Message) (e : Equipment) → n ≡ p → State p e → IsFit m → All IsFitWish (handled n m e).reply.wishes
  handled-sends p n m (EndSystem s) k h q = end-sends size IsFitWish by-port (λ t r vl. (tt, tt)) n m.time m.body s q.0 h
  handled-sends p n m (Switch s) k h q = switch-sends size n IsFitWish by-port m.time m.body s (λ frame found c here f small i. puts-fit p n (m.time + s.latency) s h.1 k h.2 h.3 frame found c here f small i) q.0 h.0
  handled-sends p n m (Line l) k h q = line-all IsFitWish m.time m.body l (λ frame is. (subst (IsSized size) is q.0, tt))

  handled-state : (p n : ℕ) (m : Message) (e : Equipment) → n ≡ p → State p e → IsFit m → State p (handled n m e).equipment
  handled-state p n m (EndSystem s) k h q = end-state size IsFitWish by-port (λ t r vl. (tt, tt)) n m.time m.body s q.0 h
  handled-state p n m (Switch s) k h q = (
    switch-ports size n IsFitWish by-port m.time m.body s (λ frame found c here f small i. puts-fit p n (m.time + s.latency) s h.1 k h.2 h.3 frame found c here f small i) q.0 h.0,
    h.1,
    h.2,
    transits-stay (SameAs h.1) (same-as-stays h.1) n m.time m.body s h.3,
  )
  handled-state p n m (Line s) k h q = tt

  opens : (p : ℕ) → (e : Equipment) → (x.opening p).equipment ≡ e → HaveEmptyRegulators e → HaveIdlePorts e → State p e
  opens p (EndSystem s) is h k = record { waiting = none-waits size s.sources h; ports = none-at-ports size s.ports k }
  opens p (Switch s) is h k = (none-at-ports size s.ports k, s, is, same-as-first s)
  opens p (Line s) is h k = tt

  offers-fit : (ms : List Message) → All (λ m. IsSized size m.body) ms → All (λ m. is_offer m.body ≡ true) ms → All IsFit ms
  offers-fit [] h k = All-nil IsFit
  offers-fit (m ∷ ms) h k =
      All-cons IsFit m ms (All-head (λ (m : Message). IsSized size m.body) m ms h, go m.body (All-head (λ (m : Message). is_offer m.body ≡ true) m ms k))
      (offers-fit ms (All-tail (λ (m : Message). IsSized size m.body) m ms h) (All-tail (λ (m : Message). is_offer m.body ≡ true) m ms k))
    where
      go : (b : Body) → is_offer b ≡ true → IsOut m.receiver b
      go (Enqueue q frame) e = absurd (let z : ⊥ = cc in z)
      go _ e = tt

  invariant : IsInvariant f L IsFit (λ p s. State p s.equipment)
  invariant = record {
    offered = offers-fit x.offers O.offers N.offered;
    opens = λ p i. opens p (x.opening p).equipment refl (O.regulators p i) (O.ports p i);
    after = λ p i s m was to h q. handled-state p s.sender.number m s.equipment (number-is x N p i s was) h q;
    sends = λ p i s m was to h q. sent-all IsFit s.sender (handled s.sender.number m s.equipment).reply.wishes
        (All-weaker IsFitWish (IsSentAs IsFit s.sender) (λ w k n l. k) (handled s.sender.number m s.equipment).reply.wishes (handled-sends p s.sender.number m s.equipment (number-is x N p i s was) h q));
  }

  -- each message that a process handles is so
  pub all-fit : (n p : ℕ) → All IsFit (events f n p)
  all-fit n p = all-events f L IsFit (λ p s. State p s.equipment) invariant n p

  pub all-sized : (n : ℕ) → All (λ m. IsSized size m.body) (one f n).handled
  all-sized n = All-weaker IsFit (λ m. IsSized size m.body) (λ m h. h.0) (one f n).handled (all-handled f L IsFit (λ p s. State p s.equipment) invariant n)
