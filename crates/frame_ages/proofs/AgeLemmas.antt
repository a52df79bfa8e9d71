-- How old frames are that come to a node: at most as old as their way takes.
use Rattle.std.proofs.Common.{◌≡◌, ℕ, ◌+◌, ◌≤◌, List, [], ◌∷◌, Some, refl, sym, ap, ◌∙◌, subst, arith}
use Rattle.std.proofs.lemmas.Option.{same_Some}
use Rattle.vlink.specs.Wire.{busy_for, last_bit_after}
use Rattle.vlink.specs.declared.frame.Frame.{Frame}
use Rattle.vlink.specs.declared.message.Message.{Message}
use Rattle.vlink.specs.declared.note.Note.{Note}
use Rattle.output_port.specs.declared.event.Priority.{Priority}
use Rattle.output_port.specs.declared.event.Priority.TheVariants.{High, Low}
use Rattle.reverse.specs.Rules.{rules_of}
use Rattle.reverse.specs.Setting.{Setting, simulation_of}
use Rattle.virtual_time.specs.Law.{Laws, Simulation, events}
use Rattle.port_bounds.specs.Frames.{PutFrame, link_of}
use Rattle.port_bounds.specs.Port.{Start, high_starts, idle, low_starts}
use Rattle.port_bounds.specs.Sublists.{Every}
use Rattle.port_bounds.proofs.StartLemmas.{high-put, low-put, starts-both}
use Rattle.port_bounds.proofs.SublistLemmas.{every-both, every-weaker}
use Rattle.nodes.specs.declared.equipment.Equipment.TheVariants.{Switch}
use Rattle.nodes.specs.declared.node.NodeRecord.{NodeRecord}
use Rattle.nodes.specs.declared.ports.Outlet.{Outlet}
use Rattle.nodes.specs.declared.transit.Transit.{Transit}
use Rattle.nodes.specs.rules.Node.{NodeState}
use Rattle.nodes.specs.undoing.Node.{node}
use Rattle.port_turns.specs.Arrivals.{arrivals_in}
use Rattle.port_turns.specs.Nodes.{IsOfNodes}
use Rattle.port_turns.specs.PortEvents.{outlet_in}
use Rattle.port_turns.specs.PortRuns.{puts_with}
use Rattle.port_turns.proofs.Arriving.{arrivals-have}
use Rattle.port_turns.proofs.SerialPuts.{puts-have}
use Rattle.frame_ages.specs.Ports.{IsSentBy, IsThrough, IsThroughSwitch, trace_at}
use Rattle.frame_ages.specs.Sizes.{OpensEmpty, Sizes}
use Rattle.frame_ages.specs.Ways.{Hop, IsFirstHop, IsHop, IsInTime, IsNextHop, IsRoute, source_of, way_time}
use Rattle.frame_ages.proofs.GivenLemmas.{fits, highs-in-time, lows-in-time}
use Rattle.frame_ages.proofs.PutLemmas.{IsFresh, IsPutFit}

module _ (x : Setting NodeState) (L : Laws (simulation_of (rules_of node) x)) (N : IsOfNodes x) (size : ℕ → Sizes) (O : OpensEmpty x size) (v : ℕ) (K : Frame → Type 0) (n : ℕ) where
  abbrev f : Simulation Message NodeState NodeRecord Note
  f = simulation_of (rules_of node) x

  -- a frame of the virtual link that is at this place at moment t is no older than that, and K holds of it
  abbrev pub IsAged : ℕ → ℕ → Frame → Type 0
  IsAged age t frame = frame.vl.0 ≡ v → (t ≤ frame.released + age) × K frame

  -- each frame that is put to a port; each that comes to one
  pub record AllPutsAged (p q : ℕ) (outlet : Outlet) (age : ℕ) : Type 0 where
    pub high : Every (λ put. IsAged age put.at put.frame) (puts_with High (trace_at x p q outlet n))
    pub low : Every (λ put. IsAged age put.at put.frame) (puts_with Low (trace_at x p q outlet n))

  abbrev pub AllComeAged : ℕ → ℕ → ℕ → ℕ → Type 0
  AllComeAged byte_ns to port age = Every (λ put. IsAged age put.at put.frame) (arrivals_in byte_ns port (events f n to))

  -- ---- over one hop

  module _ (h : Hop) (H : IsHop x size v h) (age : ℕ) (prio : (line : ℕ) (r : Priority) → IsThrough (x.opening h.from).equipment h.from_port v line r → r ≡ h.priority) where
    abbrev byte_ns : ℕ
    byte_ns = h.outlet.ahead.byte_ns

    abbrev Fit : Priority → PutFrame → Type 0
    Fit r put = IsPutFit x L N size O h.from h.from_port H.from_inside byte_ns r put

    -- when the frame of a start comes to the port behind the line
    abbrev Comes : Start → Type 0
    Comes s = IsAged (age + (h.delay + h.line.propagation)) ((s.at + last_bit_after s.put.frame.size byte_ns) + h.line.propagation) s.put.frame

    -- the last bit leaves in time
    abbrev Leaves : Start → Type 0
    Leaves s = s.put.frame.vl.0 ≡ v → s.at + last_bit_after s.put.frame.size byte_ns ≤ s.put.at + h.delay

    come-later : (s : Start) → IsAged age s.put.at s.put.frame → Leaves s → Comes s
    come-later s a l e = let old = a e in let time = l e in (omega (arith, old.0), old.1)

    no-starts : (r : Priority) (ss : List Start) → (r ≡ h.priority → ⊥) → Every (λ s. Fit r s.put) ss → Every Leaves ss
    no-starts r ss d k = every-weaker (λ s. Fit r s.put) Leaves (λ s fit e. absurd (d (prio s.put.line r (subst (λ z. IsThrough (x.opening h.from).equipment h.from_port z s.put.line r) e fit.through)))) ss k

    high-fit : Every (λ s. Fit High s.put) (high_starts idle (trace_at x h.from h.from_port h.outlet n))
    high-fit = high-put (Fit High) (trace_at x h.from h.from_port h.outlet n) (fits x L N size O h.from h.from_port h.outlet H.from_inside n High)

    low-fit : Every (λ s. Fit Low s.put) (low_starts idle (trace_at x h.from h.from_port h.outlet n))
    low-fit = low-put (Fit Low) (trace_at x h.from h.from_port h.outlet n) (fits x L N size O h.from h.from_port h.outlet H.from_inside n Low)

    cost-at : (r : Priority) (put : PutFrame) → Fit r put → put.cost ≡ busy_for put.frame.size byte_ns
    cost-at r put fit = fit.cost

    high-leaves : (r : Priority) → h.priority ≡ r → IsInTime x size v h.from h.from_port h.outlet r h.delay → Every Leaves (high_starts idle (trace_at x h.from h.from_port h.outlet n))
    high-leaves High e t =
        every-weaker (λ s. Fit High s.put × (s.at + s.put.cost ≤ s.put.at + t.0)) Leaves
        (λ s k e. let cost = cost-at High s.put k.0 in let left = k.1 in omega (arith, t.2))
        (high_starts idle (trace_at x h.from h.from_port h.outlet n))
        (every-both (λ s. Fit High s.put) (λ s. s.at + s.put.cost ≤ s.put.at + t.0) (high_starts idle (trace_at x h.from h.from_port h.outlet n)) high-fit
        (highs-in-time x L N size O h.from h.from_port h.outlet H.from_inside H.way.port n t.0 t.1))
    high-leaves Low e t = no-starts High (high_starts idle (trace_at x h.from h.from_port h.outlet n)) (λ k. let z : ⊥ = cc in z) high-fit

    low-leaves : (r : Priority) → h.priority ≡ r → IsInTime x size v h.from h.from_port h.outlet r h.delay → Every Leaves (low_starts idle (trace_at x h.from h.from_port h.outlet n))
    low-leaves High e t = no-starts Low (low_starts idle (trace_at x h.from h.from_port h.outlet n)) (λ k. let z : ⊥ = cc in z) low-fit
    low-leaves Low e t =
        every-weaker (λ s. Fit Low s.put × (link_of s.put ≡ v → s.at + s.put.cost ≤ (s.put.at + t.0) + busy_for (size v).least byte_ns)) Leaves
        (λ s k e. let cost = cost-at Low s.put k.0 in let sent = k.1 e in omega (arith, t.2))
        (low_starts idle (trace_at x h.from h.from_port h.outlet n))
        (every-both (λ s. Fit Low s.put) (λ s. link_of s.put ≡ v → s.at + s.put.cost ≤ (s.put.at + t.0) + busy_for (size v).least byte_ns) (low_starts idle (trace_at x h.from h.from_port h.outlet n)) low-fit
        (lows-in-time x L N size O h.from h.from_port h.outlet H.from_inside H.way.port n v t.0 t.1))

    come : (ss : List Start) → Every (λ s. IsAged age s.put.at s.put.frame) ss → Every Leaves ss → Every Comes ss
    come ss a l = every-weaker (λ s. IsAged age s.put.at s.put.frame × Leaves s) Comes (λ s k. come-later s k.0 k.1) ss (every-both (λ s. IsAged age s.put.at s.put.frame) Leaves ss a l)

    over-hop : AllPutsAged h.from h.from_port h.outlet age → AllComeAged byte_ns h.to h.port (age + (h.delay + h.line.propagation))
    over-hop a =
        arrivals-have x L h.from h.from_port h.by h.to h.port H.from_inside H.by_inside N h.outlet h.line H.way (IsAged (age + (h.delay + h.line.propagation))) n
        (starts-both Comes idle (trace_at x h.from h.from_port h.outlet n)
        (come (high_starts idle (trace_at x h.from h.from_port h.outlet n)) (high-put (λ put. IsAged age put.at put.frame) (trace_at x h.from h.from_port h.outlet n) a.high) (high-leaves h.priority refl H.in_time))
        (come (low_starts idle (trace_at x h.from h.from_port h.outlet n)) (low-put (λ put. IsAged age put.at put.frame) (trace_at x h.from h.from_port h.outlet n) a.low) (low-leaves h.priority refl H.in_time)))

  -- ---- over a way

  -- K holds of each frame of the virtual link that its end system puts
  abbrev IsHeld : ℕ → Type 0
  IsHeld source = (q : ℕ) (outlet : Outlet) → outlet_in (x.opening source).equipment q ≡ Some outlet → Every (λ put. link_of put ≡ v → K put.frame) (puts_with Low (trace_at x source q outlet n))

  abbrev PutFits : (h : Hop) → IsHop x size v h → Priority → PutFrame → Type 0
  PutFits h H r put = IsPutFit x L N size O h.from h.from_port H.from_inside h.outlet.ahead.byte_ns r put

  first-puts : (h : Hop) → IsHop x size v h → IsFirstHop x h → IsHeld h.from → AllPutsAged h.from h.from_port h.outlet 0
  first-puts h H F held = record {
    high = every-weaker (PutFits h H High) (λ put. IsAged 0 put.at put.frame) (λ put fit e. absurd (not-high put.line (link_of put) (subst (λ z. IsThrough z h.from_port (link_of put) put.line High) F.is fit.through)))
        (puts_with High (trace_at x h.from h.from_port h.outlet n)) (fits x L N size O h.from h.from_port h.outlet H.from_inside n High);
    low = every-weaker (λ put. PutFits h H Low put × (link_of put ≡ v → K put.frame)) (λ put. IsAged 0 put.at put.frame)
        (λ put k e. (let fresh : put.frame.released ≡ put.at = subst (λ z. IsFresh x L N size O h.from h.from_port H.from_inside h.outlet.ahead.byte_ns z put) F.is k.0.fresh in omega arith, k.1 e))
        (puts_with Low (trace_at x h.from h.from_port h.outlet n))
        (every-both (PutFits h H Low) (λ put. link_of put ≡ v → K put.frame) (puts_with Low (trace_at x h.from h.from_port h.outlet n)) (fits x L N size O h.from h.from_port h.outlet H.from_inside n Low) (held h.from_port h.outlet H.way.port));
  }
    where
      not-high : (line w : ℕ) → IsSentBy F.end_system h.from_port w line High → ⊥
      not-high line w s = let e = s.low in let z : ⊥ = cc in z

  -- what is put to the port of a switch came by the line before
  next-puts : (earlier h : Hop) → IsHop x size v earlier → IsHop x size v h → (X : IsNextHop x v earlier h) → (age : ℕ) → AllComeAged earlier.outlet.ahead.byte_ns earlier.to earlier.port age → AllPutsAged h.from h.from_port h.outlet (age + h.before)
  next-puts earlier h E H X age a = record { high = puts High; low = puts Low }
    where
      came : Every (λ put. IsAged (age + h.before) (put.at + X.switch.latency) put.frame) (arrivals_in earlier.outlet.ahead.byte_ns earlier.port (events f n earlier.to))
      came = every-weaker (λ put. IsAged age put.at put.frame) (λ put. IsAged (age + h.before) (put.at + X.switch.latency) put.frame)
          (λ put k e. let old = k e in let delay = X.delay in (omega (arith, old.0), old.1)) (arrivals_in earlier.outlet.ahead.byte_ns earlier.port (events f n earlier.to)) a

      at-switch : (x.opening earlier.to).equipment ≡ Switch X.switch
      at-switch = ap (λ z. (x.opening z).equipment) (sym X.from_there) ∙ X.is

      line-is : (line : ℕ) (r : Priority) → IsThroughSwitch X.switch h.from_port v line r → line ≡ earlier.port
      line-is line r s =
          let same : s.transit ≡ X.transit = same_Some s.transit X.transit (sym s.is ∙ X.goes) in
          s.line_is ∙ (ap (λ (z : Transit). z.input) same ∙ X.comes_in)

      puts : (r : Priority) → Every (λ put. IsAged (age + h.before) put.at put.frame) (puts_with r (trace_at x h.from h.from_port h.outlet n))
      puts r =
          every-weaker (λ put. IsPutFit x L N size O h.from h.from_port H.from_inside h.outlet.ahead.byte_ns r put × (put.line ≡ earlier.port → IsAged (age + h.before) put.at put.frame)) (λ put. IsAged (age + h.before) put.at put.frame)
          (λ put k e. k.1 (line-is put.line r (subst (λ z. IsThroughSwitch X.switch h.from_port z put.line r) e (subst (λ z. IsThrough z h.from_port (link_of put) put.line r) X.is k.0.through))) e)
          (puts_with r (trace_at x h.from h.from_port h.outlet n))
          (every-both (λ put. IsPutFit x L N size O h.from h.from_port H.from_inside h.outlet.ahead.byte_ns r put) (λ put. put.line ≡ earlier.port → IsAged (age + h.before) put.at put.frame) (puts_with r (trace_at x h.from h.from_port h.outlet n))
          (fits x L N size O h.from h.from_port h.outlet H.from_inside n r)
          (subst (λ z. Every (λ put. put.line ≡ earlier.port → IsAged (age + h.before) put.at put.frame) (puts_with r (trace_at x z h.from_port h.outlet n))) (sym X.from_there)
          (puts-have x L earlier.from earlier.from_port earlier.by earlier.to earlier.port E.from_inside E.by_inside E.to_inside N earlier.outlet earlier.line E.way X.switch at-switch h.from_port
          (IsAged (age + h.before)) h.outlet.ahead.byte_ns h.outlet.port r n came)))

  first-priority : (h : Hop) → IsFirstHop x h → (line : ℕ) (r : Priority) → IsThrough (x.opening h.from).equipment h.from_port v line r → r ≡ h.priority
  first-priority h F line r t = go (subst (λ z. IsThrough z h.from_port v line r) F.is t)
    where
      go : IsSentBy F.end_system h.from_port v line r → r ≡ h.priority
      go s = s.low ∙ sym F.low

  next-priority : (earlier h : Hop) → IsNextHop x v earlier h → (line : ℕ) (r : Priority) → IsThrough (x.opening h.from).equipment h.from_port v line r → r ≡ h.priority
  next-priority earlier h X line r t = go (subst (λ z. IsThrough z h.from_port v line r) X.is t)
    where
      go : IsThroughSwitch X.switch h.from_port v line r → r ≡ h.priority
      go s =
          let same : s.transit ≡ X.transit = same_Some s.transit X.transit (sym s.is ∙ X.goes) in
          s.priority_is ∙ (ap (λ (z : Transit). z.priority) same ∙ sym X.priority)

  -- each frame of the virtual link that comes over the route is no older than the way takes
  pub ages : (h : Hop) (earlier : List Hop) → IsRoute x size v (h ∷ earlier) → IsHeld (source_of (h ∷ earlier)) → AllComeAged h.outlet.ahead.byte_ns h.to h.port (way_time (h ∷ earlier))
  ages h [] R held =
      subst (AllComeAged h.outlet.ahead.byte_ns h.to h.port) (let at_once = R.1.at_once in omega arith)
      (over-hop h R.0 0 (first-priority h R.1) (first-puts h R.0 R.1 held))
  ages h (e ∷ rest) R held =
      subst (AllComeAged h.outlet.ahead.byte_ns h.to h.port) (omega arith)
      (over-hop h R.0 (way_time (e ∷ rest) + h.before) (next-priority e h R.1)
      (next-puts e h (hop-of e rest R.2) R.0 R.1 (way_time (e ∷ rest)) (ages e rest R.2 held)))
    where
      hop-of : (e : Hop) (rest : List Hop) → IsRoute x size v (e ∷ rest) → IsHop x size v e
      hop-of e [] k = k.0
      hop-of e (d ∷ rest) k = k.0
