-- How old frames are that come to a node: at least as old as their way takes where nothing waits.
use Rattle.std.proofs.Common.{◌≡◌, ℕ, ◌+◌, ◌≤◌, List, [], ◌∷◌, sym, ap, ◌∙◌, subst, arith}
use Rattle.std.proofs.lemmas.Nat.{mul-le}
use Rattle.std.proofs.lemmas.Option.{same_Some}
use Rattle.vlink.specs.Wire.{last_bit_after}
use Rattle.vlink.specs.declared.frame.Frame.{Frame}
use Rattle.vlink.specs.declared.message.Message.{Message}
use Rattle.vlink.specs.declared.note.Note.{Note}
use Rattle.output_port.specs.declared.event.Priority.{Priority}
use Rattle.output_port.specs.declared.event.Priority.TheVariants.{High, Low}
use Rattle.reverse.specs.Rules.{rules_of}
use Rattle.reverse.specs.Setting.{Setting, simulation_of}
use Rattle.virtual_time.specs.Law.{Laws, Simulation, events}
use Rattle.port_bounds.specs.Frames.{PutFrame, link_of}
use Rattle.port_bounds.specs.Port.{IsServed, Start, high_starts, idle, low_starts}
use Rattle.port_bounds.specs.Sublists.{Every}
use Rattle.port_bounds.proofs.StartLemmas.{high-put, low-put, starts-both}
use Rattle.port_bounds.proofs.SublistLemmas.{every-both, every-weaker}
use Rattle.nodes.specs.declared.equipment.Equipment.TheVariants.{Switch}
use Rattle.nodes.specs.declared.node.NodeRecord.{NodeRecord}
use Rattle.nodes.specs.declared.ports.Outlet.{Outlet}
use Rattle.nodes.specs.declared.transit.Transit.{Transit}
use Rattle.nodes.specs.rules.Node.{NodeState}
use Rattle.nodes.specs.undoing.Node.{node}
use Rattle.port_turns.specs.Arrivals.{arrivals_in}
use Rattle.port_turns.specs.Nodes.{IsOfNodes}
use Rattle.port_turns.specs.PortRuns.{puts_with}
use Rattle.port_turns.proofs.Arriving.{arrivals-have}
use Rattle.port_turns.proofs.SerialPuts.{puts-have}
use Rattle.frame_ages.specs.Ports.{IsThrough, IsThroughSwitch, trace_at}
use Rattle.frame_ages.specs.Sizes.{OpensEmpty, Sizes}
use Rattle.frame_ages.specs.Ways.{Hop, IsFirstHop, IsHop, IsNextHop, IsRoute}
use Rattle.frame_ages.proofs.GivenLemmas.{fits}
use Rattle.frame_ages.proofs.PutLemmas.{IsFresh, IsPutFit}
use Rattle.frame_ages.proofs.SizeLemmas.{idle-at}
use Rattle.port_turns.proofs.PortRuns.{are_ports_served}
use Rattle.least_ages.specs.Ages.{way_least}
use Rattle.least_ages.proofs.OfferTimes.{offered-first}
use Rattle.least_ages.proofs.StartTimes.{IsInOrder, idle-in-order}

module _ (x : Setting NodeState) (L : Laws (simulation_of (rules_of node) x)) (N : IsOfNodes x) (size : ℕ → Sizes) (O : OpensEmpty x size) (v : ℕ) (n : ℕ) where
  abbrev f : Simulation Message NodeState NodeRecord Note
  f = simulation_of (rules_of node) x

  -- a frame of the virtual link that is at this place at moment t is at least as old as that, and was not released before its offer
  abbrev pub IsAged : ℕ → ℕ → Frame → Type 0
  IsAged age t frame = frame.vl.0 ≡ v → (frame.offered ≤ frame.released) × (frame.released + age ≤ t)

  record AllPutsAged (p q : ℕ) (outlet : Outlet) (age : ℕ) : Type 0 where
    high : Every (λ put. IsAged age put.at put.frame) (puts_with High (trace_at x p q outlet n))
    low : Every (λ put. IsAged age put.at put.frame) (puts_with Low (trace_at x p q outlet n))

  abbrev AllComeAged : ℕ → ℕ → ℕ → ℕ → Type 0
  AllComeAged byte_ns to port age = Every (λ put. IsAged age put.at put.frame) (arrivals_in byte_ns port (events f n to))

  -- ---- over one hop

  module _ (h : Hop) (H : IsHop x size v h) (age : ℕ) where
    abbrev byte_ns : ℕ
    byte_ns = h.outlet.ahead.byte_ns

    abbrev Fit : Priority → PutFrame → Type 0
    Fit r put = IsPutFit x L N size O h.from h.from_port H.from_inside byte_ns r put

    abbrev Comes : Start → Type 0
    Comes s = IsAged (age + (last_bit_after (size v).least byte_ns + h.line.propagation)) ((s.at + last_bit_after s.put.frame.size byte_ns) + h.line.propagation) s.put.frame

    served : IsServed idle 0 (trace_at x h.from h.from_port h.outlet n)
    served = are_ports_served x h.from h.from_port L H.from_inside N h.outlet H.way.port (idle-at (x.opening h.from).equipment h.from_port h.outlet (O.ports h.from H.from_inside) H.way.port) n

    -- its last bit leaves no sooner than that of the least frame
    bits-at : (r : Priority) (put : PutFrame) → Fit r put → put.frame.vl.0 ≡ v → last_bit_after (size v).least byte_ns ≤ last_bit_after put.frame.size byte_ns
    bits-at r put fit e =
        let least : (size v).least ≡ (size (link_of put)).least = ap (λ z. (size z).least) (sym e) in
        let sized = fit.sized.0 in
        mul-le ((size v).least + 8) byte_ns (put.frame.size + 8) byte_ns (omega arith) (omega arith)

    come : (r : Priority) (ss : List Start) → Every (λ s. Fit r s.put) ss → Every (λ s. IsAged age s.put.at s.put.frame) ss → Every IsInOrder ss → Every Comes ss
    come r ss k a o =
        every-weaker (λ s. Fit r s.put × (IsAged age s.put.at s.put.frame × IsInOrder s)) Comes
        (λ s k e. let bits = bits-at r s.put k.0 e in let old = k.1.0 e in let order = k.1.1 in (old.0, omega (arith, old.1))) ss
        (every-both (λ s. Fit r s.put) (λ s. IsAged age s.put.at s.put.frame × IsInOrder s) ss k (every-both (λ s. IsAged age s.put.at s.put.frame) IsInOrder ss a o))

    over-hop : AllPutsAged h.from h.from_port h.outlet age → AllComeAged byte_ns h.to h.port (age + (last_bit_after (size v).least byte_ns + h.line.propagation))
    over-hop a =
        arrivals-have x L h.from h.from_port h.by h.to h.port H.from_inside H.by_inside N h.outlet h.line H.way (IsAged (age + (last_bit_after (size v).least byte_ns + h.line.propagation))) n
        (starts-both Comes idle (trace_at x h.from h.from_port h.outlet n)
        (come High (high_starts idle (trace_at x h.from h.from_port h.outlet n)) (high-put (Fit High) (trace_at x h.from h.from_port h.outlet n) (fits x L N size O h.from h.from_port h.outlet H.from_inside n High))
        (high-put (λ put. IsAged age put.at put.frame) (trace_at x h.from h.from_port h.outlet n) a.high) (idle-in-order (trace_at x h.from h.from_port h.outlet n) served).0)
        (come Low (low_starts idle (trace_at x h.from h.from_port h.outlet n)) (low-put (Fit Low) (trace_at x h.from h.from_port h.outlet n) (fits x L N size O h.from h.from_port h.outlet H.from_inside n Low))
        (low-put (λ put. IsAged age put.at put.frame) (trace_at x h.from h.from_port h.outlet n) a.low) (idle-in-order (trace_at x h.from h.from_port h.outlet n) served).1))

  -- ---- over a way

  abbrev PutFits : (h : Hop) → IsHop x size v h → Priority → PutFrame → Type 0
  PutFits h H r put = IsPutFit x L N size O h.from h.from_port H.from_inside h.outlet.ahead.byte_ns r put

  first-puts : (h : Hop) → IsHop x size v h → IsFirstHop x h → AllPutsAged h.from h.from_port h.outlet 0
  first-puts h H F = record {
    high = fresh-puts High;
    low = fresh-puts Low;
  }
    where
      fresh-puts : (r : Priority) → Every (λ put. IsAged 0 put.at put.frame) (puts_with r (trace_at x h.from h.from_port h.outlet n))
      fresh-puts r = every-weaker (λ put. PutFits h H r put × (put.frame.offered ≤ put.frame.released)) (λ put. IsAged 0 put.at put.frame)
          (λ put k e. (k.1, (let fresh : put.frame.released ≡ put.at = subst (λ z. IsFresh x L N size O h.from h.from_port H.from_inside h.outlet.ahead.byte_ns z put) F.is k.0.fresh in omega arith)))
          (puts_with r (trace_at x h.from h.from_port h.outlet n))
          (every-both (PutFits h H r) (λ put. put.frame.offered ≤ put.frame.released) (puts_with r (trace_at x h.from h.from_port h.outlet n))
          (fits x L N size O h.from h.from_port h.outlet H.from_inside n r)
          (offered-first x L N size O h.from h.from_port h.outlet H.from_inside n F.end_system F.is r))

  -- what is put to the port of a switch came by the line before
  next-puts : (earlier h : Hop) → IsHop x size v earlier → IsHop x size v h → (X : IsNextHop x v earlier h) → (age : ℕ) → AllComeAged earlier.outlet.ahead.byte_ns earlier.to earlier.port age → AllPutsAged h.from h.from_port h.outlet (age + h.before)
  next-puts earlier h E H X age a = record { high = puts High; low = puts Low }
    where
      came : Every (λ put. IsAged (age + h.before) (put.at + X.switch.latency) put.frame) (arrivals_in earlier.outlet.ahead.byte_ns earlier.port (events f n earlier.to))
      came = every-weaker (λ put. IsAged age put.at put.frame) (λ put. IsAged (age + h.before) (put.at + X.switch.latency) put.frame)
          (λ put k e. let old = k e in let delay = X.delay in (old.0, omega (arith, old.1))) (arrivals_in earlier.outlet.ahead.byte_ns earlier.port (events f n earlier.to)) a

      at-switch : (x.opening earlier.to).equipment ≡ Switch X.switch
      at-switch = ap (λ z. (x.opening z).equipment) (sym X.from_there) ∙ X.is

      line-is : (line : ℕ) (r : Priority) → IsThroughSwitch X.switch h.from_port v line r → line ≡ earlier.port
      line-is line r s =
          let same : s.transit ≡ X.transit = same_Some s.transit X.transit (sym s.is ∙ X.goes) in
          s.line_is ∙ (ap (λ (z : Transit). z.input) same ∙ X.comes_in)

      puts : (r : Priority) → Every (λ put. IsAged (age + h.before) put.at put.frame) (puts_with r (trace_at x h.from h.from_port h.outlet n))
      puts r =
          every-weaker (λ put. IsPutFit x L N size O h.from h.from_port H.from_inside h.outlet.ahead.byte_ns r put × (put.line ≡ earlier.port → IsAged (age + h.before) put.at put.frame)) (λ put. IsAged (age + h.before) put.at put.frame)
          (λ put k e. k.1 (line-is put.line r (subst (λ z. IsThroughSwitch X.switch h.from_port z put.line r) e (subst (λ z. IsThrough z h.from_port (link_of put) put.line r) X.is k.0.through))) e)
          (puts_with r (trace_at x h.from h.from_port h.outlet n))
          (every-both (λ put. IsPutFit x L N size O h.from h.from_port H.from_inside h.outlet.ahead.byte_ns r put) (λ put. put.line ≡ earlier.port → IsAged (age + h.before) put.at put.frame) (puts_with r (trace_at x h.from h.from_port h.outlet n))
          (fits x L N size O h.from h.from_port h.outlet H.from_inside n r)
          (subst (λ z. Every (λ put. put.line ≡ earlier.port → IsAged (age + h.before) put.at put.frame) (puts_with r (trace_at x z h.from_port h.outlet n))) (sym X.from_there)
          (puts-have x L earlier.from earlier.from_port earlier.by earlier.to earlier.port E.from_inside E.by_inside E.to_inside N earlier.outlet earlier.line E.way X.switch at-switch h.from_port
          (IsAged (age + h.before)) h.outlet.ahead.byte_ns h.outlet.port r n came)))

  pub ages : (h : Hop) (earlier : List Hop) → IsRoute x size v (h ∷ earlier) → AllComeAged h.outlet.ahead.byte_ns h.to h.port (way_least (size v).least (h ∷ earlier))
  ages h [] R =
      subst (AllComeAged h.outlet.ahead.byte_ns h.to h.port) (let at_once = R.1.at_once in omega arith)
      (over-hop h R.0 0 (first-puts h R.0 R.1))
  ages h (e ∷ rest) R =
      subst (AllComeAged h.outlet.ahead.byte_ns h.to h.port) (omega arith)
      (over-hop h R.0 (way_least (size v).least (e ∷ rest) + h.before)
      (next-puts e h (hop-of e rest R.2) R.0 R.1 (way_least (size v).least (e ∷ rest)) (ages e rest R.2)))
    where
      hop-of : (e : Hop) (rest : List Hop) → IsRoute x size v (e ∷ rest) → IsHop x size v e
      hop-of e [] k = k.0
      hop-of e (d ∷ rest) k = k.0
