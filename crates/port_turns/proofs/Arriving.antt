-- Why frames come by a line one after the other: they are some of those that started at the port before it, each later by the same time.
use Rattle.std.proofs.Common.{◌≡◌, ℕ, ◌+◌, ◌*◌, ◌<◌, ◌≤◌, ◌==◌, Bool, true, false, cond, List, [], ◌∷◌, ◌++◌, filter, map, Option, Some, None, refl, sym, ap, ◌∙◌, subst, arith, eq-eqb, eqb-true}
use Rattle.std.proofs.lemmas.Bool.{false≢true}
use Rattle.std.specs.Prelude.{⊤}
use Rattle.std.specs.List.{list_any}
use Rattle.vlink.specs.Wire.{busy_for, last_bit_after}
use Rattle.vlink.specs.declared.frame.Frame.{Frame}
use Rattle.vlink.specs.declared.message.Message.{Message}
use Rattle.vlink.specs.declared.message.Body.{Body}
use Rattle.vlink.specs.declared.message.Body.TheVariants.{Arrive, Carry}
use Rattle.vlink.specs.declared.note.Note.{Note}
use Rattle.vlink.specs.declared.note.Cause.TheVariants as cause
use Rattle.reverse.specs.Sending.{Wish, loss}
use Rattle.reverse.specs.Rules.{rules_of}
use Rattle.reverse.specs.Setting.{Setting, simulation_of}
use Rattle.virtual_time.specs.Law.{Laws, Simulation, events, one, reached}
use Rattle.timers.specs.Channel.{IsChannel}
use Rattle.port_bounds.specs.Frames.{PutFrame}
use Rattle.port_bounds.specs.Sublists.{Every, IsSublist}
use Rattle.port_bounds.specs.Arrivals.{IsAfter, IsSerial}
use Rattle.port_bounds.specs.Port.{Start, idle, starts_of}
use Rattle.port_bounds.specs.Starts.{AreApart}
use Rattle.port_bounds.proofs.ArrivalLemmas.{fewer-serial}
use Rattle.port_bounds.proofs.StartLemmas.{apart, high-put, low-put, starts-both}
use Rattle.port_bounds.proofs.SublistLemmas.{every-sub, sub-trans}
use Rattle.element_bounds.specs.PortTrace.{FrameStart, PortEventAt, put_at, started_of, trace_of}
use Rattle.element_bounds.proofs.TraceLemmas as trace
use Rattle.element_bounds.proofs.TraceLemmas.{costed}
use Rattle.nodes.specs.declared.equipment.Equipment.{Equipment}
use Rattle.nodes.specs.declared.equipment.Equipment.TheVariants.{EndSystem, Switch, Line}
use Rattle.nodes.specs.declared.node.NodeRecord.{NodeRecord}
use Rattle.nodes.specs.declared.ports.Outlet.{Outlet}
use Rattle.nodes.specs.rules.Line.{LineState, is_within, line}
use Rattle.nodes.specs.rules.Node.{NodeState, after, handled}
use Rattle.nodes.specs.undoing.Node.{node}
use Rattle.output_port.specs.Port.{PortState}
use Rattle.port_turns.specs.Nodes.{IsOfNodes}
use Rattle.port_turns.specs.PortRuns.{port_events}
use Rattle.port_turns.specs.Arrivals.{IsWay, arrival_in, arrivals_in}
use Rattle.port_turns.proofs.Carrying.{AllLead, carried, carries, is_carry, lead-reached, none-carries}
use Rattle.port_turns.proofs.Channels.{IsAlone, channel, come}
use Rattle.port_turns.proofs.Elsewhere.{all-elsewhere}
use Rattle.port_turns.proofs.PortRuns.{are_ports_served}
use Rattle.port_turns.proofs.Rising.{AreTo, events-from, events-to}
use Rattle.port_turns.proofs.SentKinds.{AreFrom, as_wish, flat, flat-next, flat-sub, from-sooner, from-sub, is_to, mine, moments-times, moments_of, sub-filter, sub-map, wished, wished-sub}

-- ---- what a line makes of the frames that it carries

abbrev pub is_arrive : ℕ → Body → Bool
is_arrive j (Arrive p frame) = p == j
is_arrive j _ = false

module _ (l : LineState) where
  abbrev through : ℕ → Body → List Wish
  through t (Carry frame) = record { time = t + l.propagation; receiver = l.to; body = Arrive l.to_port frame } ∷ []
  through t _ = []

  not-through : (t : ℕ) (b : Body) → is_carry b ≡ false → through t b ≡ []
  not-through t (Carry frame) e = absurd (let z : ⊥ = cc in z)
  not-through t _ e = refl

  -- a frame comes, later by the propagation, where no outage takes it
  one-through : (test : Wish → Bool) (t : ℕ) (b : Body) → IsSublist (filter test (line t b l).wishes) (through t b)
  one-through test t (Carry frame) = go (list_any (is_within t) l.outages)
    where
      go : (b : Bool) → IsSublist (filter test (cond b (loss cause.Outage frame) (record { wishes = through t (Carry frame); notes = [] })).wishes) (through t (Carry frame))
      go true = tt
      go false = sub-filter test (through t (Carry frame))
  one-through test t _ = tt

  pub line-stays : (s : NodeState) (ms : List Message) → s.equipment ≡ Line l → (reached (rules_of node) s ms).equipment ≡ Line l
  line-stays s [] e = e
  line-stays s (m ∷ ms) e = line-stays (after s m) ms (ap (λ z. (handled s.sender.number m z).equipment) e)

  -- what the line sends
  line-sends : (j r k : ℕ) (s : NodeState) (ms : List Message) → s.equipment ≡ Line l → AreTo k ms → IsSublist (wished (is_arrive j) r s ms) (flat through (map as_wish (filter (is_to is_carry k) ms)))
  line-sends j r k s [] e to = tt
  line-sends j r k s (m ∷ ms) e to =
      subst (IsSublist (wished (is_arrive j) r s (m ∷ ms))) (sym (flat-next is_carry k through not-through m ms to.0))
      (wished-sub (is_arrive j) r s m ms (through m.time m.body) (flat through (map as_wish (filter (is_to is_carry k) ms)))
      (subst (λ z. IsSublist (filter (mine (is_arrive j) r) (handled s.sender.number m z).reply.wishes) (through m.time m.body)) (sym e) (one-through (mine (is_arrive j) r) m.time m.body))
      (line-sends j r k (after s m) ms (ap (λ z. (handled s.sender.number m z).equipment) e) to.1))

  -- its moments do not fall where theirs do not
  through-from : (t : ℕ) (ws : List Wish) → AreFrom t (moments_of ws) → AreFrom (t + l.propagation) (moments_of (flat through ws))
  through-from t [] h = tt
  through-from t (w ∷ ws) h = go w.body (through-from w.time ws h.1)
    where
      go : (b : Body) → AreFrom (w.time + l.propagation) (moments_of (flat through ws)) → AreFrom (t + l.propagation) (moments_of (through w.time b ++ flat through ws))
      go (Carry frame) k = (omega (arith, h.0), k)
      go _ k = from-sooner (t + l.propagation) (w.time + l.propagation) (moments_of (flat through ws)) (omega (arith, h.0)) k

-- ---- the starts at the port before the line

-- a start, as it is told of a real port
abbrev told : Start → FrameStart
told s = record { frame = s.put.frame; at = s.at }

module _ (byte_ns : ℕ) where
  abbrev Costed : Start → Type 0
  Costed s = s.put.cost ≡ busy_for s.put.frame.size byte_ns

  all-costed : (p : PortState) (es : List PortEventAt) → Every Costed (starts_of idle (trace_of byte_ns p es))
  all-costed p es =
      let a = costed byte_ns p es in
      let cost : PutFrame → Type 0 = λ x. x.cost ≡ busy_for x.frame.size byte_ns in
      starts-both Costed idle (trace_of byte_ns p es) (high-put cost (trace_of byte_ns p es) a.high) (low-put cost (trace_of byte_ns p es) a.low)

  carried-from : (k t : ℕ) (ss : List Start) → AreApart t ss → Every Costed ss → AreFrom t (moments_of (map (carried k byte_ns) (map told ss)))
  carried-from k t [] h c = tt
  carried-from k t (s ∷ ss) h c =
      let cost = c.0 in (
        omega (arith, h.0),
        from-sooner (s.at + last_bit_after s.put.frame.size byte_ns) (s.at + s.put.cost) _ (omega arith) (carried-from k (s.at + s.put.cost) ss h.1 c.1),
      )

  -- how a frame that starts comes to port j, so long after its last bit left
  abbrev coming : ℕ → ℕ → FrameStart → PutFrame
  coming j delay s = put_at byte_ns ((s.at + last_bit_after s.frame.size byte_ns) + delay) j s.frame

  -- the frame before came not too late for a start from t on
  abbrev IsBefore : ℕ → Option ℕ → ℕ → Type 0
  IsBefore delay None t = ⊤
  IsBefore delay (Some last) t = last + 12 * byte_ns ≤ t + delay

  coming-serial : (j delay : ℕ) (last : Option ℕ) (t : ℕ) (ss : List Start) → IsBefore delay last t → AreApart t ss → Every Costed ss → IsSerial last (λ x. true) (map (coming j delay) (map told ss))
  coming-serial j delay last t [] b h c = tt
  coming-serial j delay last t (s ∷ ss) b h c =
      let cost = c.0 in (
        λ e. after-last last b,
        coming-serial j delay (Some ((s.at + last_bit_after s.put.frame.size byte_ns) + delay)) (s.at + s.put.cost) ss (omega arith) h.1 c.1,
      )
    where
      after-last : (last : Option ℕ) → IsBefore delay last t → IsAfter last (coming j delay (told s))
      after-last None b = tt
      after-last (Some u) b = omega (arith, h.0)

-- what comes to a port is made of the messages that bring frames to it
arrivals-are : (byte_ns j r : ℕ) (ms : List Message) → AreTo r ms → arrivals_in byte_ns j ms ≡ flat (arrival_in byte_ns j) (map as_wish (filter (is_to (is_arrive j) r) ms))
arrivals-are byte_ns j r [] to = refl
arrivals-are byte_ns j r (m ∷ ms) to = ap (λ z. arrival_in byte_ns j m.time m.body ++ z) (arrivals-are byte_ns j r ms to.1) ∙ sym (flat-next (is_arrive j) r (arrival_in byte_ns j) none m ms to.0)
  where
    none : (t : ℕ) (b : Body) → is_arrive j b ≡ false → arrival_in byte_ns j t b ≡ []
    none t (Arrive p frame) e = ap (λ c. cond c (put_at byte_ns t j frame ∷ []) []) e
    none t _ e = refl

-- each start brings one frame
come-through : (byte_ns k : ℕ) (l : LineState) (j : ℕ) → l.to_port ≡ j → (ss : List FrameStart) →
    flat (arrival_in byte_ns j) (flat (through l) (map (carried k byte_ns) ss)) ≡ map (coming byte_ns j l.propagation) ss
come-through byte_ns k l j e [] = refl
come-through byte_ns k l j e (s ∷ ss) = rw (eq-eqb l.to_port j e) (ap (λ z. coming byte_ns j l.propagation s ∷ z) (come-through byte_ns k l j e ss))

-- a line was always that line
pub line-was : (l : LineState) (s : NodeState) (ms : List Message) → (reached (rules_of node) s ms).equipment ≡ Line l → s.equipment ≡ Line l
line-was l s [] e = e
line-was l s (m ∷ ms) e = go s.equipment (line-was l (after s m) ms e)
  where
    go : (q : Equipment) → (handled s.sender.number m q).equipment ≡ Line l → q ≡ Line l
    go (EndSystem z) h = absurd (let z : ⊥ = cc in z)
    go (Switch z) h = absurd (let z : ⊥ = cc in z)
    go (Line z) h = h

module _ (x : Setting NodeState) (L : Laws (simulation_of (rules_of node) x)) (p q k r j : ℕ) (inside : p < x.processes) (line-inside : k < x.processes) (N : IsOfNodes x) (outlet : Outlet) (l : LineState) (W : IsWay x p q k r j outlet l) where
  abbrev f : Simulation Message NodeState NodeRecord Note
  f = simulation_of (rules_of node) x

  -- the frames that start at the port, and the starts of the port that is the same
  abbrev asked : ℕ → List PortEventAt
  asked n = port_events q (x.opening p) (events f n p)

  abbrev starts : ℕ → List FrameStart
  starts n = started_of outlet.port (asked n)

  abbrev starts' : ℕ → List Start
  starts' n = starts_of idle (trace_of outlet.ahead.byte_ns outlet.port (asked n))

  starts-are : (n : ℕ) → starts n ≡ map told (starts' n)
  starts-are n = (trace.same outlet.ahead.byte_ns outlet.port idle (asked n) W.empty).1

  starts-apart : (n : ℕ) → AreApart 0 (starts' n)
  starts-apart n = apart (trace_of outlet.ahead.byte_ns outlet.port (asked n)) 0 None [] [] (are_ports_served x p q L inside N outlet W.port W.empty n)

  -- into the line
  carry-sub : (n : ℕ) → IsSublist (wished is_carry k (x.opening p) (events f n p)) (map (carried k outlet.ahead.byte_ns) (starts n))
  carry-sub n = carries q k (x.opening p) outlet (events f n p) (λ i other is d e. d (W.only_port p i other inside is e).1) W.port W.into

  carry-from : (n : ℕ) → AreFrom 0 (moments_of (wished is_carry k (x.opening p) (events f n p)))
  carry-from n =
      from-sub 0 _ _ (sub-map (λ (w : Wish). w.time) _ _ (carry-sub n))
      (subst (λ z. AreFrom 0 (moments_of (map (carried k outlet.ahead.byte_ns) z))) (sym (starts-are n)) (carried-from outlet.ahead.byte_ns k 0 (starts' n) (starts-apart n) (all-costed outlet.ahead.byte_ns outlet.port (asked n))))

  carry-alone : IsAlone x L N p k inside is_carry
  carry-alone = record {
    others = λ i inside' d s h m. none-carries q k i m s.equipment (subst (λ z. AllLead (λ i ahead. ahead.line ≡ k → ⊥) z.equipment) (sym h.1)
        (lead-reached (λ i ahead. ahead.line ≡ k → ⊥) (x.opening i) h.0 (λ i' other is e. d (W.only_port i i' other inside' is e).0)));
    not_offered = λ vl size sub. refl;
  }

  pub carry-channel : IsChannel f p k (is_to is_carry k)
  carry-channel = channel x L N p k inside is_carry carry-alone 0 carry-from

  carry-come : (n : ℕ) → IsSublist (map as_wish (filter (is_to is_carry k) (events f n k))) (wished is_carry k (x.opening p) (events f n p))
  carry-come n = come x L N p k inside is_carry carry-alone 0 carry-from n

  -- and out of it
  arrive-sub : (n : ℕ) → IsSublist (wished (is_arrive j) r (x.opening k) (events f n k)) (flat (through l) (map as_wish (filter (is_to is_carry k) (events f n k))))
  arrive-sub n = line-sends l j r k (x.opening k) (events f n k) W.line_is (events-to k (one f n).handled)

  arrive-from : (n : ℕ) → AreFrom (0 + l.propagation) (moments_of (wished (is_arrive j) r (x.opening k) (events f n k)))
  arrive-from n =
      from-sub _ _ _ (sub-map (λ (w : Wish). w.time) _ _ (arrive-sub n))
      (through-from l 0 (map as_wish (filter (is_to is_carry k) (events f n k)))
      (subst (AreFrom 0) (sym (moments-times (filter (is_to is_carry k) (events f n k))))
      (from-sub 0 _ _ (sub-map (λ (m : Message). m.time) _ _ (sub-filter (is_to is_carry k) (events f n k))) (events-from x k L n))))

  pub arrive-alone : IsAlone x L N k r line-inside (is_arrive j)
  arrive-alone = record {
    others = λ i inside' d s h m. all-elsewhere (is_arrive j) (record { no_release = λ vl. refl; no_free = λ k. refl; no_carry = λ frame. refl }) r i m s.equipment
        (λ i' frame own. absurd (false≢true own))
        (λ other is frame brought to. d (W.only_line i other inside' (line-was other (x.opening i) h.0 (sym (ap (λ (z : NodeState). z.equipment) h.1) ∙ is)) to (eqb-true other.to_port j brought)));
    not_offered = λ vl size sub. refl;
  }

  arrive-come : (n : ℕ) → IsSublist (map as_wish (filter (is_to (is_arrive j) r) (events f n r))) (wished (is_arrive j) r (x.opening k) (events f n k))
  arrive-come n = come x L N k r line-inside (is_arrive j) arrive-alone (0 + l.propagation) arrive-from n

  pub arrive-channel : IsChannel f k r (is_to (is_arrive j) r)
  arrive-channel = channel x L N k r line-inside (is_arrive j) arrive-alone (0 + l.propagation) arrive-from

  -- what comes is some of what started, later by its last bit and by the propagation
  arrivals-sub : (n : ℕ) → IsSublist (arrivals_in outlet.ahead.byte_ns j (events f n r)) (map (coming outlet.ahead.byte_ns j l.propagation) (map told (starts' n)))
  arrivals-sub n =
      subst (λ z. IsSublist z (map (coming outlet.ahead.byte_ns j l.propagation) (map told (starts' n)))) (sym (arrivals-are outlet.ahead.byte_ns j r (events f n r) (events-to r (one f n).handled)))
      (subst (IsSublist (flat (arrival_in outlet.ahead.byte_ns j) (map as_wish (filter (is_to (is_arrive j) r) (events f n r)))))
      (come-through outlet.ahead.byte_ns k l j W.to_port (starts n) ∙ ap (map (coming outlet.ahead.byte_ns j l.propagation)) (starts-are n))
      (flat-sub (arrival_in outlet.ahead.byte_ns j) _ _ (sub-trans _ _ _ (arrive-come n) (sub-trans _ _ _ (arrive-sub n) (flat-sub (through l) _ _ (sub-trans _ _ _ (carry-come n) (carry-sub n)))))))

  pub arrivals-serial : (n : ℕ) → IsSerial None (λ put. true) (arrivals_in outlet.ahead.byte_ns j (events f n r))
  arrivals-serial n =
      fewer-serial None (λ put. true) (arrivals_in outlet.ahead.byte_ns j (events f n r)) (map (coming outlet.ahead.byte_ns j l.propagation) (map told (starts' n))) (arrivals-sub n)
      (coming-serial outlet.ahead.byte_ns j l.propagation None 0 (starts' n) tt (starts-apart n) (all-costed outlet.ahead.byte_ns outlet.port (asked n)))

  -- what holds of each start, of the moment at which its frame comes, holds of each frame that comes
  pub arrivals-have : (P : ℕ → Frame → Type 0) (n : ℕ) →
      Every (λ s. P ((s.at + last_bit_after s.put.frame.size outlet.ahead.byte_ns) + l.propagation) s.put.frame) (starts_of idle (trace_of outlet.ahead.byte_ns outlet.port (port_events q (x.opening p) (events f n p)))) →
      Every (λ put. P put.at put.frame) (arrivals_in outlet.ahead.byte_ns j (events f n r))
  arrivals-have P n h = every-sub (λ (put : PutFrame). P put.at put.frame) _ _ (arrivals-sub n) (each (starts' n) h)
    where
      each : (ss : List Start) → Every (λ s. P ((s.at + last_bit_after s.put.frame.size outlet.ahead.byte_ns) + l.propagation) s.put.frame) ss →
          Every (λ put. P put.at put.frame) (map (coming outlet.ahead.byte_ns j l.propagation) (map told ss))
      each [] k = tt
      each (s ∷ ss) k = (k.0, each ss k.1)
