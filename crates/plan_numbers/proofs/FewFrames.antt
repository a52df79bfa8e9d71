-- No more frames start at a port, and no more come to one, than a run has moments.
use Rattle.std.proofs.Common.{◌≡◌, ℕ, ◌+◌, ◌<◌, ◌≤◌, ◌==◌, min, Bool, true, false, cond, List, [], ◌∷◌, ◌++◌, length, map, Option, Some, None, refl, ap, subst, arith, mul-pos}
use Rattle.vlink.specs.Wire.{busy_for}
use Rattle.vlink.specs.declared.message.Message.{Message}
use Rattle.vlink.specs.declared.message.Body.{Body}
use Rattle.vlink.specs.declared.message.Body.TheVariants.{Offer, Release, PortFree, Arrive, Enqueue, Carry}
use Rattle.vlink.specs.Order.{message_order}
use Rattle.reverse.specs.Rules.{rules_of}
use Rattle.reverse.specs.Setting.{Setting, simulation_of}
use Rattle.virtual_time.specs.Law.{IsIn, IsOrder, Laws, events, one}
use Rattle.virtual_time.proofs.Lists.{in-filter, in-head}
use Rattle.virtual_time.proofs.OneThread.{right}
use Rattle.output_port.specs.Port.{PortState, port}
use Rattle.output_port.specs.declared.event.PortEvent.{PortEvent}
use Rattle.output_port.specs.declared.event.PortAnswer.{PortAnswer}
use Rattle.output_port.specs.declared.event.PortAnswer.TheVariants as answer
use Rattle.nodes.specs.declared.ports.Outlet.{Outlet}
use Rattle.nodes.specs.rules.Line.{LineState}
use Rattle.nodes.specs.rules.Node.{NodeState, after}
use Rattle.nodes.specs.undoing.Node.{node}
use Rattle.port_bounds.specs.Arrivals.{IsSerial}
use Rattle.port_bounds.specs.Frames.{PutFrame}
use Rattle.port_bounds.specs.Port.{Start, idle, starts_of}
use Rattle.port_bounds.specs.Starts.{AreApart}
use Rattle.port_bounds.specs.Sublists.{Every}
use Rattle.port_bounds.proofs.StartLemmas.{apart, high-put, low-put, starts-both}
use Rattle.element_bounds.specs.PortTrace.{FrameStart, IsSamePort, PortEventAt, put_at, started_by, started_of, trace_of}
use Rattle.element_bounds.proofs.TraceLemmas as trace
use Rattle.element_bounds.proofs.TraceLemmas.{costed}
use Rattle.port_turns.specs.Arrivals.{IsWay, arrival_in, arrivals_in}
use Rattle.port_turns.specs.Nodes.{IsOfNodes}
use Rattle.port_turns.specs.PortEvents.{asks, outlet_in}
use Rattle.port_turns.specs.PortRuns.{asked_at, input_of, port_events}
use Rattle.port_turns.proofs.Arriving.{arrivals-serial, is_arrive}
use Rattle.port_turns.proofs.PortRuns.{are_ports_served}

-- the frames that start at port q of process p in the first n events, where the port is this one when the run begins
abbrev pub starts_at : Setting NodeState → ℕ → ℕ → Outlet → ℕ → List FrameStart
starts_at x p q outlet n = started_of outlet.port (port_events q (x.opening p) (events (simulation_of (rules_of node) x) n p))

abbrev pub one_if : Bool → ℕ
one_if b = cond b 1 0

-- how many frames come to port j
abbrev pub come_to : ℕ → List Message → ℕ
come_to j [] = 0
come_to j (m ∷ ms) = one_if (is_arrive j m.body) + come_to j ms

-- ---- what takes time, one after another, up to a moment T, is no more often than there are moments

abbrev from : Option ℕ → ℕ
from None = 0
from (Some l) = l + 1

serial-few : (T : ℕ) (last : Option ℕ) (fs : List PutFrame) → from last ≤ T + 1 → IsSerial last (λ put. true) fs → Every (λ (f : PutFrame). f.at ≤ T) fs →
    Every (λ (f : PutFrame). 1 ≤ f.cost) fs → length fs + from last ≤ T + 1
serial-few T last [] l h a c = omega arith
serial-few T None (f ∷ fs) l h a c =
    let at = a.0 in
    let rest = serial-few T (Some f.at) fs (omega arith) h.1 a.1 c.1 in
    omega arith
serial-few T (Some u) (f ∷ fs) l h a c =
    let at = a.0 in
    let cost = c.0 in
    let behind = h.0 refl in
    let rest = serial-few T (Some f.at) fs (omega arith) h.1 a.1 c.1 in
    omega arith

apart-few : (T t : ℕ) (ss : List Start) → AreApart t ss → Every (λ (s : Start). s.at ≤ T) ss → Every (λ (s : Start). 1 ≤ s.put.cost) ss → length ss + min t (T + 1) ≤ T + 1
apart-few T t [] h a c = omega arith
apart-few T t (s ∷ ss) h a c =
    let at = a.0 in
    let cost = c.0 in
    let start = h.0 in
    let rest = apart-few T (s.at + s.put.cost) ss h.1 a.1 c.1 in
    omega arith

-- ---- nothing happens after the end

module _ (T : ℕ) where
  started-timely : (p : PortState) (es : List PortEventAt) → Every (λ (e : PortEventAt). e.at ≤ T) es → Every (λ (s : FrameStart). s.at ≤ T) (started_of p es)
  started-timely p [] h = tt
  started-timely p (e ∷ es) h = go (port.out p e.event) (started-timely (port.after p e.event) es h.1)
    where
      go : (a : PortAnswer) → Every (λ (s : FrameStart). s.at ≤ T) (started_of (port.after p e.event) es) → Every (λ (s : FrameStart). s.at ≤ T) (started_by e.at a ++ started_of (port.after p e.event) es)
      go (answer.Started frame) k = (h.0, k)
      go answer.Kept k = k
      go answer.Dropped k = k
      go answer.Idle k = k
      go answer.Nothing k = k

  module _ (O : IsOrder message_order) where
    asked-timely : (q : ℕ) (s : NodeState) (ms : List Message) → ((m : Message) → IsIn message_order m ms → m.time ≤ T) → Every (λ (e : PortEventAt). e.at ≤ T) (port_events q s ms)
    asked-timely q s [] h = tt
    asked-timely q s (m ∷ ms) h = go (asks q m s.equipment) (asked-timely q (after s m) ms (λ y i. h y (omega arith)))
      where
        go : (o : Option PortEvent) → Every (λ (e : PortEventAt). e.at ≤ T) (port_events q (after s m) ms) →
            Every (λ (e : PortEventAt). e.at ≤ T) (asked_at m.time (input_of m.body s.equipment) o ++ port_events q (after s m) ms)
        go None k = k
        go (Some e) k = (h m (in-head message_order O m ms), k)

    arrivals-timely : (byte_ns j : ℕ) (ms : List Message) → ((m : Message) → IsIn message_order m ms → m.time ≤ T) → Every (λ (f : PutFrame). f.at ≤ T) (arrivals_in byte_ns j ms)
    arrivals-timely byte_ns j [] h = tt
    arrivals-timely byte_ns j (m ∷ ms) h = go m.body (arrivals-timely byte_ns j ms (λ y i. h y (omega arith)))
      where
        chosen : (b : Bool) (f : PutFrame) → f.at ≤ T → Every (λ (f : PutFrame). f.at ≤ T) (arrivals_in byte_ns j ms) →
            Every (λ (f : PutFrame). f.at ≤ T) (cond b (f ∷ []) [] ++ arrivals_in byte_ns j ms)
        chosen true f l k = (l, k)
        chosen false f l k = k

        go : (b : Body) → Every (λ (f : PutFrame). f.at ≤ T) (arrivals_in byte_ns j ms) → Every (λ (f : PutFrame). f.at ≤ T) (arrival_in byte_ns j m.time b ++ arrivals_in byte_ns j ms)
        go (Arrive q frame) k = chosen (q == j) (put_at byte_ns m.time j frame) (h m (in-head message_order O m ms)) k
        go (Offer vl size sub) k = k
        go (Release vl) k = k
        go (PortFree q) k = k
        go (Enqueue q frame) k = k
        go (Carry frame) k = k

-- ---- a frame takes at least 1 ns

module _ (byte_ns : ℕ) (slow : 1 ≤ byte_ns) where
  costs : (size : ℕ) → 1 ≤ busy_for size byte_ns
  costs size = mul-pos (omega arith) slow

  arrivals-cost : (j : ℕ) (ms : List Message) → Every (λ (f : PutFrame). 1 ≤ f.cost) (arrivals_in byte_ns j ms)
  arrivals-cost j [] = tt
  arrivals-cost j (m ∷ ms) = go m.body (arrivals-cost j ms)
    where
      chosen : (b : Bool) (f : PutFrame) → 1 ≤ f.cost → Every (λ (f : PutFrame). 1 ≤ f.cost) (arrivals_in byte_ns j ms) →
          Every (λ (f : PutFrame). 1 ≤ f.cost) (cond b (f ∷ []) [] ++ arrivals_in byte_ns j ms)
      chosen true f l k = (l, k)
      chosen false f l k = k

      go : (b : Body) → Every (λ (f : PutFrame). 1 ≤ f.cost) (arrivals_in byte_ns j ms) → Every (λ (f : PutFrame). 1 ≤ f.cost) (arrival_in byte_ns j m.time b ++ arrivals_in byte_ns j ms)
      go (Arrive q frame) k = chosen (q == j) (put_at byte_ns m.time j frame) (costs frame.size) k
      go (Offer vl size sub) k = k
      go (Release vl) k = k
      go (PortFree q) k = k
      go (Enqueue q frame) k = k
      go (Carry frame) k = k

  starts-cost : (p : PortState) (es : List PortEventAt) → Every (λ (s : Start). 1 ≤ s.put.cost) (starts_of idle (trace_of byte_ns p es))
  starts-cost p es =
      let a = costed byte_ns p es in
      let cost : PutFrame → Type 0 = λ x. x.cost ≡ busy_for x.frame.size byte_ns in
      each (starts_of idle (trace_of byte_ns p es))
      (starts-both (λ (s : Start). s.put.cost ≡ busy_for s.put.frame.size byte_ns) idle (trace_of byte_ns p es) (high-put cost (trace_of byte_ns p es) a.high) (low-put cost (trace_of byte_ns p es) a.low))
    where
      each : (ss : List Start) → Every (λ (s : Start). s.put.cost ≡ busy_for s.put.frame.size byte_ns) ss → Every (λ (s : Start). 1 ≤ s.put.cost) ss
      each [] h = tt
      each (s ∷ ss) h = (let c = h.0 in let d = costs s.put.frame.size in omega arith, each ss h.1)

-- ---- both lists have as many as these

abbrev start_of : Start → FrameStart
start_of s = record { frame = s.put.frame; at = s.at }

start-timely : (T : ℕ) (ss : List Start) → Every (λ (s : FrameStart). s.at ≤ T) (map start_of ss) → Every (λ (s : Start). s.at ≤ T) ss
start-timely T [] h = tt
start-timely T (s ∷ ss) h = (h.0, start-timely T ss h.1)

start-count : (ss : List Start) → length (map start_of ss) ≡ length ss
start-count [] = refl
start-count (s ∷ ss) = let e = start-count ss in omega arith

come-count : (byte_ns j : ℕ) (ms : List Message) → come_to j ms ≡ length (arrivals_in byte_ns j ms)
come-count byte_ns j [] = refl
come-count byte_ns j (m ∷ ms) = go m.body (come-count byte_ns j ms)
  where
    chosen : (b : Bool) (f : PutFrame) → come_to j ms ≡ length (arrivals_in byte_ns j ms) → one_if b + come_to j ms ≡ length (cond b (f ∷ []) [] ++ arrivals_in byte_ns j ms)
    chosen true f e = omega arith
    chosen false f e = omega arith

    go : (b : Body) → come_to j ms ≡ length (arrivals_in byte_ns j ms) → one_if (is_arrive j b) + come_to j ms ≡ length (arrival_in byte_ns j m.time b ++ arrivals_in byte_ns j ms)
    go (Arrive q frame) e = chosen (q == j) (put_at byte_ns m.time j frame) e
    go (Offer vl size sub) e = omega arith
    go (Release vl) e = omega arith
    go (PortFree q) e = omega arith
    go (Enqueue q frame) e = omega arith
    go (Carry frame) e = omega arith

module _ (x : Setting NodeState) (L : Laws (simulation_of (rules_of node) x)) where
  timely : (n r : ℕ) (m : Message) → IsIn message_order m (events (simulation_of (rules_of node) x) n r) → m.time ≤ x.until
  timely n r m i =
      (right (simulation_of (rules_of node) x) L n).handled_in_time m
      (in-filter message_order L.order (λ (y : Message). y.receiver == r) m (one (simulation_of (rules_of node) x) n).handled i).1

  -- at a port that is idle when the run begins
  pub starts-few : (p q : ℕ) → p < x.processes → IsOfNodes x → (outlet : Outlet) → outlet_in (x.opening p).equipment q ≡ Some outlet → IsSamePort outlet.port idle → 1 ≤ outlet.ahead.byte_ns →
      (n : ℕ) → length (starts_at x p q outlet n) ≤ x.until + 1
  starts-few p q inside N outlet is empty slow n =
      let es = port_events q (x.opening p) (events (simulation_of (rules_of node) x) n p) in
      let ss = starts_of idle (trace_of outlet.ahead.byte_ns outlet.port es) in
      let same : starts_at x p q outlet n ≡ map start_of ss = (trace.same outlet.ahead.byte_ns outlet.port idle es empty).1 in
      let in_time : Every (λ (s : FrameStart). s.at ≤ x.until) (starts_at x p q outlet n) =
      started-timely x.until outlet.port es (asked-timely x.until L.order q (x.opening p) (events (simulation_of (rules_of node) x) n p) (timely n p)) in
      let few = apart-few x.until 0 ss (apart (trace_of outlet.ahead.byte_ns outlet.port es) 0 None [] [] (are_ports_served x p q L inside N outlet is empty n))
      (start-timely x.until ss (subst (Every (λ (s : FrameStart). s.at ≤ x.until)) same in_time)) (starts-cost outlet.ahead.byte_ns slow outlet.port es) in
      let a = ap length same in
      let b = start-count ss in
      omega arith

  -- to a port to which a line leads
  pub arrivals-few : (p q k r j : ℕ) → p < x.processes → k < x.processes → IsOfNodes x → (outlet : Outlet) (line : LineState) → IsWay x p q k r j outlet line → 1 ≤ outlet.ahead.byte_ns →
      (n : ℕ) → come_to j (events (simulation_of (rules_of node) x) n r) ≤ x.until + 1
  arrivals-few p q k r j inside line-inside N outlet line W slow n =
      let ms = events (simulation_of (rules_of node) x) n r in
      let a = come-count outlet.ahead.byte_ns j ms in
      let b = serial-few x.until None (arrivals_in outlet.ahead.byte_ns j ms) (omega arith) (arrivals-serial x L p q k r j inside line-inside N outlet line W n)
      (arrivals-timely x.until L.order outlet.ahead.byte_ns j ms (timely n r)) (arrivals-cost outlet.ahead.byte_ns slow j ms) in
      omega arith
