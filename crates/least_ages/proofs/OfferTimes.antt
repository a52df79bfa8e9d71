-- An end system puts no frame to a port that it releases before its offer.
use Rattle.std.proofs.Common.{◌≡◌, ℕ, ◌≤◌, ◌<◌, List, [], ◌∷◌, ◌++◌, All, Option, Some, None, sym, ap, subst, arith}
use Rattle.std.specs.Prelude.{⊤}
use Rattle.std.proofs.lemmas.List.Elements.{All-nil, All-weaker}
use Rattle.vlink.specs.declared.frame.Frame.{Frame}
use Rattle.vlink.specs.declared.message.Message.{Message}
use Rattle.vlink.specs.declared.message.Body.{Body}
use Rattle.vlink.specs.declared.message.Body.TheVariants as body
use Rattle.vlink.specs.declared.note.Note.{Note}
use Rattle.frame_ring.specs.Queue.{Queue}
use Rattle.output_port.specs.declared.event.Priority.{Priority}
use Rattle.output_port.specs.declared.event.Priority.TheVariants.{High, Low}
use Rattle.output_port.specs.declared.event.PortEvent.{PortEvent}
use Rattle.output_port.specs.declared.event.PortEvent.TheVariants.{Put, Free}
use Rattle.reverse.specs.Rules.{rules_of}
use Rattle.reverse.specs.Setting.{Setting, simulation_of}
use Rattle.virtual_time.specs.Law.{Laws, Simulation, events}
use Rattle.port_bounds.specs.Frames.{PutFrame}
use Rattle.port_bounds.specs.Sublists.{Every}
use Rattle.element_bounds.proofs.TraceLemmas.{AllPuts, OfAsked, trace-puts}
use Rattle.nodes.specs.declared.equipment.Equipment.{Equipment}
use Rattle.nodes.specs.declared.equipment.Equipment.TheVariants.{EndSystem, Switch, Line}
use Rattle.nodes.specs.declared.node.NodeRecord.{NodeRecord}
use Rattle.nodes.specs.declared.ports.Outlet.{Outlet}
use Rattle.nodes.specs.declared.source.Source.{Source}
use Rattle.nodes.specs.rules.EndSystem.{EndSystemState}
use Rattle.nodes.specs.rules.Node.{NodeState, after, handled}
use Rattle.nodes.specs.undoing.Node.{node}
use Rattle.port_turns.specs.Nodes.{IsOfNodes}
use Rattle.port_turns.specs.PortEvents.{asks, end_system_asks}
use Rattle.port_turns.specs.PortRuns.{asked_at, input_of, port_events, puts_with}
use Rattle.port_turns.proofs.Rising.{events-from}
use Rattle.port_turns.proofs.SentKinds.{AreFrom, times_of}
use Rattle.port_turns.proofs.Sources.{AllWaitIn, HasWaiting, IsOfferFit, OfPut, source-keeps, subject}
use Rattle.frame_ages.specs.Ports.{trace_at}
use Rattle.frame_ages.specs.Sizes.{HaveEmptyRegulators, OpensEmpty, Sizes}

-- a frame was offered by that moment
abbrev By : ℕ → ℕ → Frame → Type 0
By t v frame = frame.offered ≤ t

-- and so were those that wait, and then they were by a later one
by-later : (t u : ℕ) → t ≤ u → (s : List Source) → All (HasWaiting (By t)) s → All (HasWaiting (By u)) s
by-later t u l s h = All-weaker (HasWaiting (By t)) (HasWaiting (By u))
    (λ source k. All-weaker (λ (list : Queue). All (By t source.end.vl.0) list.frames) (λ (list : Queue). All (By u source.end.vl.0) list.frames)
    (λ list j. All-weaker (By t source.end.vl.0) (By u source.end.vl.0) (λ frame i. omega (arith, i)) list.frames j) source.regulator.lists k) s h

none-waits : (t : ℕ) (s : List Source) → All (λ source. All (λ (list : Queue). list.frames ≡ []) source.regulator.lists) s → All (HasWaiting (By t)) s
none-waits t s h = All-weaker (λ source. All (λ (list : Queue). list.frames ≡ []) source.regulator.lists) (HasWaiting (By t))
    (λ source k. All-weaker (λ (list : Queue). list.frames ≡ []) (λ (list : Queue). All (By t source.end.vl.0) list.frames)
    (λ list e. subst (All (By t source.end.vl.0)) (sym e) (All-nil (By t source.end.vl.0))) source.regulator.lists k) s h

-- a frame that is put was released at its offer or later
abbrev IsAfter : Priority → PutFrame → Type 0
IsAfter r put = put.frame.offered ≤ put.frame.released

module _ (q byte_ns : ℕ) where
  -- what is known of an end system
  abbrev Known : ℕ → Equipment → Type 0
  Known t (EndSystem s) = AllWaitIn (By t) s
  Known t _ = ⊥

  abbrev AskAfter : ℕ → ℕ → Option PortEvent → Type 0
  AskAfter t line None = ⊤
  AskAfter t line (Some e) = OfAsked IsAfter byte_ns t line e

  offer-by : (t : ℕ) (b : Body) → IsOfferFit (By t) t b
  offer-by t (body.Offer vl bytes sub) = omega arith
  offer-by t _ = tt

  put-after : (t v line : ℕ) (o : Option PortEvent) → OfPut (By t) v t o → AskAfter t line o
  put-after t v line None put = tt
  put-after t v line (Some Free) put = tt
  put-after t v line (Some (Put frame r)) put =
      let by = put.1 in
      let offered : frame.offered ≡ put.0.offered = ap (λ (z : Frame). z.offered) put.2 in
      let released : frame.released ≡ t = ap (λ (z : Frame). z.released) put.2 in
      omega arith

  known-later : (t u : ℕ) → t ≤ u → (e : Equipment) → Known t e → Known u e
  known-later t u l (EndSystem s) k = by-later t u l s.sources k
  known-later t u l (Switch s) k = absurd k
  known-later t u l (Line s) k = absurd k

  asks-after : (m : Message) (e : Equipment) → Known m.time e → AskAfter m.time (input_of m.body e) (asks q m e)
  asks-after m (EndSystem s) k = put-after m.time (subject m.body) 0 (end_system_asks q m.time m.body s) (source-keeps (By m.time) 0 m.time q m.body s (offer-by m.time m.body) k).put
  asks-after m (Switch s) k = absurd k
  asks-after m (Line s) k = absurd k

  known-stays : (n : ℕ) (m : Message) (e : Equipment) → Known m.time e → Known m.time (handled n m e).equipment
  known-stays n m (EndSystem s) k = (source-keeps (By m.time) n m.time q m.body s (offer-by m.time m.body) k).waiting
  known-stays n m (Switch s) k = absurd k
  known-stays n m (Line s) k = absurd k

  events-after : (s : NodeState) (ms : List Message) (t : ℕ) → AreFrom t (times_of ms) → Known t s.equipment → Every (λ e. OfAsked IsAfter byte_ns e.at e.line e.event) (port_events q s ms)
  events-after s [] t from k = tt
  events-after s (m ∷ ms) t from k =
      let now = known-later t m.time from.0 s.equipment k in
      go (asks q m s.equipment) (asks-after m s.equipment now) (events-after (after s m) ms m.time from.1 (known-stays s.sender.number m s.equipment now))
    where
      go : (o : Option PortEvent) → AskAfter m.time (input_of m.body s.equipment) o → Every (λ e. OfAsked IsAfter byte_ns e.at e.line e.event) (port_events q (after s m) ms) →
          Every (λ e. OfAsked IsAfter byte_ns e.at e.line e.event) (asked_at m.time (input_of m.body s.equipment) o ++ port_events q (after s m) ms)
      go None h rest = rest
      go (Some e) h rest = (h, rest)

module _ (x : Setting NodeState) (L : Laws (simulation_of (rules_of node) x)) (N : IsOfNodes x) (size : ℕ → Sizes) (O : OpensEmpty x size) (p q : ℕ) (outlet : Outlet) (inside : p < x.processes) (n : ℕ) (w : EndSystemState)
    (is : (x.opening p).equipment ≡ EndSystem w) where
  abbrev f : Simulation Message NodeState NodeRecord Note
  f = simulation_of (rules_of node) x

  known-first : (e : Equipment) → e ≡ EndSystem w → HaveEmptyRegulators e → Known q outlet.ahead.byte_ns 0 e
  known-first (EndSystem s) same h = none-waits 0 s.sources h
  known-first (Switch s) same h = absurd (let z : ⊥ = cc in z)
  known-first (Line s) same h = absurd (let z : ⊥ = cc in z)

  all-after : AllPuts IsAfter outlet.ahead.byte_ns (trace_at x p q outlet n)
  all-after = trace-puts IsAfter outlet.ahead.byte_ns outlet.port (port_events q (x.opening p) (events f n p))
      (events-after q outlet.ahead.byte_ns (x.opening p) (events f n p) 0 (events-from x p L n) (known-first (x.opening p).equipment is (O.regulators p inside)))

  -- each frame that is put was released at its offer or later
  pub offered-first : (r : Priority) → Every (λ put. put.frame.offered ≤ put.frame.released) (puts_with r (trace_at x p q outlet n))
  offered-first High = all-after.high
  offered-first Low = all-after.low
