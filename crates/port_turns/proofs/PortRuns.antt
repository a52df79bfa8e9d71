-- Why a port in the one-thread run is, for its bounds, a port that is served.
use Rattle.std.proofs.Common.{◌≡◌, ℕ, ◌<◌, ◌≤◌, Bool, true, false, List, [], ◌∷◌, ◌++◌, Option, Some, None, is_some, refl, sym, ap, ◌∙◌, subst, arith, eq-eqb, append-nil}
use Rattle.std.specs.Prelude.{⊤}
use Rattle.vlink.specs.declared.message.Message.{Message}
use Rattle.vlink.specs.declared.note.Note.{Note}
use Rattle.output_port.specs.Port.{PortState, port}
use Rattle.output_port.specs.declared.event.PortEvent.{PortEvent}
use Rattle.output_port.specs.declared.event.PortEvent.TheVariants.{Free}
use Rattle.reverse.specs.Rules.{rules_of}
use Rattle.reverse.specs.Setting.{Setting, simulation_of}
use Rattle.virtual_time.specs.Law.{Laws, Simulation, events, one}
use Rattle.timers.specs.Timer as timer
use Rattle.timers.specs.Timer.{AreOnTime}
use Rattle.port_bounds.specs.Pacing.{AreBetween}
use Rattle.port_bounds.specs.Port.{IsBy, IsServed, Port, idle}
use Rattle.port_bounds.specs.Port as bounded
use Rattle.element_bounds.specs.PortTrace.{IsSamePort, PortEventAt, seen_as, trace_of}
use Rattle.element_bounds.proofs.TraceLemmas as trace
use Rattle.nodes.specs.declared.equipment.Equipment.{Equipment}
use Rattle.nodes.specs.declared.node.NodeRecord.{NodeRecord}
use Rattle.nodes.specs.declared.ports.Outlet.{Outlet}
use Rattle.nodes.specs.rules.Node.{NodeState, after, handled}
use Rattle.nodes.specs.undoing.Node.{node}
use Rattle.port_turns.specs.PortTimer.{frees, is_busy_in, is_free, is_timer, port_alarm, set_by}
use Rattle.port_turns.specs.Nodes.{IsOfNodes}
use Rattle.port_turns.specs.PortEvents.{asks, done_at, outlet_in}
use Rattle.port_turns.specs.PortRuns.{asked_at, input_of, port_events}
use Rattle.port_turns.proofs.PortTimers.{are_ports_on_time}
use Rattle.port_turns.proofs.SentKinds.{times_of}
use Rattle.port_turns.proofs.Rising.{AreTo, events-between, events-to}
use Rattle.port_turns.proofs.NodeTurns.{busy-is, freed_by, frees_port, node-after, node-frees, node-kind}
use Rattle.port_turns.proofs.Serving.{AreCosted, goes, served-sooner}

stays : (b : Bool) (g until : Option ℕ) → b ≡ is_some until → g ≡ until → set_by [] b g ≡ until
stays true g (Some u) e s = s
stays false g None e s = refl
stays _ g _ e s = absurd (let z : ⊥ = cc in z)

-- what is asked of the port comes at moments that do not fall, and no later than the line is free
abbrev pub AreAskedBy : ℕ → PortState → Port → ℕ → List PortEventAt → Type 0
AreAskedBy byte_ns p a now [] = ⊤
AreAskedBy byte_ns p a now (e ∷ es) = (now ≤ e.at) × IsBy e.at a.until × AreAskedBy byte_ns (port.after p e.event) (bounded.after a (seen_as byte_ns e.at e.line e.event (port.out p e.event))) e.at es

asked-sooner : (byte_ns : ℕ) (p : PortState) (a : Port) (now t : ℕ) (es : List PortEventAt) → now ≤ t → AreAskedBy byte_ns p a t es → AreAskedBy byte_ns p a now es
asked-sooner byte_ns p a now t [] l h = tt
asked-sooner byte_ns p a now t (e ∷ es) l h = (omega (arith, h.0), h.1, h.2)

-- both of the port of which bounds are known
pub record RunsWell (byte_ns : ℕ) (p : PortState) (a : Port) (now : ℕ) (es : List PortEventAt) : Type 0 where
  pub served : IsServed a now (trace_of byte_ns p es)
  pub asked : AreAskedBy byte_ns p a now es

module _ (x : Setting NodeState) (p q : ℕ) where
  abbrev f : Simulation Message NodeState NodeRecord Note
  f = simulation_of (rules_of node) x

  abbrev AreTimely : NodeState → Option ℕ → List Message → Type 0
  AreTimely s g ms = AreOnTime f p (is_timer p q) (port_alarm p q) s g ms

  -- the port of the node, the other one, and the timer go together
  record Fits (e : Equipment) (g : Option ℕ) (a : Port) (outlet : Outlet) : Type 0 where
    is : outlet_in e q ≡ Some outlet
    same : IsSamePort outlet.port a
    set : g ≡ a.until
    high : AreCosted outlet.ahead.byte_ns a.high
    low : AreCosted outlet.ahead.byte_ns a.low

  abbrev alarm : NodeState → Message → Option ℕ → Option ℕ
  alarm s m g = set_by (frees q (handled p m s.equipment).reply.wishes) (is_busy_in (handled p m s.equipment).equipment q) g

  by : (t : ℕ) (g until : Option ℕ) → g ≡ until → timer.IsBy f p (is_timer p q) (port_alarm p q) t g → IsBy t until
  by t g None e h = tt
  by t g (Some u) e h = go g e h
    where
      go : (g : Option ℕ) → g ≡ Some u → timer.IsBy f p (is_timer p q) (port_alarm p q) t g → t ≤ u
      go None k l = absurd (let z : ⊥ = cc in z)
      go (Some v) k l = let same : v ≡ u = cc in omega arith

  one_trace : (byte_ns t line : ℕ) (port' : PortState) (e : PortEvent) (a : Port) → IsSamePort port' a → IsSamePort (port.after port' e) (bounded.after a (seen_as byte_ns t line e (port.out port' e)))
  one_trace byte_ns t line port' e a s =
      subst (λ es. IsSamePort (port.after port' e) (bounded.after a es)) (append-nil (seen_as byte_ns t line e (port.out port' e))) (trace.same byte_ns port' a (record { at = t; line = line; event = e } ∷ []) s).0

  run-served : (s : NodeState) (g : Option ℕ) (a : Port) (outlet : Outlet) (ms : List Message) (now u : ℕ) → s.sender.number ≡ p →
      AreTimely s g ms → AreBetween now u (times_of ms) → AreTo p ms → Fits s.equipment g a outlet → RunsWell outlet.ahead.byte_ns outlet.port a now (port_events q s ms)
  run-served s g a outlet [] now u n h b mine fit = record { served = tt; asked = tt }
  run-served s g a outlet (m ∷ ms) now u n h b mine fit =
      go (asks q m s.equipment) refl (λ a' outlet' fit'. run-served (after s m) (alarm s m g) a' outlet' ms m.time u n h.1 b.1 mine.1 fit')
    where
      alarm-is : (o : Option PortEvent) → asks q m s.equipment ≡ o → alarm s m g ≡ set_by (freed_by q p m.time o (Some outlet)) (done_at o outlet).port.busy g
      alarm-is o e =
          ap (λ ws. set_by ws (is_busy_in (handled p m s.equipment).equipment q) g) (node-frees q p m s.equipment (Some outlet) o fit.is e) ∙
          ap (λ b. set_by (freed_by q p m.time o (Some outlet)) b g) (busy-is q (handled p m s.equipment).equipment (Some (done_at o outlet)) (node-after p q m s.equipment (Some outlet) o fit.is e))

      outlet-is : (o : Option PortEvent) → asks q m s.equipment ≡ o → outlet_in (after s m).equipment q ≡ Some (done_at o outlet)
      outlet-is o e = node-after s.sender.number q m s.equipment (Some outlet) o fit.is e

      free-is : (e : PortEvent) → asks q m s.equipment ≡ Some e → e ≡ Free → a.until ≡ Some m.time
      free-is e k free =
          let is : is_free q m.body ≡ true = node-kind q m s.equipment outlet fit.is ∙ ap frees_port (k ∙ ap Some free) in
          sym fit.set ∙ h.0.at_moment (rw (eq-eqb m.receiver p mine.0) is)

      go : (o : Option PortEvent) → asks q m s.equipment ≡ o →
          ((a' : Port) (outlet' : Outlet) → Fits (after s m).equipment (alarm s m g) a' outlet' → RunsWell outlet'.ahead.byte_ns outlet'.port a' m.time (port_events q (after s m) ms)) →
          RunsWell outlet.ahead.byte_ns outlet.port a now (asked_at m.time (input_of m.body s.equipment) o ++ port_events q (after s m) ms)
      go None e rest =
          let r = rest a outlet (record {
            is = outlet-is None e;
            same = fit.same;
            set = alarm-is None e ∙ stays outlet.port.busy g a.until fit.same.busy fit.set;
            high = fit.high;
            low = fit.low;
          }) in
          record { served = served-sooner a now m.time _ b.0 r.served; asked = asked-sooner outlet.ahead.byte_ns outlet.port a now m.time _ b.0 r.asked }
      go (Some event) e rest =
          let line = input_of m.body s.equipment in
          let now_goes = goes p m.time q (input_of m.body s.equipment) outlet.ahead g outlet.port a event fit.same fit.set (by m.time g a.until fit.set h.0.not_later) (free-is event e) fit.high fit.low in
          let r = rest (bounded.after a (seen_as outlet.ahead.byte_ns m.time (input_of m.body s.equipment) event (port.out outlet.port event))) (done_at (Some event) outlet) (record {
            is = outlet-is (Some event) e;
            same = one_trace outlet.ahead.byte_ns m.time (input_of m.body s.equipment) outlet.port event a fit.same;
            set = alarm-is (Some event) e ∙ now_goes.set;
            high = now_goes.high;
            low = now_goes.low;
          }) in
          record { served = now_goes.served now _ b.0 r.served; asked = (b.0, by m.time g a.until fit.set h.0.not_later, r.asked) }

  pub ports-run-well : (L : Laws f) → p < x.processes → IsOfNodes x → (outlet : Outlet) → outlet_in (x.opening p).equipment q ≡ Some outlet → IsSamePort outlet.port idle → (n : ℕ) →
      RunsWell outlet.ahead.byte_ns outlet.port idle 0 (port_events q (x.opening p) (events f n p))
  ports-run-well L inside N outlet is same n =
      run-served (x.opening p) None idle outlet (events f n p) 0 x.until (N.number p inside) (are_ports_on_time x p q inside N (busy-is q (x.opening p).equipment (Some outlet) is ∙ same.busy) L n) (events-between x p L n) (events-to p (one f n).handled)
      (record { is = is; same = same; set = refl; high = tt; low = tt })

  pub are_ports_served : (L : Laws f) → p < x.processes → IsOfNodes x → (outlet : Outlet) → outlet_in (x.opening p).equipment q ≡ Some outlet → IsSamePort outlet.port idle → (n : ℕ) →
      IsServed idle 0 (trace_of outlet.ahead.byte_ns outlet.port (port_events q (x.opening p) (events f n p)))
  are_ports_served L inside N outlet is same n = (ports-run-well L inside N outlet is same n).served
