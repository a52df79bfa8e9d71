-- Why the frames of a virtual link in the trace of a port of a switch are paced and metered: they are some of those that are put to it.
use Rattle.std.proofs.Common.{◌≡◌, ℕ, ◌<◌, ◌==◌, ◌&&◌, inl, Bool, true, false, cond, List, [], ◌∷◌, ◌++◌, filter, map, Option, Some, None, option_map, refl, sym, ap, ◌∙◌, subst, eq-eqb}
use Rattle.std.specs.Prelude.{⊤}
use Rattle.std.proofs.lemmas.Option.{none-some}
use Rattle.vlink.specs.declared.message.Message.{Message}
use Rattle.vlink.specs.declared.message.Body.{Body}
use Rattle.vlink.specs.declared.message.Body.TheVariants as body
use Rattle.policer.specs.declared.account.Arrival.{Arrival}
use Rattle.policer.specs.declared.account.Measure.TheVariants.{Bytes}
use Rattle.output_port.specs.Port.{PortState}
use Rattle.output_port.specs.declared.event.Priority.{Priority}
use Rattle.output_port.specs.declared.event.PortEvent.{PortEvent}
use Rattle.output_port.specs.declared.event.PortEvent.TheVariants.{Put, Free}
use Rattle.reverse.specs.Rules.{rules_of}
use Rattle.reverse.specs.Setting.{Setting, simulation_of}
use Rattle.virtual_time.specs.Law.{Laws, events, one}
use Rattle.port_bounds.specs.Frames.{PutFrame}
use Rattle.port_bounds.specs.Sublists.{Every, IsSublist}
use Rattle.port_bounds.specs.Pacing.{IsPaced}
use Rattle.port_bounds.specs.Arrivals.{is_of_link, moments_at}
use Rattle.port_bounds.proofs.SublistLemmas.{sub-behind, sub-trans}
use Rattle.port_bounds.proofs.ArrivalLemmas.{fewer-paced}
use Rattle.element_bounds.specs.Passages.{IsCounting, IsMetered}
use Rattle.element_bounds.specs.PortTrace.{put_at, trace_of}
use Rattle.element_bounds.proofs.MeterLemmas.{fewer-metered}
use Rattle.nodes.specs.declared.equipment.Equipment.{Equipment}
use Rattle.nodes.specs.declared.equipment.Equipment.TheVariants.{Switch}
use Rattle.nodes.specs.declared.transit.Transit.{Transit}
use Rattle.nodes.specs.rules.Finding.{Found}
use Rattle.nodes.specs.rules.Switch.{SwitchState, transit_at}
use Rattle.nodes.specs.rules.Node.{NodeState, after, handled}
use Rattle.nodes.specs.undoing.Node.{node}
use Rattle.port_turns.specs.SwitchPuts.{is_put, transit_of}
use Rattle.port_turns.specs.Nodes.{IsOfNodes}
use Rattle.port_turns.specs.PortEvents.{asks, switch_asks}
use Rattle.port_turns.specs.PortRuns.{BringsAtLeast, arrival_of, arrivals_of, asked_at, input_of, port_events, puts_with}
use Rattle.port_turns.proofs.Judging.{Judged, as_put, delay_of, node-judges, puts_in, size_in}
use Rattle.port_turns.proofs.Judging.Judged.{Quiet, Judges}
use Rattle.port_turns.proofs.SentKinds.{as_wish, is_to, sub-map}
use Rattle.port_turns.proofs.Puts.{put_frames, puts-metered, puts-paced}
use Rattle.port_turns.proofs.Rising.{AreTo, events-to}
use Rattle.port_turns.proofs.TracePuts.{asked_puts, filter-sub, moments-are, trace-asked}

module _ (byte_ns q v : ℕ) where
  -- a frame of the virtual link that a switch asks to put is that of the message
  abbrev IsOfBody : Body → Option PortEvent → Type 0
  IsOfBody b (Some (Put frame r)) = (frame.vl.0 == v) ≡ true → (is_put q v b ≡ true) × (frame.size ≡ size_in b)
  IsOfBody b _ = ⊤

  switch-puts : (b : Body) (s : SwitchState) → IsOfBody b (switch_asks q b s)
  switch-puts (body.PortFree p) s = go (p == q)
    where
      go : (c : Bool) → IsOfBody (body.PortFree p) (cond c (Some Free) None)
      go true = tt
      go false = tt
  switch-puts (body.Enqueue p frame) s = go (p == q) refl (transit_at s frame.vl)
    where
      go : (c : Bool) → (p == q) ≡ c → (o : Option (Found Transit)) → IsOfBody (body.Enqueue p frame) (cond c (option_map (λ found. Put frame found.entry.priority) o) None)
      go true e None = tt
      go true e (Some found) = λ h. (ap (λ c. c && (frame.vl.0 == v)) e ∙ h, refl)
      go false e o = tt
  switch-puts _ s = tt

  node-puts : (m : Message) (e : Equipment) (transit : Transit) → transit_of e v ≡ Some transit → IsOfBody m.body (asks q m e)
  node-puts m (Switch s) transit is = switch-puts m.body s
  node-puts m _ transit is = absurd (none-some transit is)

  stays : (m : Message) (s : NodeState) (transit : Transit) → transit_of s.equipment v ≡ Some transit → (now : Transit) × (transit_of (after s m).equipment v ≡ Some now)
  stays m s transit is = go (node-judges s.sender.number q v m s.equipment transit is)
    where
      go : Judged m.time (delay_of s.equipment) v m.body transit (transit_of (after s m).equipment v) (puts_in q v (handled s.sender.number m s.equipment).reply.wishes) → (now : Transit) × (transit_of (after s m).equipment v ≡ Some now)
      go (Quiet now none) = (transit, now)
      go (Judges arrival at brought now some) = (_, now)

  abbrev frames_put : ℕ → List Message → List Arrival
  frames_put p ms = map as_put (map as_wish (filter (is_to (is_put q v) p) ms))

  -- what is put to the port of a switch is some of what the messages put
  asked-sub : (p : ℕ) (s : NodeState) (transit : Transit) (ms : List Message) → transit_of s.equipment v ≡ Some transit → AreTo p ms → IsSublist (arrivals_of v (asked_puts byte_ns (port_events q s ms))) (frames_put p ms)
  asked-sub p s transit [] is to = tt
  asked-sub p s transit (m ∷ ms) is to =
      let next = stays m s transit is in
      go (asks q m s.equipment) (node-puts m s.equipment transit is) (asked-sub p (after s m) next.0 ms next.1 to.1)
    where
      none : IsSublist (arrivals_of v (asked_puts byte_ns (port_events q (after s m) ms))) (frames_put p ms) → (c : Bool) →
          IsSublist (arrivals_of v (asked_puts byte_ns (port_events q (after s m) ms))) (map as_put (map as_wish (cond c (m ∷ filter (is_to (is_put q v) p) ms) (filter (is_to (is_put q v) p) ms))))
      none rest true = sub-behind (arrivals_of v (asked_puts byte_ns (port_events q (after s m) ms))) (as_put (as_wish m) ∷ []) (frames_put p ms) rest
      none rest false = rest

      go : (o : Option PortEvent) → IsOfBody m.body o → IsSublist (arrivals_of v (asked_puts byte_ns (port_events q (after s m) ms))) (frames_put p ms) →
          IsSublist (arrivals_of v (asked_puts byte_ns (asked_at m.time (input_of m.body s.equipment) o ++ port_events q (after s m) ms))) (frames_put p (m ∷ ms))
      go None h rest = none rest (is_to (is_put q v) p m)
      go (Some Free) h rest = none rest (is_to (is_put q v) p m)
      go (Some (Put frame r)) h rest = put (frame.vl.0 == v) h
        where
          put : (c : Bool) → (c ≡ true → (is_put q v m.body ≡ true) × (frame.size ≡ size_in m.body)) →
              IsSublist (map arrival_of (cond c (put_at byte_ns m.time (input_of m.body s.equipment) frame ∷ filter (is_of_link v) (asked_puts byte_ns (port_events q (after s m) ms))) (filter (is_of_link v) (asked_puts byte_ns (port_events q (after s m) ms))))) (frames_put p (m ∷ ms))
          put false k = none rest (is_to (is_put q v) p m)
          put true k =
              let own = k refl in
              let mine : is_to (is_put q v) p m ≡ true = ap (λ c. cond c (is_put q v m.body) false) (eq-eqb m.receiver p to.0) ∙ own.0 in
              subst (λ c. IsSublist (arrival_of (put_at byte_ns m.time (input_of m.body s.equipment) frame) ∷ arrivals_of v (asked_puts byte_ns (port_events q (after s m) ms)))
              (map as_put (map as_wish (cond c (m ∷ filter (is_to (is_put q v) p) ms) (filter (is_to (is_put q v) p) ms))))) (sym mine)
              (inl (ap (λ n. record { at = m.time; size = n }) own.1, rest))

  trace-frames : (x : Setting NodeState) → (p : ℕ) → (transit : Transit) → transit_of (x.opening p).equipment v ≡ Some transit → (state : PortState) (k : Priority) (n : ℕ) →
      IsSublist (arrivals_of v (puts_with k (trace_of byte_ns state (port_events q (x.opening p) (events (simulation_of (rules_of node) x) n p))))) (frames_put p (events (simulation_of (rules_of node) x) n p))
  trace-frames x p transit goes state k n =
      sub-trans _ _ _ (sub-map arrival_of _ _ (filter-sub (is_of_link v) _ _ (trace-asked byte_ns k state (port_events q (x.opening p) (events (simulation_of (rules_of node) x) n p)))))
      (asked-sub p (x.opening p) transit (events (simulation_of (rules_of node) x) n p) goes (events-to p (one (simulation_of (rules_of node) x) n).handled))

  -- the moments of frames
  moments-frames : (xs : List PutFrame) → map (λ (f : Arrival). f.at) (arrivals_of v xs) ≡ moments_at (is_of_link v) xs
  moments-frames xs = made (filter (is_of_link v) xs) ∙ moments-are v xs
    where
      made : (xs : List PutFrame) → map (λ (f : Arrival). f.at) (map arrival_of xs) ≡ map (λ (x : PutFrame). x.at) xs
      made [] = refl
      made (x ∷ xs) = ap (λ z. x.at ∷ z) (made xs)

  module _ (x : Setting NodeState) (L : Laws (simulation_of (rules_of node) x)) (N : IsOfNodes x) (p : ℕ) (inside : p < x.processes) (transit : Transit) (goes : transit_of (x.opening p).equipment v ≡ Some transit) where
    pub traces-paced : (least : ℕ) → IsCounting transit.account least → (state : PortState) (k : Priority) (n : ℕ) → Every (BringsAtLeast v least) (events (simulation_of (rules_of node) x) n p) →
        IsPaced transit.account.bag transit.account.jitter (moments_at (is_of_link v) (puts_with k (trace_of byte_ns state (port_events q (x.opening p) (events (simulation_of (rules_of node) x) n p)))))
    traces-paced least counting state k n sizes =
        let puts = puts_with k (trace_of byte_ns state (port_events q (x.opening p) (events (simulation_of (rules_of node) x) n p))) in
        subst (IsPaced transit.account.bag transit.account.jitter) (moments-frames puts)
        (fewer-paced transit.account.bag transit.account.jitter _ _ (sub-map (λ (f : Arrival). f.at) _ _ (trace-frames x p transit goes state k n))
        (puts-paced x L N p q v inside transit goes n least counting sizes))

    pub traces-metered : transit.account.measure ≡ Bytes → (state : PortState) (k : Priority) (n : ℕ) →
        IsMetered transit.account.smax transit.account.bag transit.account.jitter (arrivals_of v (puts_with k (trace_of byte_ns state (port_events q (x.opening p) (events (simulation_of (rules_of node) x) n p)))))
    traces-metered bytes state k n =
        fewer-metered transit.account.smax transit.account.bag transit.account.jitter _ _ (trace-frames x p transit goes state k n)
        (puts-metered x L N p q v inside transit goes n bytes)
