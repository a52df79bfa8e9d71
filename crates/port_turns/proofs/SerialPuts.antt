-- Why the frames that came by a line are put to a port of a switch one after the other: they are some of those that came, later by the delay.
use Rattle.std.proofs.Common.{◌≡◌, ℕ, ◌+◌, ◌<◌, ◌≤◌, ◌==◌, inl, Bool, true, false, cond, List, [], ◌∷◌, ◌++◌, filter, map, Option, Some, None, option_map, refl, sym, ap, ◌∙◌, subst, arith, eq-eqb, eqb-true, append-nil, append_assoc}
use Rattle.std.specs.Option.{option_map_or}
use Rattle.std.proofs.lemmas.Bool.{false≢true}
use Rattle.std.proofs.lemmas.Nat.{mul-le}
use Rattle.std.proofs.lemmas.List.{map-append}
use Rattle.std.proofs.lemmas.List.Elements.{filter-append}
use Rattle.vlink.specs.Wire.{busy_for}
use Rattle.vlink.specs.declared.frame.Frame.{Frame}
use Rattle.vlink.specs.declared.message.Message.{Message}
use Rattle.vlink.specs.declared.message.Body.{Body}
use Rattle.vlink.specs.declared.message.Body.TheVariants.{PortFree, Arrive, Enqueue}
use Rattle.vlink.specs.declared.note.Note.{Note}
use Rattle.output_port.specs.Port.{PortState}
use Rattle.output_port.specs.declared.event.Priority.{Priority}
use Rattle.output_port.specs.declared.event.Priority.TheVariants as priority
use Rattle.output_port.specs.declared.event.PortEvent.{PortEvent}
use Rattle.output_port.specs.declared.event.PortEvent.TheVariants.{Put, Free}
use Rattle.reverse.specs.Sending.{Wish}
use Rattle.reverse.specs.Rules.{rules_of}
use Rattle.reverse.specs.Setting.{Setting, simulation_of}
use Rattle.virtual_time.specs.Law.{Laws, Simulation, events, one}
use Rattle.port_bounds.specs.Frames.{PutFrame}
use Rattle.port_bounds.specs.Sublists.{Every, IsSublist}
use Rattle.port_bounds.specs.Arrivals.{IsAfter, IsSerial, is_by_line}
use Rattle.port_bounds.proofs.ArrivalLemmas.{fewer-serial}
use Rattle.port_bounds.proofs.SublistLemmas.{every-sub, sub-both, sub-trans}
use Rattle.element_bounds.specs.PortTrace.{PortEventAt, put_at, trace_of}
use Rattle.element_bounds.proofs.TraceLemmas.{OfAsked, trace-puts}
use Rattle.nodes.specs.declared.equipment.Equipment.TheVariants.{Switch}
use Rattle.nodes.specs.declared.node.NodeRecord.{NodeRecord}
use Rattle.nodes.specs.declared.ports.Outlet.{Outlet}
use Rattle.nodes.specs.declared.transit.Transit.{Transit}
use Rattle.nodes.specs.rules.Finding.{Found}
use Rattle.nodes.specs.rules.Line.{LineState}
use Rattle.nodes.specs.rules.Switch.{SwitchState, switch, transit_at}
use Rattle.nodes.specs.rules.Node.{NodeState, after, handled}
use Rattle.nodes.specs.undoing.Node.{node}
use Rattle.port_turns.specs.Nodes.{IsOfNodes}
use Rattle.port_turns.specs.PortEvents.{asks, switch_asks}
use Rattle.port_turns.specs.PortRuns.{asked_at, input_of, port_events, puts_with}
use Rattle.port_turns.specs.Arrivals.{IsWay, arrival_in, arrivals_in}
use Rattle.port_turns.proofs.Arriving.{arrivals-serial}
use Rattle.port_turns.proofs.Channels.{come}
use Rattle.port_turns.proofs.Elsewhere.{all-elsewhere}
use Rattle.port_turns.proofs.Forwarding.{HaveInputs, forward, forward-from, forwards, inputs-stay, is_put_at}
use Rattle.port_turns.proofs.Rising.{AreTo, events-from, events-to}
use Rattle.port_turns.proofs.TracePuts.{asked_puts, filter-sub, put_list, trace-asked}
use Rattle.port_turns.proofs.SentKinds.{AreFrom, as_wish, flat, flat-next, flat-sub, from-sub, is_to, moments-times, moments_of, sub-map, wished}

-- ---- the same frames, as they cost on the line by which they came

abbrev remade : ℕ → ℕ → PutFrame → PutFrame
remade byte_in j x = put_at byte_in x.at j x.frame

serial-remade : (byte_in j : ℕ) (test : PutFrame → Bool) (last : Option ℕ) (xs : List PutFrame) → Every (λ x. x.cost ≤ busy_for x.frame.size byte_in) xs →
    IsSerial last (λ x. true) (map (remade byte_in j) (filter test xs)) → IsSerial last test xs
serial-remade byte_in j test last [] c h = tt
serial-remade byte_in j test last (x ∷ xs) c h = go (test x) h (λ last k. serial-remade byte_in j test last xs c.1 k)
  where
    less : (last : Option ℕ) → IsAfter last (remade byte_in j x) → IsAfter last x
    less None k = tt
    less (Some u) k = omega (arith, c.0)

    go : (b : Bool) → IsSerial last (λ x. true) (map (remade byte_in j) (cond b (x ∷ filter test xs) (filter test xs))) →
        ((last : Option ℕ) → IsSerial last (λ x. true) (map (remade byte_in j) (filter test xs)) → IsSerial last test xs) →
        (b ≡ true → IsAfter last x) × IsSerial (cond b (Some x.at) last) test xs
    go true k rest = (λ e. less last (k.0 refl), rest (Some x.at) k.1)
    go false k rest = (λ e. absurd (false≢true e), rest last k)

abbrev put_later : ℕ → PutFrame → PutFrame
put_later delay x = record x { at = x.at + delay }

serial-later : (delay : ℕ) (last : Option ℕ) (xs : List PutFrame) → IsSerial last (λ x. true) xs → IsSerial (option_map (λ t. t + delay) last) (λ x. true) (map (put_later delay) xs)
serial-later delay last [] h = tt
serial-later delay last (x ∷ xs) h = (λ e. go last (h.0 refl), serial-later delay (Some x.at) xs h.1)
  where
    go : (last : Option ℕ) → IsAfter last x → IsAfter (option_map (λ t. t + delay) last) (put_later delay x)
    go None k = tt
    go (Some u) k = omega arith

flat-append : {X : Type 0} (g : ℕ → Body → List X) (ws vs : List Wish) → flat g (ws ++ vs) ≡ flat g ws ++ flat g vs
flat-append g [] vs = refl
flat-append g (w ∷ ws) vs = ap (λ z. g w.time w.body ++ z) (flat-append g ws vs) ∙ sym (append_assoc (g w.time w.body) (flat g ws) (flat g vs))

module _ (byte_in j r q : ℕ) (input : ℕ → ℕ) where
  -- a frame that is put to port q and came in by port j
  abbrev put_in : ℕ → Body → List PutFrame
  put_in t (Enqueue p frame) = cond (p == q) (cond (input frame.vl.0 == j) (put_at byte_in t j frame ∷ []) []) []
  put_in t _ = []

  -- of what comes in, later
  one-in : (delay t : ℕ) (b : Body) → IsSublist (flat put_in (forward r q input delay t b)) (map (put_later delay) (arrival_in byte_in j t b))
  one-in delay t (Arrive p frame) = go (input frame.vl.0 == p) refl
    where
      both : (c : Bool) → IsSublist (cond c (put_at byte_in (t + delay) j frame ∷ []) [] ++ []) (map (put_later delay) (cond c (put_at byte_in t j frame ∷ []) []))
      both true = inl (refl, tt)
      both false = tt

      go : (b : Bool) → (input frame.vl.0 == p) ≡ b → IsSublist (flat put_in (cond b (record { time = t + delay; receiver = r; body = Enqueue q frame } ∷ []) [])) (map (put_later delay) (cond (p == j) (put_at byte_in t j frame ∷ []) []))
      go false e = tt
      go true e =
          rw (eq-eqb q q refl)
          (subst (λ z. IsSublist (cond (z == j) (put_at byte_in (t + delay) j frame ∷ []) [] ++ []) (map (put_later delay) (cond (p == j) (put_at byte_in t j frame ∷ []) []))) (sym (eqb-true (input frame.vl.0) p e)) (both (p == j)))
  one-in delay t _ = tt

  all-in : (delay : ℕ) (ms : List Message) → IsSublist (flat put_in (flat (forward r q input delay) (map as_wish ms))) (map (put_later delay) (arrivals_in byte_in j ms))
  all-in delay [] = tt
  all-in delay (m ∷ ms) =
      subst (λ z. IsSublist z (map (put_later delay) (arrivals_in byte_in j (m ∷ ms)))) (sym (flat-append put_in (forward r q input delay m.time m.body) (flat (forward r q input delay) (map as_wish ms))))
      (subst (IsSublist (flat put_in (forward r q input delay m.time m.body) ++ flat put_in (flat (forward r q input delay) (map as_wish ms)))) (sym (map-append (put_later delay) (arrival_in byte_in j m.time m.body) (arrivals_in byte_in j ms)))
      (sub-both _ _ _ _ (one-in delay m.time m.body) (all-in delay ms)))

  -- of the messages that put
  module _ (byte_ns : ℕ) where
    abbrev by_line : List PortEventAt → List PutFrame
    by_line es = map (remade byte_in j) (filter (is_by_line j) (asked_puts byte_ns es))

    one-asked : (t : ℕ) (b : Body) (w : SwitchState) → HaveInputs r q input w → IsSublist (by_line (asked_at t (input_of b (Switch w)) (switch_asks q b w))) (put_in t b)
    one-asked t (PortFree p) w h = go (p == q)
      where
        go : (b : Bool) → IsSublist (by_line (asked_at t 0 (cond b (Some Free) None))) []
        go true = tt
        go false = tt
    one-asked t (Enqueue p frame) w h = go (p == q) (transit_at w frame.vl) refl
      where
        both : (c : Bool) (line : ℕ) → IsSublist (map (remade byte_in j) (cond c (put_at byte_ns t line frame ∷ []) [])) (cond c (put_at byte_in t j frame ∷ []) [])
        both true line = inl (refl, tt)
        both false line = tt

        go : (b : Bool) (o : Option (Found Transit)) → transit_at w frame.vl ≡ o →
            IsSublist (by_line (asked_at t (option_map_or (λ (found : Found Transit). found.entry.input) o 0) (cond b (option_map (λ (found : Found Transit). Put frame found.entry.priority) o) None)))
            (cond b (cond (input frame.vl.0 == j) (put_at byte_in t j frame ∷ []) []) [])
        go true None is = tt
        go true (Some found) is =
            subst (λ z. IsSublist (map (remade byte_in j) (cond (found.entry.input == j) (put_at byte_ns t found.entry.input frame ∷ []) [])) (cond (z == j) (put_at byte_in t j frame ∷ []) [])) (sym (h frame.vl found is))
            (both (found.entry.input == j) found.entry.input)
        go false o is = tt
    one-asked t _ w h = tt

    by_line-append : (t line : ℕ) (o : Option PortEvent) (es : List PortEventAt) → by_line (asked_at t line o ++ es) ≡ by_line (asked_at t line o) ++ by_line es
    by_line-append t line None es = refl
    by_line-append t line (Some e) es =
        ap (map (remade byte_in j)) (filter-append (is_by_line j) (put_list byte_ns t line e) (asked_puts byte_ns es)) ∙
        (map-append (remade byte_in j) (filter (is_by_line j) (put_list byte_ns t line e)) (filter (is_by_line j) (asked_puts byte_ns es)) ∙
        ap (λ z. map (remade byte_in j) (filter (is_by_line j) z) ++ by_line es) (sym (append-nil (put_list byte_ns t line e))))

    not-put : (t : ℕ) (b : Body) → is_put_at q b ≡ false → put_in t b ≡ []
    not-put t (Enqueue p frame) e = ap (λ c. cond c (cond (input frame.vl.0 == j) (put_at byte_in t j frame ∷ []) []) []) e
    not-put t _ e = refl

    all-asked : (s : NodeState) (w : SwitchState) (ms : List Message) → s.equipment ≡ Switch w → HaveInputs r q input w → AreTo r ms →
        IsSublist (by_line (port_events q s ms)) (flat put_in (map as_wish (filter (is_to (is_put_at q) r) ms)))
    all-asked s w [] e h to = tt
    all-asked s w (m ∷ ms) e h to =
        subst (λ z. IsSublist z (flat put_in (map as_wish (filter (is_to (is_put_at q) r) (m ∷ ms))))) (sym (by_line-append m.time (input_of m.body s.equipment) (asks q m s.equipment) (port_events q (after s m) ms)))
        (subst (IsSublist (by_line (asked_at m.time (input_of m.body s.equipment) (asks q m s.equipment)) ++ by_line (port_events q (after s m) ms))) (sym (flat-next (is_put_at q) r put_in not-put m ms to.0))
        (sub-both _ _ _ _ (subst (λ z. IsSublist (by_line (asked_at m.time (input_of m.body z) (asks q m z))) (put_in m.time m.body)) (sym e) (one-asked m.time m.body w h))
        (all-asked (after s m) (switch s.sender.number m.time m.body w).state ms (ap (λ z. (handled s.sender.number m z).equipment) e) (inputs-stay r q input s.sender.number m.time m.body w h) to.1)))

module _ (x : Setting NodeState) (L : Laws (simulation_of (rules_of node) x)) (p q k r j : ℕ) (inside : p < x.processes) (line-inside : k < x.processes) (switch-inside : r < x.processes) (N : IsOfNodes x) (outlet : Outlet) (l : LineState) (W : IsWay x p q k r j outlet l)
    (w : SwitchState) (switch-is : (x.opening r).equipment ≡ Switch w) (i : ℕ) where
  abbrev f : Simulation Message NodeState NodeRecord Note
  f = simulation_of (rules_of node) x

  abbrev input : ℕ → ℕ
  input v = option_map_or (λ (found : Found Transit). found.entry.input) (transit_at w (record { 0 = v })) 0

  have : HaveInputs r i input w
  have vl found is = ap (λ o. option_map_or (λ (z : Found Transit). z.entry.input) o 0) is

  put-sub : (n : ℕ) → IsSublist (wished (is_put_at i) r (x.opening r) (events f n r)) (flat (forward r i input w.latency) (map as_wish (events f n r)))
  put-sub n = forwards r i input (x.opening r) w w.latency (events f n r) switch-is (N.number r switch-inside) have refl

  put-from : (n : ℕ) → AreFrom (0 + w.latency) (moments_of (wished (is_put_at i) r (x.opening r) (events f n r)))
  put-from n =
      from-sub _ _ _ (sub-map (λ (z : Wish). z.time) _ _ (put-sub n))
      (forward-from r i input w.latency 0 (map as_wish (events f n r)) (subst (AreFrom 0) (sym (moments-times (events f n r))) (events-from x r L n)))

  put-come : (n : ℕ) → IsSublist (map as_wish (filter (is_to (is_put_at i) r) (events f n r))) (wished (is_put_at i) r (x.opening r) (events f n r))
  put-come n = come x L N r r switch-inside (is_put_at i) (record {
    others = λ c inside' d s h m. all-elsewhere (is_put_at i) (record { no_release = λ vl. refl; no_free = λ c. refl; no_carry = λ frame. refl }) r c m s.equipment (λ c frame own. d) (λ other is frame brought to. absurd (false≢true brought));
    not_offered = λ vl size sub. refl;
  }) (0 + w.latency) put-from n

  -- of the puts those that came by the line are some of what came, later by the delay
  puts-sub : (byte_ns : ℕ) (state : PortState) (c : Priority) (n : ℕ) →
      IsSublist (map (remade outlet.ahead.byte_ns j) (filter (is_by_line j) (puts_with c (trace_of byte_ns state (port_events i (x.opening r) (events f n r)))))) (map (put_later w.latency) (arrivals_in outlet.ahead.byte_ns j (events f n r)))
  puts-sub byte_ns state c n =
      sub-trans _ _ _ (sub-map (remade outlet.ahead.byte_ns j) _ _ (filter-sub (is_by_line j) _ _ (trace-asked byte_ns c state (port_events i (x.opening r) (events f n r)))))
      (sub-trans _ _ _ (all-asked outlet.ahead.byte_ns j r i input byte_ns (x.opening r) w (events f n r) switch-is have (events-to r (one f n).handled))
      (sub-trans _ _ _ (flat-sub (put_in outlet.ahead.byte_ns j r i input) _ _ (sub-trans _ _ _ (put-come n) (put-sub n)))
      (all-in outlet.ahead.byte_ns j r i input w.latency (events f n r))))

  -- what holds of each frame that comes, of the moment later by the delay, holds of each of these puts
  pub puts-have : (P : ℕ → Frame → Type 0) (byte_ns : ℕ) (state : PortState) (c : Priority) (n : ℕ) → Every (λ put. P (put.at + w.latency) put.frame) (arrivals_in outlet.ahead.byte_ns j (events f n r)) →
      Every (λ put. put.line ≡ j → P put.at put.frame) (puts_with c (trace_of byte_ns state (port_events i (x.opening r) (events f n r))))
  puts-have P byte_ns state c n h =
      filtered (puts_with c (trace_of byte_ns state (port_events i (x.opening r) (events f n r))))
      (every-sub (λ (put : PutFrame). P put.at put.frame) _ _ (puts-sub byte_ns state c n) (later (arrivals_in outlet.ahead.byte_ns j (events f n r)) h))
    where
      later : (xs : List PutFrame) → Every (λ put. P (put.at + w.latency) put.frame) xs → Every (λ put. P put.at put.frame) (map (put_later w.latency) xs)
      later [] k = tt
      later (x ∷ xs) k = (k.0, later xs k.1)

      filtered : (xs : List PutFrame) → Every (λ put. P put.at put.frame) (map (remade outlet.ahead.byte_ns j) (filter (is_by_line j) xs)) → Every (λ put. put.line ≡ j → P put.at put.frame) xs
      filtered [] k = tt
      filtered (x ∷ xs) k = go (x.line == j) refl k (λ h. filtered xs h)
        where
          go : (b : Bool) → (x.line == j) ≡ b → Every (λ put. P put.at put.frame) (map (remade outlet.ahead.byte_ns j) (cond b (x ∷ filter (is_by_line j) xs) (filter (is_by_line j) xs))) →
              (Every (λ put. P put.at put.frame) (map (remade outlet.ahead.byte_ns j) (filter (is_by_line j) xs)) → Every (λ put. put.line ≡ j → P put.at put.frame) xs) → Every (λ put. put.line ≡ j → P put.at put.frame) (x ∷ xs)
          go true e k rest = (λ line. k.0, rest k.1)
          go false e k rest = (λ line. absurd (false≢true (sym e ∙ eq-eqb x.line j line)), rest k)

  pub traces-serial : (byte_ns : ℕ) → byte_ns ≤ outlet.ahead.byte_ns → (state : PortState) (c : Priority) (n : ℕ) → IsSerial None (is_by_line j) (puts_with c (trace_of byte_ns state (port_events i (x.opening r) (events f n r))))
  traces-serial byte_ns slower state c n =
      serial-remade outlet.ahead.byte_ns j (is_by_line j) None (puts_with c (trace_of byte_ns state (port_events i (x.opening r) (events f n r)))) (costs c)
      (fewer-serial None (λ put. true) _ (map (put_later w.latency) (arrivals_in outlet.ahead.byte_ns j (events f n r))) (puts-sub byte_ns state c n)
      (serial-later w.latency None (arrivals_in outlet.ahead.byte_ns j (events f n r)) (arrivals-serial x L p q k r j inside line-inside N outlet l W n)))
    where
      cost-less : (t line : ℕ) (e : PortEvent) → OfAsked (λ r x. x.cost ≤ busy_for x.frame.size outlet.ahead.byte_ns) byte_ns t line e
      cost-less t line (Put frame b) = mul-le (frame.size + 20) byte_ns (frame.size + 20) outlet.ahead.byte_ns (omega arith) slower
      cost-less t line Free = tt

      each : (es : List PortEventAt) → Every (λ e. OfAsked (λ r x. x.cost ≤ busy_for x.frame.size outlet.ahead.byte_ns) byte_ns e.at e.line e.event) es
      each [] = tt
      each (e ∷ es) = (cost-less e.at e.line e.event, each es)

      costs : (c : Priority) → Every (λ x. x.cost ≤ busy_for x.frame.size outlet.ahead.byte_ns) (puts_with c (trace_of byte_ns state (port_events i (x.opening r) (events f n r))))
      costs priority.High = (trace-puts (λ r x. x.cost ≤ busy_for x.frame.size outlet.ahead.byte_ns) byte_ns state (port_events i (x.opening r) (events f n r)) (each (port_events i (x.opening r) (events f n r)))).high
      costs priority.Low = (trace-puts (λ r x. x.cost ≤ busy_for x.frame.size outlet.ahead.byte_ns) byte_ns state (port_events i (x.opening r) (events f n r)) (each (port_events i (x.opening r) (events f n r)))).low
