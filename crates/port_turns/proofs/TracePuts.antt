-- The frames of a virtual link in the trace of a port are some of those that are put to it: the others are dropped.
use Rattle.std.proofs.Common.{◌≡◌, ℕ, ◌==◌, inl, inr, Bool, true, false, cond, List, [], ◌∷◌, ◌++◌, filter, map, Option, Some, None, refl, sym, ap, ◌∙◌, subst}
use Rattle.vlink.specs.declared.message.Message.{Message}
use Rattle.output_port.specs.Port.{PortState, port}
use Rattle.output_port.specs.declared.event.Priority.{Priority}
use Rattle.output_port.specs.declared.event.Priority.TheVariants as priority
use Rattle.output_port.specs.declared.event.PortEvent.{PortEvent}
use Rattle.output_port.specs.declared.event.PortEvent.TheVariants.{Put, Free}
use Rattle.output_port.specs.declared.event.PortAnswer.{PortAnswer}
use Rattle.output_port.specs.declared.event.PortAnswer.TheVariants.{Started, Kept, Dropped, Idle, Nothing}
use Rattle.port_bounds.specs.Frames.{PutFrame}
use Rattle.port_bounds.specs.Port.{Event, highs_of, lows_of}
use Rattle.port_bounds.specs.Port as bounded
use Rattle.port_bounds.specs.Sublists.{IsSublist}
use Rattle.port_bounds.specs.Arrivals.{is_of_link, moments_at}
use Rattle.port_bounds.proofs.SublistLemmas.{sub-behind}
use Rattle.element_bounds.specs.PortTrace.{PortEventAt, put_at, put_event, seen_as, trace_of}
use Rattle.nodes.specs.rules.Node.{NodeState, after}
use Rattle.port_turns.specs.PortEvents.{asks}
use Rattle.port_turns.specs.PortRuns.{asked_at, input_of, port_events, puts_with}
use Rattle.port_turns.proofs.SentKinds.{sub-map}

pub filter-sub : {X : Type 0} (test : X → Bool) (xs ys : List X) → IsSublist xs ys → IsSublist (filter test xs) (filter test ys)
filter-sub test [] ys h = tt
filter-sub test (x ∷ xs) [] h = absurd h
filter-sub test (x ∷ xs) (y ∷ ys) (inl e) = subst (λ z. IsSublist (filter test (z ∷ xs)) (filter test (y ∷ ys))) (sym e.0) (go (test y) (filter-sub test xs ys e.1))
  where
    go : (b : Bool) → IsSublist (filter test xs) (filter test ys) → IsSublist (cond b (y ∷ filter test xs) (filter test xs)) (cond b (y ∷ filter test ys) (filter test ys))
    go true k = inl (refl, k)
    go false k = k
filter-sub test (x ∷ xs) (y ∷ ys) (inr k) = go (test y) (filter-sub test (x ∷ xs) ys k)
  where
    go : (b : Bool) → IsSublist (filter test (x ∷ xs)) (filter test ys) → IsSublist (filter test (x ∷ xs)) (cond b (y ∷ filter test ys) (filter test ys))
    go true k = sub-behind (filter test (x ∷ xs)) (y ∷ []) (filter test ys) k
    go false k = k

module _ (byte_ns : ℕ) where
  -- the frames that a port is asked to take; those in its trace are some of them
  abbrev pub put_list : ℕ → ℕ → PortEvent → List PutFrame
  put_list t line (Put frame r) = put_at byte_ns t line frame ∷ []
  put_list t line Free = []

  abbrev pub asked_puts : List PortEventAt → List PutFrame
  asked_puts [] = []
  asked_puts (e ∷ es) = put_list e.at e.line e.event ++ asked_puts es

  put-asked : (k r : Priority) (x : PutFrame) (es : List Event) (xs : List PutFrame) → IsSublist (puts_with k es) xs → IsSublist (puts_with k (put_event r x ∷ es)) (x ∷ xs)
  put-asked priority.High priority.Low x es xs h = sub-behind (highs_of es) (x ∷ []) xs h
  put-asked priority.Low priority.High x es xs h = sub-behind (lows_of es) (x ∷ []) xs h
  put-asked _ _ x es xs h = inl (refl, h)

  free-asked : (k : Priority) (t : ℕ) (es : List Event) (xs : List PutFrame) → IsSublist (puts_with k es) xs → IsSublist (puts_with k (bounded.Event.Free t ∷ es)) xs
  free-asked priority.High t es xs h = h
  free-asked priority.Low t es xs h = h

  event-asked : (k : Priority) (t line : ℕ) (e : PortEvent) (a : PortAnswer) (es : List Event) (xs : List PutFrame) → IsSublist (puts_with k es) xs →
      IsSublist (puts_with k (seen_as byte_ns t line e a ++ es)) (put_list t line e ++ xs)
  event-asked k t line (Put frame r) (Started f) es xs h = put-asked k r (put_at byte_ns t line frame) es xs h
  event-asked k t line (Put frame r) Kept es xs h = put-asked k r (put_at byte_ns t line frame) es xs h
  event-asked k t line Free (Started f) es xs h = free-asked k t es xs h
  event-asked k t line Free Idle es xs h = free-asked k t es xs h
  event-asked k t line Free Kept es xs h = h
  event-asked k t line Free Dropped es xs h = h
  event-asked k t line Free Nothing es xs h = h
  event-asked k t line (Put frame r) _ es xs h = sub-behind (puts_with k es) (put_at byte_ns t line frame ∷ []) xs h

  none : (k : Priority) → IsSublist (puts_with k []) []
  none priority.High = tt
  none priority.Low = tt

  pub trace-asked : (k : Priority) (p : PortState) (es : List PortEventAt) → IsSublist (puts_with k (trace_of byte_ns p es)) (asked_puts es)
  trace-asked k p [] = none k
  trace-asked k p (e ∷ es) = event-asked k e.at e.line e.event (port.out p e.event) (trace_of byte_ns (port.after p e.event) es) (asked_puts es) (trace-asked k (port.after p e.event) es)

module _ (v : ℕ) where
  -- a frame of the virtual link is put
  abbrev pub put_of : Option PortEvent → Bool
  put_of None = false
  put_of (Some Free) = false
  put_of (Some (Put frame r)) = frame.vl.0 == v

  pub moments-are : (xs : List PutFrame) → map (λ x. x.at) (filter (is_of_link v) xs) ≡ moments_at (is_of_link v) xs
  moments-are [] = refl
  moments-are (x ∷ xs) = go (x.frame.vl.0 == v) (moments-are xs)
    where
      go : (b : Bool) → map (λ x. x.at) (filter (is_of_link v) xs) ≡ moments_at (is_of_link v) xs →
          map (λ x. x.at) (cond b (x ∷ filter (is_of_link v) xs) (filter (is_of_link v) xs)) ≡ cond b (x.at ∷ moments_at (is_of_link v) xs) (moments_at (is_of_link v) xs)
      go true h = ap (λ z. x.at ∷ z) h
      go false h = h

  -- the moments at which these messages make a node put such frames to port q, from the state s on
  abbrev pub puts_at : ℕ → NodeState → List Message → List ℕ
  puts_at q s [] = []
  puts_at q s (m ∷ ms) = cond (put_of (asks q m s.equipment)) (m.time ∷ puts_at q (after s m) ms) (puts_at q (after s m) ms)

  puts-are : (byte_ns q : ℕ) (s : NodeState) (ms : List Message) → moments_at (is_of_link v) (asked_puts byte_ns (port_events q s ms)) ≡ puts_at q s ms
  puts-are byte_ns q s [] = refl
  puts-are byte_ns q s (m ∷ ms) = go (asks q m s.equipment) (puts-are byte_ns q (after s m) ms)
    where
      go : (o : Option PortEvent) → moments_at (is_of_link v) (asked_puts byte_ns (port_events q (after s m) ms)) ≡ puts_at q (after s m) ms →
          moments_at (is_of_link v) (asked_puts byte_ns (asked_at m.time (input_of m.body s.equipment) o ++ port_events q (after s m) ms)) ≡ cond (put_of o) (m.time ∷ puts_at q (after s m) ms) (puts_at q (after s m) ms)
      go None h = h
      go (Some Free) h = h
      go (Some (Put frame r)) h = ap (λ z. cond (frame.vl.0 == v) (m.time ∷ z) z) h

  pub trace-sub : (byte_ns q : ℕ) (k : Priority) (s : NodeState) (state : PortState) (ms : List Message) → IsSublist (moments_at (is_of_link v) (puts_with k (trace_of byte_ns state (port_events q s ms)))) (puts_at q s ms)
  trace-sub byte_ns q k s state ms =
      subst (λ z. IsSublist z (puts_at q s ms)) (moments-are (puts_with k (trace_of byte_ns state (port_events q s ms))))
      (subst (IsSublist (map (λ x. x.at) (filter (is_of_link v) (puts_with k (trace_of byte_ns state (port_events q s ms)))))) (moments-are (asked_puts byte_ns (port_events q s ms)) ∙ puts-are byte_ns q s ms)
      (sub-map (λ (x : PutFrame). x.at) _ _ (filter-sub (is_of_link v) _ _ (trace-asked byte_ns k state (port_events q s ms)))))
