-- Why a port never drops a frame whose bytes no more than may wait: the frame put, counted with all that wait, is within the bound of what waits.
use Rattle.std.proofs.Common.{◌≡◌, ℕ, ◌+◌, ◌*◌, ◌<◌, ◌≤◌, Bool, true, false, cond, List, [], ◌∷◌, ◌++◌, Option, Some, None, is_some, append_assoc, refl, sym, ap, ◌∙◌, subst, arith, leb-true, le-leb}
use Rattle.std.specs.Prelude.{⊤}
use Rattle.std.proofs.lemmas.Bool.{both_ways}
use Rattle.std.proofs.lemmas.Nat.{mul-le}
use Rattle.std.proofs.lemmas.List.Sums.{sum_by-cons}
use Rattle.vlink.specs.Wire.{busy_for}
use Rattle.vlink.specs.declared.frame.Frame.{Frame}
use Rattle.frame_ring.specs.Queue.{bytes_of}
use Rattle.output_port.specs.Port as real
use Rattle.output_port.specs.Port.{PortState, may_wait, port, waiting_bytes}
use Rattle.output_port.specs.declared.event.Priority.{Priority}
use Rattle.output_port.specs.declared.event.Priority.TheVariants as priority
use Rattle.output_port.specs.declared.event.PortEvent.{PortEvent}
use Rattle.output_port.specs.declared.event.PortEvent.TheVariants.{Put, Free}
use Rattle.output_port.specs.declared.event.PortAnswer.{PortAnswer}
use Rattle.output_port.specs.declared.event.PortAnswer.TheVariants.{Dropped, Idle, Kept, Started}
use Rattle.port_bounds.specs.Frames.{IsWithin, PutFrame, cost_of}
use Rattle.port_bounds.specs.Port.{Event, IsBy, IsServed, Port, after, highs_of, idle, lows_of}
use Rattle.port_bounds.specs.Port as bounded
use Rattle.port_bounds.specs.Sublists.{Every}
use Rattle.port_bounds.proofs.FrameLemmas.{cost-append}
use Rattle.port_bounds.proofs.LowLemmas as low
use Rattle.port_bounds.proofs.StartLemmas.{of-port}
use Rattle.element_bounds.specs.PortTrace.{IsSamePort, PortEventAt, frames_of, put_at, put_event, seen_as, state_after, trace_of}
use Rattle.element_bounds.proofs.TraceLemmas.{after-append, costed, same}
use Rattle.port_turns.proofs.PortRuns.{AreAskedBy, RunsWell}
use Rattle.port_turns.proofs.Serving.{served-sooner}
use Rattle.frame_ages.proofs.GivenLemmas.{below}

-- ---- lists of events

trace-append : (byte_ns : ℕ) (p : PortState) (xs ys : List PortEventAt) → trace_of byte_ns p (xs ++ ys) ≡ trace_of byte_ns p xs ++ trace_of byte_ns (state_after p xs) ys
trace-append byte_ns p [] ys = refl
trace-append byte_ns p (e ∷ xs) ys =
    ap (λ z. seen_as byte_ns e.at e.line e.event (port.out p e.event) ++ z) (trace-append byte_ns (port.after p e.event) xs ys) ∙
    sym (append_assoc (seen_as byte_ns e.at e.line e.event (port.out p e.event)) (trace_of byte_ns (port.after p e.event) xs) (trace_of byte_ns (state_after (port.after p e.event) xs) ys))

highs-append : (xs ys : List Event) → highs_of (xs ++ ys) ≡ highs_of xs ++ highs_of ys
highs-append [] ys = refl
highs-append (bounded.Event.High x ∷ xs) ys = ap (λ z. x ∷ z) (highs-append xs ys)
highs-append (bounded.Event.Low x ∷ xs) ys = highs-append xs ys
highs-append (bounded.Event.Free t ∷ xs) ys = highs-append xs ys

lows-append : (xs ys : List Event) → lows_of (xs ++ ys) ≡ lows_of xs ++ lows_of ys
lows-append [] ys = refl
lows-append (bounded.Event.High x ∷ xs) ys = lows-append xs ys
lows-append (bounded.Event.Low x ∷ xs) ys = ap (λ z. x ∷ z) (lows-append xs ys)
lows-append (bounded.Event.Free t ∷ xs) ys = lows-append xs ys

-- the first frames have the curve of all
within-front : (scale burst rate : ℕ) (fs gs : List PutFrame) → IsWithin scale burst rate (fs ++ gs) → IsWithin scale burst rate fs
within-front scale burst rate fs gs W = record {
  bounded = λ xs ys zs t u e between. W.bounded xs ys (zs ++ gs) t u (ap (λ z. z ++ gs) e ∙ (append_assoc xs (ys ++ zs) gs ∙ ap (λ z. xs ++ z) (append_assoc ys zs gs))) between;
}

-- frames cost at least their bytes
abbrev IsCosted : ℕ → PutFrame → Type 0
IsCosted byte_ns x = x.cost ≡ busy_for x.frame.size byte_ns

bytes-cost : (byte_ns : ℕ) (xs : List PutFrame) → Every (IsCosted byte_ns) xs → bytes_of (frames_of xs) * byte_ns ≤ cost_of xs
bytes-cost byte_ns [] h = omega arith
bytes-cost byte_ns (x ∷ xs) h =
    let rest = bytes-cost byte_ns xs h.1 in
    let here = h.0 in
    let sum : bytes_of (frames_of (x ∷ xs)) ≡ x.frame.size + bytes_of (frames_of xs) = sum_by-cons (λ (f : Frame). f.size) x.frame (frames_of xs) in
    subst (λ z. z * byte_ns ≤ x.cost + cost_of xs) (sym sum) (omega arith)

-- ---- served up to a frame that is put

module _ (byte_ns t line : ℕ) where
  seen-later : (a : Port) (now from : ℕ) (e : PortEvent) (o : PortAnswer) (xs ys : List Event) → now ≤ t → IsBy t a.until → IsServed a from (seen_as byte_ns t line e o ++ xs) → IsServed (after a (seen_as byte_ns t line e o)) t ys →
      IsServed a now (seen_as byte_ns t line e o ++ ys)
  seen-later a now from (Put frame priority.High) (Started f) xs ys l b h k = (l, h.1, k)
  seen-later a now from (Put frame priority.Low) (Started f) xs ys l b h k = (l, h.1, k)
  seen-later a now from (Put frame priority.High) Kept xs ys l b h k = (l, h.1, k)
  seen-later a now from (Put frame priority.Low) Kept xs ys l b h k = (l, h.1, k)
  seen-later a now from Free (Started f) xs ys l b h k = (l, h.1, k)
  seen-later a now from Free Idle xs ys l b h k = (l, h.1, k)
  seen-later a now from _ _ xs ys l b h k = served-sooner a now t ys l k

  -- the rest is served from its moment on
  seen-rest : (a : Port) (now : ℕ) (e : PortEvent) (o : PortAnswer) (xs : List Event) → IsServed a now (seen_as byte_ns t line e o ++ xs) → (from : ℕ) × IsServed (after a (seen_as byte_ns t line e o)) from xs
  seen-rest a now (Put frame priority.High) (Started f) xs h = (t, h.2)
  seen-rest a now (Put frame priority.Low) (Started f) xs h = (t, h.2)
  seen-rest a now (Put frame priority.High) Kept xs h = (t, h.2)
  seen-rest a now (Put frame priority.Low) Kept xs h = (t, h.2)
  seen-rest a now Free (Started f) xs h = (t, h.2)
  seen-rest a now Free Idle xs h = (t, h.2)
  seen-rest a now _ _ xs h = (now, h)

put-served : (r : Priority) (x : PutFrame) (a : Port) (now : ℕ) → now ≤ x.at → IsBy x.at a.until → IsServed a now (put_event r x ∷ [])
put-served priority.High x a now l b = (l, b, tt)
put-served priority.Low x a now l b = (l, b, tt)

-- the events before a put are served, and so is that put as if it were kept
served-put : (byte_ns : ℕ) (p : PortState) (a : Port) (now : ℕ) (pre : List PortEventAt) (t line : ℕ) (frame : Frame) (r : Priority) (post : List PortEventAt) →
    AreAskedBy byte_ns p a now (pre ++ record { at = t; line = line; event = Put frame r } ∷ post) → (from : ℕ) → IsServed a from (trace_of byte_ns p (pre ++ record { at = t; line = line; event = Put frame r } ∷ post)) →
    IsServed a now (trace_of byte_ns p pre ++ put_event r (put_at byte_ns t line frame) ∷ [])
served-put byte_ns p a now [] t line frame r post h from s = put-served r (put_at byte_ns t line frame) a now h.0 h.1
served-put byte_ns p a now (e ∷ pre) t line frame r post h from s =
    let rest = seen-rest byte_ns e.at e.line a from e.event (port.out p e.event) _ s in
    subst (IsServed a now) (sym (append_assoc (seen_as byte_ns e.at e.line e.event (port.out p e.event)) (trace_of byte_ns (port.after p e.event) pre) (put_event r (put_at byte_ns t line frame) ∷ [])))
    (again (served-put byte_ns (port.after p e.event) (after a (seen_as byte_ns e.at e.line e.event (port.out p e.event))) e.at pre t line frame r post h.2 rest.0 rest.1))
  where
    again : IsServed (after a (seen_as byte_ns e.at e.line e.event (port.out p e.event))) e.at (trace_of byte_ns (port.after p e.event) pre ++ put_event r (put_at byte_ns t line frame) ∷ []) →
        IsServed a now (seen_as byte_ns e.at e.line e.event (port.out p e.event) ++ (trace_of byte_ns (port.after p e.event) pre ++ put_event r (put_at byte_ns t line frame) ∷ []))
    again k = seen-later byte_ns e.at e.line a now from e.event (port.out p e.event) (trace_of byte_ns (port.after p e.event) (pre ++ record { at = t; line = line; event = Put frame r } ∷ post)) _ h.0 h.1 s k

-- ---- a port for which more bytes may wait

abbrev grown : PortState → ℕ → PortState
grown p bytes = record p { bytes = bytes }

-- no frame is dropped
abbrev pub NoneDropped : PortState → List PortEventAt → Type 0
NoneDropped p [] = ⊤
NoneDropped p (e ∷ es) = (port.out p e.event ≡ Dropped → ⊥) × NoneDropped (port.after p e.event) es

-- a port for which more bytes may wait does the same while none is dropped
module _ (p : PortState) (bytes : ℕ) (more : p.bytes ≤ bytes) where
  record IsGrown (o big : real.Outcome) : Type 0 where
    answer : big.answer ≡ o.answer
    state : big.state ≡ grown o.state bytes

  put-grown : (frame : Frame) (q : Priority) (b w big : Bool) → (w ≡ true → big ≡ true) → ((cond b (cond w (real.keeping p frame q) (real.dropping p)) (real.at_once p frame)).answer ≡ Dropped → ⊥) →
      IsGrown (cond b (cond w (real.keeping p frame q) (real.dropping p)) (real.at_once p frame)) (cond b (cond big (real.keeping (grown p bytes) frame q) (real.dropping (grown p bytes))) (real.at_once (grown p bytes) frame))
  put-grown frame priority.High true true true h k = record { answer = refl; state = refl }
  put-grown frame q true true false h k = absurd (let e = h refl in let z : ⊥ = cc in z)
  put-grown frame q true false big h k = absurd (k refl)
  put-grown frame _ _ _ _ h k = record { answer = refl; state = refl }

  next-grown : (hs ls : List Frame) → IsGrown (real.next p hs ls) (real.next (grown p bytes) hs ls)
  next-grown [] (f ∷ ls) = record { answer = refl; state = refl }
  next-grown _ _ = record { answer = refl; state = refl }

  event-grown : (e : PortEvent) → (port.out p e ≡ Dropped → ⊥) → IsGrown (real.outcome p e) (real.outcome (grown p bytes) e)
  event-grown (Put frame q) k = put-grown frame q p.busy (may_wait p frame) (may_wait (grown p bytes) frame) (λ e. le-leb (waiting_bytes p + frame.size) bytes (let l = leb-true (waiting_bytes p + frame.size) p.bytes e in omega arith)) k
  event-grown Free k = go p.busy (next-grown p.high p.low)
    where
      go : (b : Bool) → IsGrown (real.next p p.high p.low) (real.next (grown p bytes) p.high p.low) → IsGrown (cond b (real.next p p.high p.low) (real.still_idle p)) (cond b (real.next (grown p bytes) p.high p.low) (real.still_idle (grown p bytes)))
      go true h = h
      go false h = record { answer = refl; state = refl }

bytes-stay : (p : PortState) (e : PortEvent) → (port.after p e).bytes ≡ p.bytes
bytes-stay p (Put frame q) = go p.busy (may_wait p frame) q
  where
    go : (b w : Bool) (q : Priority) → (cond b (cond w (real.keeping p frame q) (real.dropping p)) (real.at_once p frame)).state.bytes ≡ p.bytes
    go true true priority.High = refl
    go true true priority.Low = refl
    go true false q = refl
    go false w q = refl
bytes-stay p Free = go p.busy p.high p.low
  where
    go : (b : Bool) (hs ls : List Frame) → (cond b (real.next p hs ls) (real.still_idle p)).state.bytes ≡ p.bytes
    go true [] (f ∷ ls) = refl
    go _ _ _ = refl

pub bytes-after : (p : PortState) (es : List PortEventAt) → (state_after p es).bytes ≡ p.bytes
bytes-after p [] = refl
bytes-after p (e ∷ es) = bytes-after (port.after p e.event) es ∙ bytes-stay p e.event

grown-after : (byte_ns bytes : ℕ) (p : PortState) (es : List PortEventAt) → p.bytes ≤ bytes → NoneDropped p es →
    (trace_of byte_ns (grown p bytes) es ≡ trace_of byte_ns p es) × (state_after (grown p bytes) es ≡ grown (state_after p es) bytes)
grown-after byte_ns bytes p [] more h = (refl, refl)
grown-after byte_ns bytes p (e ∷ es) more h =
    let one = event-grown p bytes more e.event h.0 in
    let rest = grown-after byte_ns bytes (port.after p e.event) es (subst (λ k. k ≤ bytes) (sym (bytes-stay p e.event)) more) h.1 in (
      ap (λ a. seen_as byte_ns e.at e.line e.event a ++ trace_of byte_ns (port.after (grown p bytes) e.event) es) one.answer ∙
          (ap (λ s. seen_as byte_ns e.at e.line e.event (port.out p e.event) ++ trace_of byte_ns s es) one.state ∙ ap (λ z. seen_as byte_ns e.at e.line e.event (port.out p e.event) ++ z) rest.0),
      ap (λ s. state_after s es) one.state ∙ rest.1,
    )

-- why a frame is dropped
dropped-why : (p : PortState) (frame : Frame) (q : Priority) → port.out p (Put frame q) ≡ Dropped → (p.busy ≡ true) × (may_wait p frame ≡ false)
dropped-why p frame q h = go p.busy refl (may_wait p frame) refl h
  where
    go : (b : Bool) → p.busy ≡ b → (w : Bool) → may_wait p frame ≡ w → (cond b (cond w (real.keeping p frame q) (real.dropping p)) (real.at_once p frame)).answer ≡ Dropped → (p.busy ≡ true) × (may_wait p frame ≡ false)
    go true eb false ew k = (eb, ew)
    go _ eb _ ew k = absurd (let z : ⊥ = cc in z)

free-never : (p : PortState) → port.out p Free ≡ Dropped → ⊥
free-never p h = go p.busy p.high p.low h
  where
    go : (b : Bool) (hs ls : List Frame) → (cond b (real.next p hs ls) (real.still_idle p)).answer ≡ Dropped → ⊥
    go true [] (f ∷ ls) k = let z : ⊥ = cc in z
    go _ _ _ k = let z : ⊥ = cc in z

-- a frame put to a busy port waits
waits-more : (a : Port) (x : PutFrame) (r : Priority) → is_some a.until ≡ true → cost_of (after a (put_event r x ∷ [])).high + cost_of (after a (put_event r x ∷ [])).low ≡ (cost_of a.high + cost_of a.low) + x.cost
waits-more a x r h = go a.until h r
  where
    go : (until : Option ℕ) → is_some until ≡ true → (r : Priority) →
        cost_of (after (record { until = until; high = a.high; low = a.low }) (put_event r x ∷ [])).high + cost_of (after (record { until = until; high = a.high; low = a.low }) (put_event r x ∷ [])).low ≡ (cost_of a.high + cost_of a.low) + x.cost
    go None k r = absurd (let z : ⊥ = cc in z)
    go (Some u) k priority.High = let e = cost-append a.high (x ∷ []) in omega arith
    go (Some u) k priority.Low = let e = cost-append a.low (x ∷ []) in omega arith

state-append : (p : PortState) (xs ys : List PortEventAt) → state_after p (xs ++ ys) ≡ state_after (state_after p xs) ys
state-append p [] ys = refl
state-append p (e ∷ xs) ys = state-append (port.after p e.event) xs ys

none-push : (p : PortState) (xs : List PortEventAt) (e : PortEventAt) → NoneDropped p xs → (port.out (state_after p xs) e.event ≡ Dropped → ⊥) → NoneDropped p (xs ++ e ∷ [])
none-push p [] e h k = (k, tt)
none-push p (x ∷ xs) e h k = (h.0, none-push (port.after p x.event) xs e h.1 k)

module _ (byte_ns bytes u bh rh bl rl : ℕ) (p : PortState) (es : List PortEventAt) (empty : IsSamePort p idle) (runs : RunsWell byte_ns p idle 0 es) (slow : rh + rl ≤ u)
    (high-within : (other : PortState) → IsWithin u bh rh (highs_of (trace_of byte_ns other es))) (low-within : (other : PortState) → IsWithin u bl rl (lows_of (trace_of byte_ns other es)))
    (bound : bh + bl < (u * byte_ns) * (bytes + 1)) (room : bytes ≤ p.bytes) where
  -- with all that waits a frame that is put has no more bytes than the bound
  few : (pre post : List PortEventAt) (t line : ℕ) (frame : Frame) (r : Priority) → es ≡ pre ++ record { at = t; line = line; event = Put frame r } ∷ post → NoneDropped p pre → (state_after p pre).busy ≡ true →
      waiting_bytes (state_after p pre) + frame.size ≤ bytes
  few pre post t line frame r are none busy =
      let now : PortState = state_after p pre in
      let k : ℕ = p.bytes + (waiting_bytes now + frame.size) in
      let x : PutFrame = put_at byte_ns t line frame in
      let first : List Event = trace_of byte_ns p pre ++ put_event r x ∷ [] in
      let rest : List Event = trace_of byte_ns (port.after (grown now k) (Put frame r)) post in
      let a : Port = after idle (trace_of byte_ns p pre) in
      let alike = (same byte_ns p idle pre empty).0 in
      let kept : port.out (grown now k) (Put frame r) ≡ Kept = keeps now k frame r busy (omega arith) in
      let big = grown-after byte_ns k p pre (omega arith) none in
      let whole : trace_of byte_ns (grown p k) es ≡ first ++ rest =
      ap (trace_of byte_ns (grown p k)) are ∙ (trace-append byte_ns (grown p k) pre (record { at = t; line = line; event = Put frame r } ∷ post) ∙
      (ap (λ z. z ++ trace_of byte_ns (state_after (grown p k) pre) (record { at = t; line = line; event = Put frame r } ∷ post)) big.0 ∙
      (ap (λ s. trace_of byte_ns p pre ++ trace_of byte_ns s (record { at = t; line = line; event = Put frame r } ∷ post)) big.1 ∙
      (ap (λ o. trace_of byte_ns p pre ++ (seen_as byte_ns t line (Put frame r) o ++ rest)) kept ∙
      sym (append_assoc (trace_of byte_ns p pre) (put_event r x ∷ []) rest))))) in
      let served : IsServed idle 0 first = served-put byte_ns p idle 0 pre t line frame r post (subst (AreAskedBy byte_ns p idle 0) are runs.asked) 0 (subst (λ z. IsServed idle 0 (trace_of byte_ns p z)) are runs.served) in
      let highs : IsWithin u bh rh (highs_of first) = within-front u bh rh (highs_of first) (highs_of rest) (subst (IsWithin u bh rh) (ap highs_of whole ∙ highs-append first rest) (high-within (grown p k))) in
      let lows : IsWithin u bl rl (lows_of first) = within-front u bl rl (lows_of first) (lows_of rest) (subst (IsWithin u bl rl) (ap lows_of whole ∙ lows-append first rest) (low-within (grown p k))) in
      let backlog = low.backlog u bh rh bl rl first slow served highs lows in
      let more : cost_of (after idle first).high + cost_of (after idle first).low ≡ (cost_of a.high + cost_of a.low) + x.cost =
      ap (λ z. cost_of z.high + cost_of z.low) (after-append idle (trace_of byte_ns p pre) (put_event r x ∷ [])) ∙ waits-more a x r (sym alike.busy ∙ busy) in
      let costs = costed byte_ns p pre in
      let put = of-port (IsCosted byte_ns) (IsCosted byte_ns) (trace_of byte_ns p pre) None [] [] tt tt costs.high costs.low in
      let high-bytes : bytes_of now.high * byte_ns ≤ cost_of a.high = subst (λ z. bytes_of z * byte_ns ≤ cost_of a.high) (sym alike.high) (bytes-cost byte_ns a.high put.2) in
      let low-bytes : bytes_of now.low * byte_ns ≤ cost_of a.low = subst (λ z. bytes_of z * byte_ns ≤ cost_of a.low) (sym alike.low) (bytes-cost byte_ns a.low put.3) in
      sums u byte_ns (bytes_of now.high) (bytes_of now.low) frame.size (cost_of a.high) (cost_of a.low) x.cost (bh + bl) bytes high-bytes low-bytes (omega arith) (subst (λ z. u * z ≤ bh + bl) more backlog) bound
    where
      keeps : (now : PortState) (k : ℕ) (frame : Frame) (r : Priority) → now.busy ≡ true → waiting_bytes now + frame.size ≤ k → port.out (grown now k) (Put frame r) ≡ Kept
      keeps now k frame r b l = ap (λ z. (cond z (cond (may_wait (grown now k) frame) (real.keeping (grown now k) frame r) (real.dropping (grown now k))) (real.at_once (grown now k) frame)).answer) b ∙
          ap (λ z. (cond z (real.keeping (grown now k) frame r) (real.dropping (grown now k))).answer) (le-leb (waiting_bytes now + frame.size) k l)

      sums : (u byte h l f ch cl cx burst bytes : ℕ) → h * byte ≤ ch → l * byte ≤ cl → f * byte ≤ cx → u * ((ch + cl) + cx) ≤ burst → burst < (u * byte) * (bytes + 1) → (h + l) + f ≤ bytes
      sums u byte h l f ch cl cx burst bytes a b c d e =
          let all : u * (((h + l) + f) * byte) ≤ u * ((ch + cl) + cx) = mul-le u (((h + l) + f) * byte) u ((ch + cl) + cx) (omega arith) (omega arith) in
          let turned : (u * byte) * ((h + l) + f) ≡ u * (((h + l) + f) * byte) = omega arith in
          below (u * byte) ((h + l) + f) bytes (omega arith)

  put-fits : (pre post : List PortEventAt) (t line : ℕ) (frame : Frame) (r : Priority) → es ≡ pre ++ record { at = t; line = line; event = Put frame r } ∷ post → NoneDropped p pre → port.out (state_after p pre) (Put frame r) ≡ Dropped → ⊥
  put-fits pre post t line frame r are none h =
      let why = dropped-why (state_after p pre) frame r h in
      let within = few pre post t line frame r are none why.0 in
      let stays = bytes-after p pre in
      both_ways _ why.1 (le-leb (waiting_bytes (state_after p pre) + frame.size) (state_after p pre).bytes (omega arith))

  rest-fits : (pre post : List PortEventAt) → es ≡ pre ++ post → NoneDropped p pre → NoneDropped (state_after p pre) post
  rest-fits pre [] are none = tt
  rest-fits pre (e ∷ post) are none =
      (here, subst (λ s. NoneDropped s post) (state-append p pre (e ∷ [])) (rest-fits (pre ++ e ∷ []) post (are ∙ sym (append_assoc pre (e ∷ []) post)) (none-push p pre e none here)))
    where
      here : port.out (state_after p pre) e.event ≡ Dropped → ⊥
      here = go e are
        where
          go : (e : PortEventAt) → es ≡ pre ++ e ∷ post → port.out (state_after p pre) e.event ≡ Dropped → ⊥
          go e k = by e.event k
            where
              by : (event : PortEvent) → es ≡ pre ++ record { at = e.at; line = e.line; event = event } ∷ post → port.out (state_after p pre) event ≡ Dropped → ⊥
              by (Put frame r) k h = put-fits pre post e.at e.line frame r k none h
              by Free k h = free-never (state_after p pre) h

  pub none-dropped : NoneDropped p es
  none-dropped = rest-fits [] es refl tt
