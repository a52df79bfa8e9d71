-- Why an output port does what the port of which bounds are known does.
use Rattle.std.proofs.Common.{◌≡◌, ℕ, Bool, true, false, cond, List, [], ◌∷◌, ◌++◌, map, Option, Some, None, is_some, append_assoc, refl, sym, ap, ◌∙◌, subst}
use Rattle.std.specs.Prelude.{⊤}
use Rattle.std.proofs.lemmas.List.{map-append}
use Rattle.vlink.specs.Wire.{busy_for}
use Rattle.vlink.specs.declared.frame.Frame.{Frame}
use Rattle.output_port.specs.declared.event.Priority.{Priority}
use Rattle.output_port.specs.declared.event.Priority.TheVariants as priority
use Rattle.output_port.specs.declared.event.PortEvent.{PortEvent}
use Rattle.output_port.specs.declared.event.PortEvent.TheVariants as event
use Rattle.output_port.specs.declared.event.PortAnswer.{PortAnswer}
use Rattle.output_port.specs.declared.event.PortAnswer.TheVariants.{Started, Kept, Idle}
use Rattle.output_port.specs.Port as real
use Rattle.output_port.specs.Port.{PortState, port, may_wait}
use Rattle.port_bounds.specs.Frames.{PutFrame}
use Rattle.port_bounds.specs.Port.{Event, Port, Start, after, highs_of, lows_of, outcome, starts_of}
use Rattle.port_bounds.specs.Sublists.{Every}
use Rattle.element_bounds.specs.PortTrace.{FrameStart, IsSamePort, PortEventAt, frames_of, put_at, put_event, seen_as, started_by, started_of, state_after, trace_of}

-- a start, as it is told of a real port
abbrev told : Start → FrameStart
told s = record { frame = s.put.frame; at = s.at }

-- one event: what follows of it, and what it is for the other port
record IsStep (p : PortState) (a : Port) (starts : List FrameStart) (es : List Event) : Type 0 where
  same : IsSamePort p (after a es)
  starts_same : starts ≡ map told (starts_of a es)

module _ (byte_ns t line : ℕ) where
  abbrev Steps : Port → PortEvent → real.Outcome → Type 0
  Steps a e o = IsStep o.state a (started_by t o.answer) (seen_as byte_ns t line e o.answer)

  push : (xs : List PutFrame) (x : PutFrame) (fs : List Frame) → fs ≡ frames_of xs → fs ++ x.frame ∷ [] ≡ frames_of (xs ++ x ∷ [])
  push xs x fs e = ap (λ z. z ++ x.frame ∷ []) e ∙ sym (map-append (λ (y : PutFrame). y.frame) xs (x ∷ []))

  keep : (p : PortState) (u : ℕ) (hs ls : List PutFrame) (frame : Frame) (q : Priority) → p.busy ≡ true → p.high ≡ frames_of hs → p.low ≡ frames_of ls →
      Steps (record { until = Some u; high = hs; low = ls }) (event.Put frame q) (real.keeping p frame q)
  keep p u hs ls frame priority.High b h l = record { same = record { busy = b; high = push hs (put_at byte_ns t line frame) p.high h; low = l }; starts_same = refl }
  keep p u hs ls frame priority.Low b h l = record { same = record { busy = b; high = h; low = push ls (put_at byte_ns t line frame) p.low l }; starts_same = refl }

  begin : (p : PortState) (hs ls : List PutFrame) (frame : Frame) (q : Priority) → p.high ≡ frames_of hs → p.low ≡ frames_of ls →
      Steps (record { until = None; high = hs; low = ls }) (event.Put frame q) (real.at_once p frame)
  begin p hs ls frame priority.High h l = record { same = record { busy = refl; high = h; low = l }; starts_same = refl }
  begin p hs ls frame priority.Low h l = record { same = record { busy = refl; high = h; low = l }; starts_same = refl }

  put-step : (p : PortState) (until : Option ℕ) (hs ls : List PutFrame) (frame : Frame) (q : Priority) → p.busy ≡ is_some until → p.high ≡ frames_of hs → p.low ≡ frames_of ls →
      Steps (record { until = until; high = hs; low = ls }) (event.Put frame q) (real.put p frame q)
  put-step p None hs ls frame q b h l =
      subst (λ z. Steps (record { until = None; high = hs; low = ls }) (event.Put frame q) (cond z (cond (may_wait p frame) (real.keeping p frame q) (real.dropping p)) (real.at_once p frame))) (sym b) (begin p hs ls frame q h l)
  put-step p (Some u) hs ls frame q b h l =
      subst (λ z. Steps (record { until = Some u; high = hs; low = ls }) (event.Put frame q) (cond z (cond (may_wait p frame) (real.keeping p frame q) (real.dropping p)) (real.at_once p frame))) (sym b) (go (may_wait p frame))
    where
      go : (w : Bool) → Steps (record { until = Some u; high = hs; low = ls }) (event.Put frame q) (cond w (real.keeping p frame q) (real.dropping p))
      go true = keep p u hs ls frame q b h l
      go false = record { same = record { busy = b; high = h; low = l }; starts_same = refl }

  next-step : (p : PortState) (u : ℕ) (hs ls : List PutFrame) (fs gs : List Frame) → p.busy ≡ true → p.high ≡ fs → p.low ≡ gs → fs ≡ frames_of hs → gs ≡ frames_of ls →
      Steps (record { until = Some u; high = hs; low = ls }) event.Free (real.next p fs gs)
  next-step p u (x ∷ hs) ls (f ∷ fs) gs b ph pl h l =
      let head : f ≡ x.frame = cc in
      let rest : fs ≡ frames_of hs = cc in
      record { same = record { busy = b; high = rest; low = pl ∙ l }; starts_same = rw head refl }
  next-step p u [] (x ∷ ls) [] (g ∷ gs) b ph pl h l =
      let head : g ≡ x.frame = cc in
      let rest : gs ≡ frames_of ls = cc in
      record { same = record { busy = b; high = ph; low = rest }; starts_same = rw head refl }
  next-step p u [] [] [] [] b ph pl h l = record { same = record { busy = refl; high = ph; low = pl }; starts_same = refl }
  next-step p u _ _ _ _ b ph pl h l = absurd (let z : ⊥ = cc in z)

  free-step : (p : PortState) (until : Option ℕ) (hs ls : List PutFrame) → p.busy ≡ is_some until → p.high ≡ frames_of hs → p.low ≡ frames_of ls →
      Steps (record { until = until; high = hs; low = ls }) event.Free (real.free p)
  free-step p None hs ls b h l =
      subst (λ z. Steps (record { until = None; high = hs; low = ls }) event.Free (cond z (real.next p p.high p.low) (real.still_idle p))) (sym b) (record { same = record { busy = b; high = h; low = l }; starts_same = refl })
  free-step p (Some u) hs ls b h l =
      subst (λ z. Steps (record { until = Some u; high = hs; low = ls }) event.Free (cond z (real.next p p.high p.low) (real.still_idle p))) (sym b) (next-step p u hs ls p.high p.low b refl refl h l)

  step : (p : PortState) (a : Port) (e : PortEvent) → IsSamePort p a → IsStep (port.after p e) a (started_by t (port.out p e)) (seen_as byte_ns t line e (port.out p e))
  step p a (event.Put frame q) s = put-step p a.until a.high a.low frame q s.busy s.high s.low
  step p a event.Free s = free-step p a.until a.high a.low s.busy s.high s.low

-- the other port over events of which some come first
pub after-append : (a : Port) (xs ys : List Event) → after a (xs ++ ys) ≡ after (after a xs) ys
after-append a [] ys = refl
after-append a (x ∷ xs) ys = after-append (outcome a x).port xs ys

starts-append : (a : Port) (xs ys : List Event) → starts_of a (xs ++ ys) ≡ starts_of a xs ++ starts_of (after a xs) ys
starts-append a [] ys = refl
starts-append a (x ∷ xs) ys =
    ap (λ z. ((outcome a x).high ++ (outcome a x).low) ++ z) (starts-append (outcome a x).port xs ys) ∙
    sym (append_assoc ((outcome a x).high ++ (outcome a x).low) (starts_of (outcome a x).port xs) (starts_of (after (outcome a x).port xs) ys))

pub same : (byte_ns : ℕ) (p : PortState) (a : Port) (es : List PortEventAt) → IsSamePort p a →
    IsSamePort (state_after p es) (after a (trace_of byte_ns p es)) × (started_of p es ≡ map told (starts_of a (trace_of byte_ns p es)))
same byte_ns p a [] s = (s, refl)
same byte_ns p a (e ∷ es) s =
    let now = seen_as byte_ns e.at e.line e.event (port.out p e.event) in
    let later = trace_of byte_ns (port.after p e.event) es in
    let one = step byte_ns e.at e.line p a e.event s in
    let rest = same byte_ns (port.after p e.event) (after a now) es one.same in (
      subst (IsSamePort (state_after (port.after p e.event) es)) (sym (after-append a now later)) rest.0,
      ap (λ z. z ++ started_of (port.after p e.event) es) one.starts_same ∙ (ap (λ z. map told (starts_of a now) ++ z) rest.1 ∙
          (sym (map-append told (starts_of a now) (starts_of (after a now) later)) ∙ ap (map told) (sym (starts-append a now later)))),
    )

-- ---- what holds of each frame that a port is asked to take holds of each in the trace

-- P speaks of the priority, too
module _ (P : Priority → PutFrame → Type 0) (byte_ns : ℕ) where
  abbrev pub OfAsked : ℕ → ℕ → PortEvent → Type 0
  OfAsked t line (event.Put frame q) = P q (put_at byte_ns t line frame)
  OfAsked t line event.Free = ⊤

  pub record AllPuts (es : List Event) : Type 0 where
    pub high : Every (P priority.High) (highs_of es)
    pub low : Every (P priority.Low) (lows_of es)

  put-puts : (q : Priority) (x : PutFrame) (es : List Event) → P q x → AllPuts es → AllPuts (put_event q x ∷ es)
  put-puts priority.High x es p h = record { high = (p, h.high); low = h.low }
  put-puts priority.Low x es p h = record { high = h.high; low = (p, h.low) }

  seen-puts : (t line : ℕ) (e : PortEvent) (a : PortAnswer) (es : List Event) → OfAsked t line e → AllPuts es → AllPuts (seen_as byte_ns t line e a ++ es)
  seen-puts t line (event.Put frame q) (Started f) es p h = put-puts q (put_at byte_ns t line frame) es p h
  seen-puts t line (event.Put frame q) Kept es p h = put-puts q (put_at byte_ns t line frame) es p h
  seen-puts t line event.Free (Started f) es p h = record { high = h.high; low = h.low }
  seen-puts t line event.Free Idle es p h = record { high = h.high; low = h.low }
  seen-puts t line _ _ es p h = h

  pub trace-puts : (p : PortState) (es : List PortEventAt) → Every (λ e. OfAsked e.at e.line e.event) es → AllPuts (trace_of byte_ns p es)
  trace-puts p [] h = record { high = tt; low = tt }
  trace-puts p (e ∷ es) h = seen-puts e.at e.line e.event (port.out p e.event) (trace_of byte_ns (port.after p e.event) es) h.0 (trace-puts (port.after p e.event) es h.1)

-- each frame costs the time for which it keeps the line busy
pub costed : (byte_ns : ℕ) (p : PortState) (es : List PortEventAt) → AllPuts (λ r x. x.cost ≡ busy_for x.frame.size byte_ns) byte_ns (trace_of byte_ns p es)
costed byte_ns p es = trace-puts (λ r x. x.cost ≡ busy_for x.frame.size byte_ns) byte_ns p es (each es)
  where
    one : (t line : ℕ) (e : PortEvent) → OfAsked (λ r x. x.cost ≡ busy_for x.frame.size byte_ns) byte_ns t line e
    one t line (event.Put frame r) = refl
    one t line event.Free = tt

    each : (es : List PortEventAt) → Every (λ e. OfAsked (λ r x. x.cost ≡ busy_for x.frame.size byte_ns) byte_ns e.at e.line e.event) es
    each [] = tt
    each (e ∷ es) = (one e.at e.line e.event, each es)
