-- Why the port of which bounds are known is served in the one-thread run.
use Rattle.std.proofs.Common.{◌≡◌, ℕ, ◌+◌, ◌≤◌, Bool, true, false, cond, List, [], ◌∷◌, ◌++◌, Option, Some, None, is_some, refl, sym, ap, ◌∙◌, subst, arith}
use Rattle.vlink.specs.Wire.{busy_for}
use Rattle.vlink.specs.declared.frame.Frame.{Frame}
use Rattle.output_port.specs.declared.event.Priority.{Priority}
use Rattle.output_port.specs.declared.event.Priority.TheVariants as priority
use Rattle.output_port.specs.declared.event.PortEvent.{PortEvent}
use Rattle.output_port.specs.declared.event.PortEvent.TheVariants.{Put, Free}
use Rattle.output_port.specs.Port as real
use Rattle.output_port.specs.Port.{PortState, may_wait}
use Rattle.port_bounds.specs.Frames.{PutFrame}
use Rattle.port_bounds.specs.Sublists.{Every}
use Rattle.port_bounds.proofs.SublistLemmas.{every-push}
use Rattle.port_bounds.specs.Port as bounded
use Rattle.port_bounds.specs.Port.{Event, IsBy, IsServed, Port, after}
use Rattle.element_bounds.specs.PortTrace.{IsSamePort, frames_of, put_at, seen_as}
use Rattle.nodes.specs.declared.ports.LineAhead.{LineAhead}
use Rattle.nodes.specs.rules.Ports.{answered}
use Rattle.port_turns.specs.PortTimer.{frees, set_by}
use Rattle.port_turns.proofs.Turns.{frees-start}

-- each frame costs the time for which it keeps the line busy
abbrev pub AreCosted : ℕ → List PutFrame → Type 0
AreCosted byte_ns xs = Every (λ x. x.cost ≡ busy_for x.frame.size byte_ns) xs

-- from an earlier moment on
pub served-sooner : (a : Port) (now t : ℕ) (es : List Event) → now ≤ t → IsServed a t es → IsServed a now es
served-sooner a now t [] l h = tt
served-sooner a now t (bounded.Event.High x ∷ es) l h = (omega (arith, h.0), h.1, h.2)
served-sooner a now t (bounded.Event.Low x ∷ es) l h = (omega (arith, h.0), h.1, h.2)
served-sooner a now t (bounded.Event.Free u ∷ es) l h = (omega (arith, h.0), h.1, h.2)

module _ (n t q line : ℕ) (ahead : LineAhead) (g : Option ℕ) where
  -- an event with this outcome: the timer is set as the other port is busy, costs stay, and where the rest is served all is
  pub record Goes (a : Port) (e : PortEvent) (o : real.Outcome) : Type 0 where
    pub set : set_by (frees q (answered n t q ahead e o.answer).wishes) o.state.busy g ≡ (after a (seen_as ahead.byte_ns t line e o.answer)).until
    pub high : AreCosted ahead.byte_ns (after a (seen_as ahead.byte_ns t line e o.answer)).high
    pub low : AreCosted ahead.byte_ns (after a (seen_as ahead.byte_ns t line e o.answer)).low
    pub served : (now : ℕ) (tr : List Event) → now ≤ t → IsServed (after a (seen_as ahead.byte_ns t line e o.answer)) t tr → IsServed a now (seen_as ahead.byte_ns t line e o.answer ++ tr)

  abbrev as_port : Option ℕ → List PutFrame → List PutFrame → Port
  as_port until hs ls = record { until = until; high = hs; low = ls }

  begin : (p : PortState) (hs ls : List PutFrame) (frame : Frame) (r : Priority) → AreCosted ahead.byte_ns hs → AreCosted ahead.byte_ns ls → Goes (as_port None hs ls) (Put frame r) (real.at_once p frame)
  begin p hs ls frame priority.High c d = record { set = rw (frees-start n t q ahead frame) refl; high = c; low = d; served = λ now tr l h. (l, tt, h) }
  begin p hs ls frame priority.Low c d = record { set = rw (frees-start n t q ahead frame) refl; high = c; low = d; served = λ now tr l h. (l, tt, h) }

  stays : (b : Bool) (u : ℕ) → b ≡ true → g ≡ Some u → set_by [] b g ≡ Some u
  stays true u e s = s
  stays false u e s = absurd (let z : ⊥ = cc in z)

  keep : (p : PortState) (u : ℕ) (hs ls : List PutFrame) (frame : Frame) (r : Priority) → p.busy ≡ true → g ≡ Some u → t ≤ u → AreCosted ahead.byte_ns hs → AreCosted ahead.byte_ns ls →
      Goes (as_port (Some u) hs ls) (Put frame r) (real.keeping p frame r)
  keep p u hs ls frame priority.High b s l c d = record { set = stays p.busy u b s; high = every-push (λ x. x.cost ≡ busy_for x.frame.size ahead.byte_ns) hs (put_at ahead.byte_ns t line frame) c refl; low = d; served = λ now tr k h. (k, l, h) }
  keep p u hs ls frame priority.Low b s l c d = record { set = stays p.busy u b s; high = c; low = every-push (λ x. x.cost ≡ busy_for x.frame.size ahead.byte_ns) ls (put_at ahead.byte_ns t line frame) d refl; served = λ now tr k h. (k, l, h) }

  put-goes : (p : PortState) (until : Option ℕ) (hs ls : List PutFrame) (frame : Frame) (r : Priority) → p.busy ≡ is_some until → g ≡ until → IsBy t until → AreCosted ahead.byte_ns hs → AreCosted ahead.byte_ns ls →
      Goes (as_port until hs ls) (Put frame r) (real.put p frame r)
  put-goes p None hs ls frame r b s l c d =
      subst (λ z. Goes (as_port None hs ls) (Put frame r) (cond z (cond (may_wait p frame) (real.keeping p frame r) (real.dropping p)) (real.at_once p frame))) (sym b) (begin p hs ls frame r c d)
  put-goes p (Some u) hs ls frame r b s l c d =
      subst (λ z. Goes (as_port (Some u) hs ls) (Put frame r) (cond z (cond (may_wait p frame) (real.keeping p frame r) (real.dropping p)) (real.at_once p frame))) (sym b) (go (may_wait p frame))
    where
      go : (w : Bool) → Goes (as_port (Some u) hs ls) (Put frame r) (cond w (real.keeping p frame r) (real.dropping p))
      go true = keep p u hs ls frame r b s l c d
      go false = record { set = stays p.busy u b s; high = c; low = d; served = λ now tr k h. served-sooner (as_port (Some u) hs ls) now t tr k h }

  next-goes : (p : PortState) (hs ls : List PutFrame) (fs gs : List Frame) → fs ≡ frames_of hs → gs ≡ frames_of ls → AreCosted ahead.byte_ns hs → AreCosted ahead.byte_ns ls →
      Goes (as_port (Some t) hs ls) Free (real.next p fs gs)
  next-goes p (x ∷ hs) ls (f ∷ fs) gs h l c d =
      let head : f ≡ x.frame = cc in
      record { set = rw (frees-start n t q ahead f) (ap (λ (z : Frame). Some (t + busy_for z.size ahead.byte_ns)) head ∙ ap (λ k. Some (t + k)) (sym c.0)); high = c.1; low = d; served = λ now tr k s. (k, refl, s) }
  next-goes p [] (x ∷ ls) [] (f ∷ gs) h l c d =
      let head : f ≡ x.frame = cc in
      record { set = rw (frees-start n t q ahead f) (ap (λ (z : Frame). Some (t + busy_for z.size ahead.byte_ns)) head ∙ ap (λ k. Some (t + k)) (sym d.0)); high = tt; low = d.1; served = λ now tr k s. (k, refl, s) }
  next-goes p [] [] [] [] h l c d = record { set = refl; high = tt; low = tt; served = λ now tr k s. (k, refl, s) }
  next-goes p _ _ _ _ h l c d = absurd (let z : ⊥ = cc in z)

  free-goes : (p : PortState) (until : Option ℕ) (hs ls : List PutFrame) → p.busy ≡ is_some until → until ≡ Some t → p.high ≡ frames_of hs → p.low ≡ frames_of ls → AreCosted ahead.byte_ns hs → AreCosted ahead.byte_ns ls →
      Goes (as_port until hs ls) Free (real.free p)
  free-goes p until hs ls b e h l c d =
      subst (λ z. Goes (as_port until hs ls) Free (cond z (real.next p p.high p.low) (real.still_idle p))) (sym (b ∙ ap is_some e))
      (subst (λ z. Goes (as_port z hs ls) Free (real.next p p.high p.low)) (sym e) (next-goes p hs ls p.high p.low h l c d))

  -- an event at a port that is the same as the other one, where a frame is put no later than that is free, and it is freed when it is
  pub goes : (p : PortState) (a : Port) (e : PortEvent) → IsSamePort p a → g ≡ a.until → IsBy t a.until → (e ≡ Free → a.until ≡ Some t) →
      AreCosted ahead.byte_ns a.high → AreCosted ahead.byte_ns a.low → Goes a e (real.outcome p e)
  goes p a (Put frame r) s set by free c d = put-goes p a.until a.high a.low frame r s.busy set by c d
  goes p a Free s set by free c d = free-goes p a.until a.high a.low s.busy (free refl) s.high s.low c d
