-- Frames that wait at output ports, and that start, were put to them.
use Rattle.std.proofs.Common.{◌≡◌, ℕ, Bool, true, false, cond, List, [], ◌∷◌, All, IfSome, Option, Some, None, slice_get, refl, ap, ◌∙◌}
use Rattle.std.specs.Prelude.{⊤}
use Rattle.std.proofs.lemmas.Option.{option_and_then_some}
use Rattle.std.proofs.lemmas.List.Elements.{All-cons, All-head, All-nil, All-push, All-set, All-tail}
use Rattle.vlink.specs.declared.frame.Frame.{Frame}
use Rattle.vlink.specs.declared.message.Body.{Body}
use Rattle.vlink.specs.declared.message.Body.TheVariants as body
use Rattle.output_port.specs.Port as real
use Rattle.output_port.specs.Port.{PortState, port, may_wait}
use Rattle.output_port.specs.declared.event.Priority.{Priority}
use Rattle.output_port.specs.declared.event.Priority.TheVariants as priority
use Rattle.output_port.specs.declared.event.PortEvent.{PortEvent}
use Rattle.output_port.specs.declared.event.PortEvent.TheVariants.{Put, Free}
use Rattle.output_port.specs.declared.event.PortAnswer.{PortAnswer}
use Rattle.output_port.specs.declared.event.PortAnswer.TheVariants as answer
use Rattle.reverse.specs.Sending.{Wish}
use Rattle.nodes.specs.declared.ports.LineAhead.{LineAhead}
use Rattle.nodes.specs.declared.ports.Outlet.{Outlet}
use Rattle.nodes.specs.rules.Ports.{PortsState, answered, changed, changed_at, outlet_at, reply, reply_at}
use Rattle.nodes.specs.laws.Places.{All-there}
use Rattle.nodes.specs.laws.Ports.{carrying, freeing}

pub there : (ports : PortsState) (q : ℕ) (outlet : Outlet) → outlet_at ports q ≡ Some outlet → slice_get ports q ≡ Some (Some outlet)
there ports q outlet is = option_and_then_some (λ o. o) (slice_get ports q) outlet is (λ o read same. read ∙ ap Some same)

module _ (P : Frame → Type 0) where
  -- each frame that waits at the port has P; so has one that is put; and one that starts
  pub record AllWaitAt (p : PortState) : Type 0 where
    pub high : All P p.high
    pub low : All P p.low

  abbrev pub OfPut : PortEvent → Type 0
  OfPut (Put frame r) = P frame
  OfPut Free = ⊤

  abbrev OfStart : PortAnswer → Type 0
  OfStart (answer.Started frame) = P frame
  OfStart _ = ⊤

  record Keeps (o : real.Outcome) : Type 0 where
    waiting : AllWaitAt o.state
    start : OfStart o.answer

  port-keeps : (p : PortState) (e : PortEvent) → AllWaitAt p → OfPut e → Keeps (real.outcome p e)
  port-keeps p (Put frame q) h k = go p.busy (may_wait p frame)
    where
      kept : (q : Priority) → Keeps (real.keeping p frame q)
      kept priority.High = record { waiting = record { high = All-push P p.high frame h.high k; low = h.low }; start = tt }
      kept priority.Low = record { waiting = record { high = h.high; low = All-push P p.low frame h.low k }; start = tt }

      go : (b c : Bool) → Keeps (cond b (cond c (real.keeping p frame q) (real.dropping p)) (real.at_once p frame))
      go true true = kept q
      go true false = record { waiting = h; start = tt }
      go false c = record { waiting = record { high = h.high; low = h.low }; start = k }
  port-keeps p Free h k = go p.busy (next p.high p.low h.high h.low)
    where
      next : (hs ls : List Frame) → All P hs → All P ls → Keeps (real.next p hs ls)
      next (frame ∷ hs) ls a b = record { waiting = record { high = All-tail P frame hs a; low = h.low }; start = All-head P frame hs a }
      next [] (frame ∷ ls) a b = record { waiting = record { high = h.high; low = All-tail P frame ls b }; start = All-head P frame ls b }
      next [] [] a b = record { waiting = record { high = h.high; low = h.low }; start = tt }

      go : (b : Bool) → Keeps (real.next p p.high p.low) → Keeps (cond b (real.next p p.high p.low) (real.still_idle p))
      go true k = k
      go false k = record { waiting = h; start = tt }

  -- the same of all ports of a node, and what follows is carried with P
  abbrev pub AllWaitAtPorts : PortsState → Type 0
  AllWaitAtPorts ports = All (λ slot. IfSome slot (λ outlet. AllWaitAt outlet.port)) ports

  abbrev pub IsCarryOf : Body → Type 0
  IsCarryOf (body.Carry frame) = P frame
  IsCarryOf (body.PortFree p) = ⊤
  IsCarryOf _ = ⊥

  abbrev pub IsPortWish : Wish → Type 0
  IsPortWish w = IsCarryOf w.body

  at-port : (ports : PortsState) (q : ℕ) (outlet : Outlet) → AllWaitAtPorts ports → outlet_at ports q ≡ Some outlet → AllWaitAt outlet.port
  at-port ports q outlet h is = All-there (λ slot. IfSome slot (λ outlet. AllWaitAt outlet.port)) ports q (Some outlet) h (there ports q outlet is)

  pub changed-keeps : (q : ℕ) (e : PortEvent) (ports : PortsState) → AllWaitAtPorts ports → OfPut e → AllWaitAtPorts (changed q e ports)
  changed-keeps q e ports h k = go (outlet_at ports q) refl
    where
      go : (o : Option Outlet) → outlet_at ports q ≡ o → AllWaitAtPorts (changed_at q e ports o)
      go None is = h
      go (Some outlet) is =
          All-set (λ slot. IfSome slot (λ outlet. AllWaitAt outlet.port)) ports q (Some (record outlet { port = port.after outlet.port e }))
          (port-keeps outlet.port e (at-port ports q outlet h is) k).waiting h

  pub reply-keeps : (n t q : ℕ) (e : PortEvent) (ports : PortsState) → AllWaitAtPorts ports → OfPut e → All IsPortWish (reply n t q e ports).wishes
  reply-keeps n t q e ports h k = go (outlet_at ports q) refl
    where
      by-answer : (ahead : LineAhead) (e : PortEvent) (a : PortAnswer) → OfStart a → All IsPortWish (answered n t q ahead e a).wishes
      by-answer ahead e (answer.Started frame) s = All-cons IsPortWish (carrying t ahead frame) (freeing n t q ahead frame ∷ []) s (All-cons IsPortWish (freeing n t q ahead frame) [] tt (All-nil IsPortWish))
      by-answer ahead (Put frame r) answer.Dropped s = All-nil IsPortWish
      by-answer ahead _ _ s = All-nil IsPortWish

      go : (o : Option Outlet) → outlet_at ports q ≡ o → All IsPortWish (reply_at n t q e o).wishes
      go None is = All-nil IsPortWish
      go (Some outlet) is = by-answer outlet.ahead e (port.out outlet.port e) (port-keeps outlet.port e (at-port ports q outlet h is) k).start
