-- What holds of each frame that is offered holds of each that waits at an end system, and of each that is put to one of its ports.
use Rattle.std.proofs.Common.{◌≡◌, ℕ, ◌==◌, ◌&&◌, Bool, true, false, cond, All, Option, Some, None, refl, sym, ap, subst}
use Rattle.std.specs.Prelude.{⊤}
use Rattle.std.proofs.lemmas.List.Elements.{All-set}
use Rattle.vlink.specs.declared.frame.Frame.{Frame}
use Rattle.vlink.specs.declared.frame.Net.TheVariants.{A, B}
use Rattle.vlink.specs.declared.frame.VlId.{VlId}
use Rattle.vlink.specs.declared.message.Body.{Body}
use Rattle.vlink.specs.declared.message.Body.TheVariants as body
use Rattle.vlink.specs.declared.note.Cause.TheVariants.{Unknown}
use Rattle.bag_regulator.specs.Regulator.{regulator}
use Rattle.bag_regulator.specs.Spacing.{moment_of}
use Rattle.bag_regulator.specs.declared.event.RegEvent.{RegEvent}
use Rattle.bag_regulator.specs.declared.event.RegEvent.TheVariants.{Offer, Release}
use Rattle.bag_regulator.specs.declared.event.RegAnswer.{RegAnswer}
use Rattle.bag_regulator.specs.declared.event.RegAnswer.TheVariants as answer
use Rattle.output_port.specs.declared.event.PortEvent.{PortEvent}
use Rattle.output_port.specs.declared.event.PortEvent.TheVariants.{Put, Free}
use Rattle.reverse.specs.Sending.{Reply, loss, silent}
use Rattle.nodes.specs.declared.reception.Reception.{Reception}
use Rattle.nodes.specs.declared.source.Source.{Source}
use Rattle.nodes.specs.declared.vl_end.VlEnd.{VlEnd}
use Rattle.nodes.specs.rules.Finding.{Found}
use Rattle.nodes.specs.rules.Ports.{exists}
use Rattle.nodes.specs.rules.EndSystem.{EndSystemState, copy, end_system, is_on, offered_frame, port_of, reception_at, regulated, source_at, source_number}
use Rattle.nodes.specs.rules.EndSystem as es
use Rattle.nodes.specs.laws.Places.{All-there, found-there}
use Rattle.port_turns.specs.PortEvents.{copy_asks, end_system_asks, or_else, regulated_asks}
use Rattle.port_turns.proofs.Found.{found-number}
use Rattle.element_bounds.proofs.WaitingLemmas.{AllWait, OfAnswer, OfOffer, keeps}

-- the virtual link that a message to an end system is about, if it is about one
abbrev pub subject : Body → ℕ
subject (body.Offer vl size sub) = vl.0
subject (body.Release vl) = vl.0
subject _ = 0

-- P speaks of a frame and the number of its virtual link
module _ (P : ℕ → Frame → Type 0) where
  abbrev pub HasWaiting : Source → Type 0
  HasWaiting source = AllWait (P source.end.vl.0) source.regulator

  -- each frame that waits has P; a frame that is offered has it; and so has one that is put, but for its number, moment of release and network
  abbrev pub AllWaitIn : EndSystemState → Type 0
  AllWaitIn s = All HasWaiting s.sources

  abbrev pub IsOfferFit : ℕ → Body → Type 0
  IsOfferFit t (body.Offer vl size sub) = P vl.0 (offered_frame t vl size)
  IsOfferFit t _ = ⊤

  abbrev pub OfPut : ℕ → ℕ → Option PortEvent → Type 0
  OfPut v t None = ⊤
  OfPut v t (Some Free) = ⊤
  OfPut v t (Some (Put frame r)) = (f : Frame) × P v f × (frame ≡ record f { number = frame.number; released = t; net = frame.net })

  module _ (n t q : ℕ) where
    copies-of : (v : ℕ) (end : VlEnd) (a : RegAnswer) → OfAnswer (P v) t a → OfPut v t (or_else (copy_asks q end A a) (copy_asks q end B a))
    copies-of v end (answer.Released frame) p = go ((port_of A == q) && is_on end A) ((port_of B == q) && is_on end B)
      where
        go : (a b : Bool) → OfPut v t (or_else (cond a (Some (copy A frame)) None) (cond b (Some (copy B frame)) None))
        go true b = (p.0, p.1, ap (λ (z : Frame). record z { net = A }) p.2)
        go false true = (p.0, p.1, ap (λ (z : Frame). record z { net = B }) p.2)
        go false false = tt
    copies-of v end _ p = tt

    -- all that waits has P, and what is put
    pub record KeepsAll (v : ℕ) (s : EndSystemState) (o : Option PortEvent) : Type 0 where
      pub waiting : AllWaitIn s
      pub put : OfPut v t o

    regulated-keeps : (vl : VlId) (e : RegEvent) (otherwise : Reply) (s : EndSystemState) → moment_of e ≡ t → OfOffer (P vl.0) e → AllWaitIn s →
        KeepsAll vl.0 (regulated n t e otherwise s (source_at s vl)).state (regulated_asks q e (source_at s vl))
    regulated-keeps vl e otherwise s at p h = go (source_at s vl) refl
      where
        go : (o : Option (Found Source)) → source_at s vl ≡ o → KeepsAll vl.0 (regulated n t e otherwise s o).state (regulated_asks q e o)
        go None is = record { waiting = h; put = tt }
        go (Some found) is =
            let same : found.entry.end.vl.0 ≡ vl.0 = found-number source_number s.sources vl.0 found is in
            let waits = All-there HasWaiting s.sources found.place found.entry h (found-there source_number s.sources vl.0 found is) in
            let k = keeps (P found.entry.end.vl.0) found.entry.regulator e waits (subst (λ z. OfOffer (P z) e) (sym same) p) in
            record {
              waiting = All-set HasWaiting s.sources found.place (record found.entry { regulator = regulator.after found.entry.regulator e }) k.waiting h;
              put = copies-of vl.0 found.entry.end (regulator.out found.entry.regulator e).answer
                  (subst (λ z. OfAnswer (P z) t (regulator.out found.entry.regulator e).answer) same (subst (λ z. OfAnswer (P found.entry.end.vl.0) z (regulator.out found.entry.regulator e).answer) at k.answer));
            }

    pub source-keeps : (b : Body) (s : EndSystemState) → IsOfferFit t b → AllWaitIn s → KeepsAll (subject b) (end_system n t b s).state (end_system_asks q t b s)
    source-keeps (body.Offer vl size sub) s p h = regulated-keeps vl (Offer t sub (offered_frame t vl size)) (loss Unknown (offered_frame t vl size)) s refl p h
    source-keeps (body.Release vl) s p h = regulated-keeps vl (Release t) silent s refl tt h
    source-keeps (body.PortFree k) s p h = record { waiting = h; put = go (k == q) }
      where
        go : (b : Bool) → OfPut 0 t (cond b (Some Free) None)
        go true = tt
        go false = tt
    source-keeps (body.Arrive k frame) s p h = record { waiting = go (exists s.ports k) (reception_at s frame.vl frame.net); put = tt }
      where
        go : (b : Bool) (o : Option (Found Reception)) → AllWaitIn (cond b (es.taken_in t frame s o) (es.unmoved s)).state
        go true None = h
        go true (Some found) = h
        go false o = h
    source-keeps _ s p h = record { waiting = h; put = tt }
