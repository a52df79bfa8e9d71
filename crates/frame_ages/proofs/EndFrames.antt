-- At an end system each frame that is sent has the size of its virtual link, where each that is offered has it.
use Rattle.std.proofs.Common.{◌≡◌, ℕ, Bool, true, false, cond, [], All, Option, Some, None, refl, sym, ap, ◌∙◌, subst}
use Rattle.std.proofs.lemmas.List.Elements.{All-cons, All-nil, All-set, All-weaker}
use Rattle.vlink.specs.declared.frame.Frame.{Frame}
use Rattle.vlink.specs.declared.frame.Net.{Net}
use Rattle.vlink.specs.declared.frame.Net.TheVariants.{A, B}
use Rattle.vlink.specs.declared.frame.VlId.{VlId}
use Rattle.vlink.specs.declared.message.Body.{Body}
use Rattle.vlink.specs.declared.message.Body.TheVariants as body
use Rattle.vlink.specs.declared.note.Cause.TheVariants.{Unknown}
use Rattle.bag_regulator.specs.Regulator.{regulator}
use Rattle.bag_regulator.specs.Spacing.{moment_of}
use Rattle.bag_regulator.specs.declared.event.RegEvent.{RegEvent}
use Rattle.bag_regulator.specs.declared.event.RegEvent.TheVariants.{Offer, Release}
use Rattle.bag_regulator.specs.declared.event.RegAnswer.{RegAnswer}
use Rattle.bag_regulator.specs.declared.event.RegAnswer.TheVariants as answer
use Rattle.output_port.specs.declared.event.PortEvent.TheVariants.{Free}
use Rattle.reverse.specs.Sending.{Reply, Wish, joined, loss, silent}
use Rattle.nodes.specs.declared.reception.Reception.{Reception}
use Rattle.nodes.specs.declared.source.Source.{Source}
use Rattle.nodes.specs.declared.vl_end.VlEnd.{VlEnd}
use Rattle.nodes.specs.rules.Finding.{Found}
use Rattle.nodes.specs.rules.Ports.{PortsState, changed, exists, reply}
use Rattle.nodes.specs.rules.EndSystem.{EndSystemOutcome, EndSystemState, asked, copied, copied_reply, copy, end_system, full, is_on, offered_frame, port_of, received_reply, reception_at, regulated, released_out, released_reply, source_at, source_number}
use Rattle.nodes.specs.rules.EndSystem as es
use Rattle.nodes.specs.laws.Places.{All-there, found-there}
use Rattle.nodes.specs.laws.Replies.{IsQuiet, joined-all, loss-quiet, quiet-all, silent-quiet}
use Rattle.port_turns.proofs.Found.{found-number}
use Rattle.port_turns.proofs.Quiet.{full-quiet, received-quiet}
use Rattle.port_turns.proofs.Sources.{AllWaitIn, HasWaiting}
use Rattle.element_bounds.proofs.WaitingLemmas.{OfAnswer, OfOffer, keeps}
use Rattle.frame_ages.specs.Sizes.{IsSized, IsSizedFrame, IsWithin, Sizes}
use Rattle.frame_ages.proofs.PortFrames.{AllWaitAtPorts, IsPortWish, changed-keeps, reply-keeps}

module _ (size : ℕ → Sizes) where
  -- a frame of virtual link v, with its size
  abbrev pub OfLink : ℕ → Frame → Type 0
  OfLink v frame = (frame.vl.0 ≡ v) × IsWithin (size v) frame.size

  pub record IsFitEnd (s : EndSystemState) : Type 0 where
    pub waiting : AllWaitIn OfLink s
    pub ports : AllWaitAtPorts (IsSizedFrame size) s.ports

  -- P holds of what ports send, and of Releases
  module _ (P : Wish → Type 0) (by-port : (w : Wish) → IsPortWish (IsSizedFrame size) w → P w) (by-release : (t n : ℕ) (vl : VlId) → P (record { time = t; receiver = n; body = body.Release vl })) where
    record Step (o : EndSystemOutcome) : Type 0 where
      state : IsFitEnd o.state
      sends : All P o.reply.wishes

    module _ (n t : ℕ) where
      record PortsStep (ports : PortsState) (r : Reply) : Type 0 where
        waits : AllWaitAtPorts (IsSizedFrame size) ports
        sends : All P r.wishes

      copied-step : (end : VlEnd) (net : Net) (frame : Frame) (ports : PortsState) → IsSizedFrame size frame → AllWaitAtPorts (IsSizedFrame size) ports →
          PortsStep (copied end net frame ports) (copied_reply n t end net frame ports)
      copied-step end net frame ports f h = go (is_on end net)
        where
          go : (b : Bool) → PortsStep (cond b (changed (port_of net) (copy net frame) ports) ports) (cond b (reply n t (port_of net) (copy net frame) ports) silent)
          go true = record {
            waits = changed-keeps (IsSizedFrame size) (port_of net) (copy net frame) ports h f;
            sends = All-weaker (IsPortWish (IsSizedFrame size)) P by-port _ (reply-keeps (IsSizedFrame size) n t (port_of net) (copy net frame) ports h f);
          }
          go false = record { waits = h; sends = All-nil P }

      released-step : (end : VlEnd) (a : RegAnswer) (ports : PortsState) (v u : ℕ) → OfAnswer (OfLink v) u a → AllWaitAtPorts (IsSizedFrame size) ports →
          PortsStep (released_out end a ports) (released_reply n t end a ports)
      released-step end (answer.Released frame) ports v u p h =
          let vl : frame.vl.0 ≡ v = ap (λ (z : Frame). z.vl.0) p.2 ∙ p.1.0 in
          let sized : IsSizedFrame size frame = subst (λ k. IsWithin (size k) frame.size) (sym vl) (subst (IsWithin (size v)) (sym (ap (λ (z : Frame). z.size) p.2)) p.1.1) in
          let a = copied-step end A frame ports sized h in
          let b = copied-step end B frame (copied end A frame ports) sized a.waits in
          record { waits = b.waits; sends = joined-all P (copied_reply n t end A frame ports) (copied_reply n t end B frame (copied end A frame ports)) a.sends b.sends }
      released-step end _ ports v u p h = record { waits = h; sends = All-nil P }

      asked-all : (vl : VlId) (ask : Option ℕ) → All P (asked n vl ask).wishes
      asked-all vl None = All-nil P
      asked-all vl (Some at) = All-cons P _ [] (by-release at n vl) (All-nil P)

      regulated-step : (vl : VlId) (e : RegEvent) (otherwise : Reply) (s : EndSystemState) → IsQuiet otherwise → OfOffer (OfLink vl.0) e → IsFitEnd s → Step (regulated n t e otherwise s (source_at s vl))
      regulated-step vl e otherwise s quiet p h = go (source_at s vl) refl
        where
          go : (o : Option (Found Source)) → source_at s vl ≡ o → Step (regulated n t e otherwise s o)
          go None is = record { state = h; sends = quiet-all P otherwise quiet }
          go (Some found) is =
              let same : found.entry.end.vl.0 ≡ vl.0 = found-number source_number s.sources vl.0 found is in
              let waits = All-there (HasWaiting OfLink) s.sources found.place found.entry h.waiting (found-there source_number s.sources vl.0 found is) in
              let k = keeps (OfLink found.entry.end.vl.0) found.entry.regulator e waits (subst (λ z. OfOffer (OfLink z) e) (sym same) p) in
              let out = regulator.out found.entry.regulator e in
              let r = released-step found.entry.end out.answer s.ports found.entry.end.vl.0 (moment_of e) k.answer h.ports in
              record {
                state = record {
                  waiting = All-set (HasWaiting OfLink) s.sources found.place (record found.entry { regulator = regulator.after found.entry.regulator e }) k.waiting h.waiting;
                  ports = r.waits;
                };
                sends = joined-all P (joined (full e out.answer) (asked n found.entry.end.vl out.release_at)) (released_reply n t found.entry.end out.answer s.ports)
                    (joined-all P (full e out.answer) (asked n found.entry.end.vl out.release_at) (quiet-all P (full e out.answer) (full-quiet e out.answer)) (asked-all found.entry.end.vl out.release_at)) r.sends;
              }

      end-step : (b : Body) (s : EndSystemState) → IsSized size b → IsFitEnd s → Step (end_system n t b s)
      end-step (body.Offer vl bytes sub) s f h = regulated-step vl (Offer t sub (offered_frame t vl bytes)) (loss Unknown (offered_frame t vl bytes)) s (loss-quiet Unknown (offered_frame t vl bytes)) (refl, f) h
      end-step (body.Release vl) s f h = regulated-step vl (Release t) silent s silent-quiet tt h
      end-step (body.PortFree q) s f h = record {
        state = record { waiting = h.waiting; ports = changed-keeps (IsSizedFrame size) q Free s.ports h.ports tt };
        sends = All-weaker (IsPortWish (IsSizedFrame size)) P by-port _ (reply-keeps (IsSizedFrame size) n t q Free s.ports h.ports tt);
      }
      end-step (body.Arrive q frame) s f h = go (exists s.ports q) (reception_at s frame.vl frame.net)
        where
          go : (b : Bool) (o : Option (Found Reception)) → Step (cond b (es.taken_in t frame s o) (es.unmoved s))
          go true None = record { state = h; sends = All-nil P }
          go true (Some found) = record { state = record { waiting = h.waiting; ports = h.ports }; sends = quiet-all P (received_reply t frame found.entry.receiving) (received-quiet t frame found.entry.receiving) }
          go false o = record { state = h; sends = All-nil P }
      end-step _ s f h = record { state = h; sends = All-nil P }

      pub end-state : (b : Body) (s : EndSystemState) → IsSized size b → IsFitEnd s → IsFitEnd (end_system n t b s).state
      end-state b s f h = (end-step b s f h).state

      pub end-sends : (b : Body) (s : EndSystemState) → IsSized size b → IsFitEnd s → All P (end_system n t b s).reply.wishes
      end-sends b s f h = (end-step b s f h).sends
