-- At a switch each frame that is sent came there, and goes out by an output of its virtual link.
use Rattle.std.proofs.Common.{◌≡◌, ℕ, ◌+◌, ◌≤◌, ◌==◌, inl, inr, Bool, true, false, cond, nat_lt, List, [], ◌∷◌, All, Option, Some, None, refl, arith}
use Rattle.std.proofs.lemmas.Bool.Decides.{nat_tests}
use Rattle.std.proofs.lemmas.List.Elements.{All-cons, All-map, All-nil, All-weaker}
use Rattle.vlink.specs.declared.frame.Frame.{Frame}
use Rattle.vlink.specs.declared.message.Body.{Body}
use Rattle.vlink.specs.declared.message.Body.TheVariants.{PortFree, Arrive, Enqueue}
use Rattle.vlink.specs.declared.note.Cause.TheVariants.{TooLong, Unknown}
use Rattle.policer.specs.Account.{account}
use Rattle.policer.specs.declared.account.Verdict.{Verdict}
use Rattle.policer.specs.declared.account.Verdict.TheVariants as verdict
use Rattle.output_port.specs.declared.event.PortEvent.{PortEvent}
use Rattle.output_port.specs.declared.event.PortEvent.TheVariants.{Put, Free}
use Rattle.reverse.specs.Sending.{Wish, loss}
use Rattle.port_bounds.specs.Mixtures.{IsAmong}
use Rattle.nodes.specs.declared.transit.Transit.{Transit}
use Rattle.nodes.specs.rules.Finding.{Found}
use Rattle.nodes.specs.rules.Ports.{exists}
use Rattle.nodes.specs.rules.Switch.{SwitchOutcome, SwitchState, at_port, entered_reply, judged, outputs_of, switch, transit_at}
use Rattle.nodes.specs.rules.Switch as sw
use Rattle.nodes.specs.laws.SwitchSending.{wish_to}
use Rattle.frame_ages.specs.Sizes.{IsSized, IsSizedFrame, Sizes}
use Rattle.frame_ages.proofs.PortFrames.{AllWaitAtPorts, IsPortWish, OfPut, changed-keeps, reply-keeps}

among-more : (k n : ℕ) (ns xs : List ℕ) → All (λ m. IsAmong m ns) xs → All (λ m. IsAmong m (n ∷ ns)) xs
among-more k n ns xs h = All-weaker (λ m. IsAmong m ns) (λ m. IsAmong m (n ∷ ns)) (λ m i. inr i) xs h

all-among : (ns : List ℕ) → All (λ m. IsAmong m ns) ns
all-among [] = All-nil (λ m. IsAmong m [])
all-among (n ∷ ns) = All-cons (λ m. IsAmong m (n ∷ ns)) n ns (inl refl) (among-more n n ns ns (all-among ns))

module _ (size : ℕ → Sizes) (n : ℕ) (P : Wish → Type 0) (by-port : (w : Wish) → IsPortWish (IsSizedFrame size) w → P w) where
  module _ (t : ℕ) where
    record Step (o : SwitchOutcome) : Type 0 where
      ports : AllWaitAtPorts (IsSizedFrame size) o.state.ports
      sends : All P o.reply.wishes

    -- P holds of each frame that is put to an output
    abbrev PutsFit : SwitchState → Type 0
    PutsFit s = (frame : Frame) (found : Found Transit) (q : ℕ) → transit_at s frame.vl ≡ Some found → IsSizedFrame size frame → frame.size ≤ found.entry.smax → IsAmong q (outputs_of found.entry) → P (wish_to n (t + s.latency) frame q)

    port-step : (q : ℕ) (e : PortEvent) (s : SwitchState) → OfPut (IsSizedFrame size) e → AllWaitAtPorts (IsSizedFrame size) s.ports → Step (at_port n t q e s)
    port-step q e s f h = record {
      ports = changed-keeps (IsSizedFrame size) q e s.ports h f;
      sends = All-weaker (IsPortWish (IsSizedFrame size)) P by-port _ (reply-keeps (IsSizedFrame size) n t q e s.ports h f);
    }

    entered-all : (delay q : ℕ) (frame : Frame) (x : Transit) → ((k : ℕ) → frame.size ≤ x.smax → IsAmong k (outputs_of x) → P (wish_to n (t + delay) frame k)) → All P (entered_reply n t delay q frame x).wishes
    entered-all delay q frame x puts = go (x.input == q) (nat_lt x.smax frame.size) refl (account.out x.account (record { at = t; size = frame.size }))
      where
        small : nat_lt x.smax frame.size ≡ false → frame.size ≤ x.smax
        small h = grind (arith, nat_tests)

        go : (b c : Bool) → nat_lt x.smax frame.size ≡ c → (v : Verdict) → All P (cond b (cond c (loss TooLong frame) (judged n (t + delay) frame (outputs_of x) v)) (loss Unknown frame)).wishes
        go true false e verdict.Passed = All-map P (wish_to n (t + delay) frame) (outputs_of x) (All-weaker (λ k. IsAmong k (outputs_of x)) (λ k. P (wish_to n (t + delay) frame k)) (λ k among. puts k (small e) among) (outputs_of x) (all-among (outputs_of x)))
        go _ _ _ _ = All-nil P

    switch-step : (b : Body) (s : SwitchState) → PutsFit s → IsSized size b → AllWaitAtPorts (IsSizedFrame size) s.ports → Step (switch n t b s)
    switch-step (PortFree q) s fit f h = port-step q Free s tt h
    switch-step (Arrive q frame) s fit f h = go (exists s.ports q) (transit_at s frame.vl) refl
      where
        go : (b : Bool) (o : Option (Found Transit)) → transit_at s frame.vl ≡ o → Step (cond b (sw.taken_in n t q frame s o) (sw.unmoved s))
        go true None is = record { ports = h; sends = All-nil P }
        go true (Some found) is = record { ports = h; sends = entered-all s.latency q frame found.entry (λ k small i. fit frame found k is f small i) }
        go false o is = record { ports = h; sends = All-nil P }
    switch-step (Enqueue q frame) s fit f h = go (exists s.ports q) (transit_at s frame.vl)
      where
        go : (b : Bool) (o : Option (Found Transit)) → Step (cond b (sw.put n t q frame s o) (sw.unmoved s))
        go true None = record { ports = h; sends = All-nil P }
        go true (Some found) = port-step q (Put frame found.entry.priority) s f h
        go false o = record { ports = h; sends = All-nil P }
    switch-step _ s fit f h = record { ports = h; sends = All-nil P }

    pub switch-ports : (b : Body) (s : SwitchState) → PutsFit s → IsSized size b → AllWaitAtPorts (IsSizedFrame size) s.ports → AllWaitAtPorts (IsSizedFrame size) (switch n t b s).state.ports
    switch-ports b s fit f h = (switch-step b s fit f h).ports

    pub switch-sends : (b : Body) (s : SwitchState) → PutsFit s → IsSized size b → AllWaitAtPorts (IsSizedFrame size) s.ports → All P (switch n t b s).reply.wishes
    switch-sends b s fit f h = (switch-step b s fit f h).sends
