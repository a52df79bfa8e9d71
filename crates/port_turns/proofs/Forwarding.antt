-- What a switch puts to a port is some of what comes to it, each frame later by the delay, and by the port by which its virtual link comes in.
use Rattle.std.proofs.Common.{◌≡◌, ℕ, ◌+◌, ◌<◌, ◌==◌, inl, inr, Bool, true, false, cond, nat_lt, List, [], ◌∷◌, ◌++◌, filter, map, Option, Some, None, refl, sym, ap, ◌∙◌, subst, arith, eq-eqb, ne_eqb}
use Rattle.std.proofs.lemmas.Bool.{cases_eq}
use Rattle.vlink.specs.declared.frame.Frame.{Frame}
use Rattle.vlink.specs.declared.message.Message.{Message}
use Rattle.vlink.specs.declared.message.Body.{Body}
use Rattle.vlink.specs.declared.message.Body.TheVariants.{PortFree, Arrive, Enqueue}
use Rattle.vlink.specs.declared.note.Cause.TheVariants.{TooLong, Unknown}
use Rattle.policer.specs.Account.{account}
use Rattle.policer.specs.declared.account.Verdict.{Verdict}
use Rattle.policer.specs.declared.account.Verdict.TheVariants as verdict
use Rattle.output_port.specs.declared.event.PortEvent.{PortEvent}
use Rattle.output_port.specs.declared.event.PortEvent.TheVariants.{Put, Free}
use Rattle.reverse.specs.Sending.{Wish, loss}
use Rattle.port_bounds.specs.Sublists.{IsSublist}
use Rattle.nodes.specs.declared.transit.Transit.{Transit}
use Rattle.nodes.specs.declared.equipment.Equipment.TheVariants.{Switch}
use Rattle.nodes.specs.rules.Finding.{Found}
use Rattle.nodes.specs.rules.Outputs.{marked_from}
use Rattle.nodes.specs.rules.Ports.{PortsState, exists, reply}
use Rattle.nodes.specs.rules.Switch.{SwitchState, entered_reply, forwarded, judged, outputs_of, switch, transit_at}
use Rattle.nodes.specs.rules.Switch as sw
use Rattle.nodes.specs.rules.Node.{NodeState, after, handled}
use Rattle.nodes.specs.laws.Ports.{reply-cases}
use Rattle.nodes.specs.laws.SwitchSending.{switch-cases, wish_to}
use Rattle.port_turns.proofs.Transits.{AllTransits, transits-stay}
use Rattle.port_turns.proofs.SentKinds.{AreFrom, as_wish, flat, from-sooner, mine, moments_of, wished, wished-sub}

both-false : (b : Bool) → cond b false false ≡ false
both-false true = refl
both-false false = refl

abbrev pub is_put_at : ℕ → Body → Bool
is_put_at q (Enqueue p frame) = p == q
is_put_at q _ = false

-- switch r, at which frames of each virtual link come in by one port
module _ (r q : ℕ) (input : ℕ → ℕ) where
  abbrev puts : List Wish → List Wish
  puts ws = filter (mine (is_put_at q) r) ws

  -- what a frame gives that comes in there
  abbrev pub forward : ℕ → ℕ → Body → List Wish
  forward delay t (Arrive p frame) = cond (input frame.vl.0 == p) (wish_to r (t + delay) frame q ∷ []) []
  forward delay t _ = []

  pub forward-from : (delay t : ℕ) (ws : List Wish) → AreFrom t (moments_of ws) → AreFrom (t + delay) (moments_of (flat (forward delay) ws))
  forward-from delay t [] h = tt
  forward-from delay t (w ∷ ws) h = go w.body (forward-from delay w.time ws h.1)
    where
      skip : AreFrom (w.time + delay) (moments_of (flat (forward delay) ws)) → AreFrom (t + delay) (moments_of (flat (forward delay) ws))
      skip k = from-sooner (t + delay) (w.time + delay) (moments_of (flat (forward delay) ws)) (omega (arith, h.0)) k

      one : (b : Bool) (frame : Frame) → AreFrom (w.time + delay) (moments_of (flat (forward delay) ws)) → AreFrom (t + delay) (moments_of (cond b (wish_to r (w.time + delay) frame q ∷ []) [] ++ flat (forward delay) ws))
      one true frame k = (omega (arith, h.0), k)
      one false frame k = skip k

      go : (b : Body) → AreFrom (w.time + delay) (moments_of (flat (forward delay) ws)) → AreFrom (t + delay) (moments_of (forward delay w.time b ++ flat (forward delay) ws))
      go (Arrive p frame) k = one (input frame.vl.0 == p) frame k
      go _ k = skip k

  -- outputs rise, so the port is there once at most
  above : (at k : ℕ) (frame : Frame) (marks : List Bool) → q < k → puts (forwarded r at frame (marked_from k marks)).wishes ≡ []
  above at k frame [] h = refl
  above at k frame (true ∷ marks) h = rw (eq-eqb r r refl, ne_eqb k q (λ e. absurd (omega arith))) (above at (k + 1) frame marks (omega arith))
  above at k frame (false ∷ marks) h = above at (k + 1) frame marks (omega arith)

  once : (at k : ℕ) (frame : Frame) (marks : List Bool) → IsSublist (puts (forwarded r at frame (marked_from k marks)).wishes) (wish_to r at frame q ∷ [])
  once at k frame [] = tt
  once at k frame (false ∷ marks) = once at (k + 1) frame marks
  once at k frame (true ∷ marks) = elim (cases_eq k q) [ inl e ↦ here e | inr d ↦ rw (eq-eqb r r refl, ne_eqb k q d) (once at (k + 1) frame marks) ]
    where
      here : k ≡ q → IsSublist (puts (forwarded r at frame (marked_from k (true ∷ marks))).wishes) (wish_to r at frame q ∷ [])
      here e = rw (eq-eqb r r refl, eq-eqb k q e) (inl (ap (wish_to r at frame) e, subst (λ z. IsSublist z []) (sym (above at (k + 1) frame marks (omega arith))) tt))

  reply-none : (t i : ℕ) (e : PortEvent) (ports : PortsState) → puts (reply r t i e ports).wishes ≡ []
  reply-none t i e ports = reply-cases (λ z. puts z.wishes ≡ []) r t i e ports (λ z quiet. ap puts quiet) (λ outlet frame h. rw (both-false (outlet.ahead.line == r), both-false (r == r)) refl)

  -- each virtual link comes in by its port
  abbrev pub HaveInputs : SwitchState → Type 0
  HaveInputs s = AllTransits (λ v x. input v ≡ x.input) (λ v x a k. k) s

  switch-forwards : (t : ℕ) (b : Body) (s : SwitchState) → HaveInputs s → IsSublist (puts (switch r t b s).reply.wishes) (forward s.latency t b)
  switch-forwards t (PortFree i) s h = subst (λ z. IsSublist z []) (sym (reply-none t i Free s.ports)) tt
  switch-forwards t (Enqueue i frame) s h = go (exists s.ports i) (transit_at s frame.vl)
    where
      go : (b : Bool) (o : Option (Found Transit)) → IsSublist (puts (cond b (sw.put r t i frame s o) (sw.unmoved s)).reply.wishes) []
      go true None = tt
      go true (Some found) = subst (λ z. IsSublist z []) (sym (reply-none t i (Put frame found.entry.priority) s.ports)) tt
      go false o = tt
  switch-forwards t (Arrive i frame) s h = go (exists s.ports i) (transit_at s frame.vl) refl
    where
      entered-forwards : (x : Transit) → input frame.vl.0 ≡ x.input → IsSublist (puts (entered_reply r t s.latency i frame x).wishes) (forward s.latency t (Arrive i frame))
      entered-forwards x e = judge (x.input == i) refl (nat_lt x.smax frame.size) (account.out x.account (record { at = t; size = frame.size }))
        where
          judge : (b : Bool) → (x.input == i) ≡ b → (c : Bool) (v : Verdict) →
              IsSublist (puts (cond b (cond c (loss TooLong frame) (judged r (t + s.latency) frame (outputs_of x) v)) (loss Unknown frame)).wishes) (cond (input frame.vl.0 == i) (wish_to r (t + s.latency) frame q ∷ []) [])
          judge true eb false verdict.Passed =
              subst (λ z. IsSublist (puts (forwarded r (t + s.latency) frame (outputs_of x)).wishes) (cond z (wish_to r (t + s.latency) frame q ∷ []) [])) (sym (ap (λ z. z == i) e ∙ eb)) (once (t + s.latency) 0 frame x.outputs)
          judge _ eb _ _ = tt

      go : (b : Bool) (o : Option (Found Transit)) → transit_at s frame.vl ≡ o → IsSublist (puts (cond b (sw.taken_in r t i frame s o) (sw.unmoved s)).reply.wishes) (forward s.latency t (Arrive i frame))
      go true (Some found) is = entered-forwards found.entry (h frame.vl found is)
      go _ _ is = tt
  switch-forwards t _ s h = tt

  pub inputs-stay : (n t : ℕ) (b : Body) (s : SwitchState) → HaveInputs s → HaveInputs (switch n t b s).state
  inputs-stay n t b s h = transits-stay (λ v x. input v ≡ x.input) (λ v x a k. k) n t b s h

  latency-stays : (n t : ℕ) (b : Body) (s : SwitchState) → (switch n t b s).state.latency ≡ s.latency
  latency-stays n t b s = switch-cases (λ o. o.state.latency ≡ s.latency) n t s (record { quiet = λ z k. refl; at_ports = λ i e. refl; takes = λ i frame found is. refl }) b

  -- what the switch puts to the port
  pub forwards : (s : NodeState) (w : SwitchState) (delay : ℕ) (ms : List Message) → s.equipment ≡ Switch w → s.sender.number ≡ r → HaveInputs w → w.latency ≡ delay →
      IsSublist (wished (is_put_at q) r s ms) (flat (forward delay) (map as_wish ms))
  forwards s w delay [] e n h l = tt
  forwards s w delay (m ∷ ms) e n h l =
      wished-sub (is_put_at q) r s m ms (forward delay m.time m.body) (flat (forward delay) (map as_wish ms))
      (subst (λ z. IsSublist (puts (handled z m s.equipment).reply.wishes) (forward delay m.time m.body)) (sym n)
      (subst (λ z. IsSublist (puts (handled r m z).reply.wishes) (forward delay m.time m.body)) (sym e)
      (subst (λ d. IsSublist (puts (switch r m.time m.body w).reply.wishes) (forward d m.time m.body)) l (switch-forwards m.time m.body w h))))
      (forwards (after s m) (switch s.sender.number m.time m.body w).state delay ms (ap (λ z. (handled s.sender.number m z).equipment) e) n (inputs-stay s.sender.number m.time m.body w h) (latency-stays s.sender.number m.time m.body w ∙ l))
