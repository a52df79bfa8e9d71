-- What a message makes of a virtual link at a switch: nothing, or its account judges a frame, and puts it to the outputs if it passes.
use Rattle.std.proofs.Common.{◌≡◌, ℕ, ◌+◌, ◌<◌, ◌==◌, ◌&&◌, inl, inr, Bool, true, false, cond, nat_lt, List, [], ◌∷◌, map, filter, Option, None, Some, option_map, slice_set, refl, sym, ap, ◌∙◌, subst, arith, ne_eqb, eq-eqb}
use Rattle.std.proofs.lemmas.Bool.{cases_eq}
use Rattle.std.proofs.lemmas.Option.{none-some, same_Some}
use Rattle.vlink.specs.declared.frame.Frame.{Frame}
use Rattle.vlink.specs.declared.message.Message.{Message}
use Rattle.vlink.specs.declared.message.Body.{Body}
use Rattle.vlink.specs.declared.message.Body.TheVariants.{PortFree, Arrive, Enqueue}
use Rattle.vlink.specs.declared.note.Cause.TheVariants.{Unknown, TooLong}
use Rattle.policer.specs.declared.account.Arrival.{Arrival}
use Rattle.policer.specs.declared.account.Verdict.{Verdict}
use Rattle.policer.specs.declared.account.Verdict.TheVariants as verdict
use Rattle.policer.specs.Account.{account, passes}
use Rattle.output_port.specs.declared.event.PortEvent.{PortEvent}
use Rattle.output_port.specs.declared.event.PortEvent.TheVariants.{Put, Free}
use Rattle.reverse.specs.Sending.{Wish, loss}
use Rattle.port_bounds.specs.Sublists.{IsSublist}
use Rattle.nodes.specs.declared.transit.Transit.{Transit}
use Rattle.nodes.specs.declared.equipment.Equipment.{Equipment}
use Rattle.nodes.specs.declared.equipment.Equipment.TheVariants.{Switch}
use Rattle.nodes.specs.rules.Finding.{Found, find}
use Rattle.nodes.specs.rules.Outputs.{marked_from}
use Rattle.nodes.specs.rules.Ports.{exists, reply}
use Rattle.nodes.specs.rules.Switch as sw
use Rattle.nodes.specs.rules.Switch.{SwitchState, entered, entered_reply, forwarded, judged, outputs_of, switch, transit_at, transit_number}
use Rattle.nodes.specs.rules.Node.{handled}
use Rattle.nodes.specs.laws.Ports.{reply-cases}
use Rattle.nodes.specs.laws.SwitchSending.{wish_to}
use Rattle.port_turns.specs.SwitchPuts.{IsBrought, is_put, transit_of}
use Rattle.port_turns.proofs.Found.{found-set, found-other}
use Rattle.port_turns.proofs.Transits.{entered-number}

-- how many bytes the frame has that a message puts
abbrev pub size_in : Body → ℕ
size_in (Enqueue p frame) = frame.size
size_in _ = 0

-- a wish that puts a frame, as its account had it but for the delay
abbrev pub as_put : Wish → Arrival
as_put w = record { at = w.time; size = size_in w.body }

-- the frames of the virtual link that are put to the port by these wishes
abbrev pub puts_in : ℕ → ℕ → List Wish → List Arrival
puts_in q v ws = map as_put (filter (λ w. is_put q v w.body) ws)

-- nothing changes of the virtual link, or its account judges a frame; what passes is put once at most, after the delay
pub data Judged (t delay v : ℕ) (b : Body) (before : Transit) (now : Option Transit) (puts : List Arrival) : Type 0 where
  Quiet : now ≡ Some before → puts ≡ [] → Judged t delay v b before now puts
  Judges : (arrival : Arrival) → arrival.at ≡ t → IsBrought v arrival.size b → now ≡ Some (record before { account = account.after before.account arrival }) →
      IsSublist puts (cond (passes before.account arrival) (record { at = t + delay; size = arrival.size } ∷ []) []) → Judged t delay v b before now puts

module _ (n t q v : ℕ) where
  -- outputs rise, so a port is there once at most
  above : (at k : ℕ) (frame : Frame) (marks : List Bool) → q < k → puts_in q v (forwarded n at frame (marked_from k marks)).wishes ≡ []
  above at k frame [] h = refl
  above at k frame (true ∷ marks) h = rw (ne_eqb k q (λ e. absurd (omega arith))) (above at (k + 1) frame marks (omega arith))
  above at k frame (false ∷ marks) h = above at (k + 1) frame marks (omega arith)

  once : (at k : ℕ) (frame : Frame) (marks : List Bool) → IsSublist (puts_in q v (forwarded n at frame (marked_from k marks)).wishes) (record { at = at; size = frame.size } ∷ [])
  once at k frame [] = tt
  once at k frame (false ∷ marks) = once at (k + 1) frame marks
  once at k frame (true ∷ marks) = elim (cases_eq k q) [ inl e ↦ here e | inr d ↦ rw (ne_eqb k q d) (once at (k + 1) frame marks) ]
    where
      here : k ≡ q → IsSublist (puts_in q v (forwarded n at frame (marked_from k (true ∷ marks))).wishes) (record { at = at; size = frame.size } ∷ [])
      here e = rw (eq-eqb k q e) (go (frame.vl.0 == v))
        where
          none : puts_in q v (forwarded n at frame (marked_from (k + 1) marks)).wishes ≡ []
          none = above at (k + 1) frame marks (omega arith)

          go : (b : Bool) → IsSublist (map as_put (cond b (wish_to n at frame k ∷ filter (λ w. is_put q v w.body) (forwarded n at frame (marked_from (k + 1) marks)).wishes) (filter (λ w. is_put q v w.body) (forwarded n at frame (marked_from (k + 1) marks)).wishes))) (record { at = at; size = frame.size } ∷ [])
          go true = inl (refl, subst (λ z. IsSublist z []) (sym none) tt)
          go false = subst (λ z. IsSublist z (record { at = at; size = frame.size } ∷ [])) (sym none) tt

  -- frames of another virtual link
  others : (at : ℕ) (frame : Frame) (qs : List ℕ) → (frame.vl.0 ≡ v → ⊥) → puts_in q v (forwarded n at frame qs).wishes ≡ []
  others at frame [] d = refl
  others at frame (k ∷ qs) d = go (k == q) (others at frame qs d)
    where
      go : (b : Bool) → puts_in q v (forwarded n at frame qs).wishes ≡ [] → map as_put (cond (b && (frame.vl.0 == v)) (wish_to n at frame k ∷ filter (λ w. is_put q v w.body) (forwarded n at frame qs).wishes) (filter (λ w. is_put q v w.body) (forwarded n at frame qs).wishes)) ≡ []
      go true rest = rw (ne_eqb frame.vl.0 v d) rest
      go false rest = rest

  -- a frame of another virtual link comes
  entered-others : (delay at : ℕ) (frame : Frame) (transit : Transit) → (frame.vl.0 ≡ v → ⊥) → puts_in q v (entered_reply n t delay at frame transit).wishes ≡ []
  entered-others delay at frame transit d = go (transit.input == at) (nat_lt transit.smax frame.size) (account.out transit.account (record { at = t; size = frame.size }))
    where
      go : (b c : Bool) (x : Verdict) → puts_in q v (cond b (cond c (loss TooLong frame) (judged n (t + delay) frame (outputs_of transit) x)) (loss Unknown frame)).wishes ≡ []
      go true false verdict.Passed = others (t + delay) frame (outputs_of transit) d
      go _ _ _ = refl

  -- and one of this one
  entered-own : (delay at : ℕ) (frame : Frame) (transit : Transit) → frame.vl.0 ≡ v →
      Judged t delay v (Arrive at frame) transit (Some (entered t at frame transit)) (puts_in q v (entered_reply n t delay at frame transit).wishes)
  entered-own delay at frame transit of = go (transit.input == at) (nat_lt transit.smax frame.size)
    where
      arrival : Arrival
      arrival = record { at = t; size = frame.size }

      passing : (b : Bool) → IsSublist (puts_in q v (judged n (t + delay) frame (outputs_of transit) (cond b verdict.Passed verdict.Refused)).wishes) (cond b (record { at = t + delay; size = frame.size } ∷ []) [])
      passing true = once (t + delay) 0 frame transit.outputs
      passing false = tt

      go : (b c : Bool) → Judged t delay v (Arrive at frame) transit
          (Some (cond b (cond c transit (record transit { account = account.after transit.account (record { at = t; size = frame.size }) })) transit))
          (puts_in q v (cond b (cond c (loss TooLong frame) (judged n (t + delay) frame (outputs_of transit) (account.out transit.account (record { at = t; size = frame.size })))) (loss Unknown frame)).wishes)
      go true false = Judges (record { at = t; size = frame.size }) refl (of, refl) refl (passing (passes transit.account (record { at = t; size = frame.size })))
      go _ _ = Quiet refl refl

  abbrev at_switch : SwitchState → Option Transit
  at_switch s = option_map (λ found. found.entry) (find transit_number s.transits v)

  switch-judges : (b : Body) (s : SwitchState) (transit : Transit) → at_switch s ≡ Some transit →
      Judged t s.latency v b transit (at_switch (switch n t b s).state) (puts_in q v (switch n t b s).reply.wishes)
  switch-judges b s transit is = cases b
    where
      own : (k : ℕ) (frame : Frame) (found : Found Transit) → transit_at s frame.vl ≡ Some found → frame.vl.0 ≡ v →
          Judged t s.latency v (Arrive k frame) transit (option_map (λ found. found.entry) (find transit_number (slice_set s.transits found.place (entered t k frame found.entry)) v)) (puts_in q v (entered_reply n t s.latency k frame found.entry).wishes)
      own k frame found h e =
          let here : find transit_number s.transits v ≡ Some found = subst (λ i. find transit_number s.transits i ≡ Some found) e h in
          let same : found.entry ≡ transit = same_Some found.entry transit (sym (ap (option_map (λ (f : Found Transit). f.entry)) here) ∙ is) in
          let now = ap (option_map (λ (f : Found Transit). f.entry)) (found-set transit_number s.transits v found here (entered t k frame found.entry) (entered-number t k frame found.entry)) in
          subst (λ x. Judged t s.latency v (Arrive k frame) x (option_map (λ found. found.entry) (find transit_number (slice_set s.transits found.place (entered t k frame found.entry)) v)) (puts_in q v (entered_reply n t s.latency k frame found.entry).wishes)) same
          (subst (λ o. Judged t s.latency v (Arrive k frame) found.entry o (puts_in q v (entered_reply n t s.latency k frame found.entry).wishes)) (sym now) (entered-own s.latency k frame found.entry e))

      other : (k : ℕ) (frame : Frame) (found : Found Transit) → transit_at s frame.vl ≡ Some found → (frame.vl.0 ≡ v → ⊥) →
          Judged t s.latency v (Arrive k frame) transit (option_map (λ found. found.entry) (find transit_number (slice_set s.transits found.place (entered t k frame found.entry)) v)) (puts_in q v (entered_reply n t s.latency k frame found.entry).wishes)
      other k frame found h d = Quiet
          (ap (option_map (λ (f : Found Transit). f.entry)) (found-other transit_number s.transits frame.vl.0 found h (entered t k frame found.entry) (entered-number t k frame found.entry) v (λ e. d (sym e))) ∙ is)
          (entered-others s.latency k frame found.entry d)

      ports-quiet : (b : Body) (k : ℕ) (e : PortEvent) → Judged t s.latency v b transit (at_switch s) (puts_in q v (reply n t k e s.ports).wishes)
      ports-quiet b k e = Quiet is (reply-cases (λ r. puts_in q v r.wishes ≡ []) n t k e s.ports (λ r h. ap (puts_in q v) h) (λ outlet frame h. refl))

      cases : (b : Body) → Judged t s.latency v b transit (at_switch (switch n t b s).state) (puts_in q v (switch n t b s).reply.wishes)
      cases (PortFree k) = ports-quiet (PortFree k) k Free
      cases (Arrive k frame) = go (exists s.ports k) (transit_at s frame.vl) refl
        where
          go : (b : Bool) (o : Option (Found Transit)) → transit_at s frame.vl ≡ o →
              Judged t s.latency v (Arrive k frame) transit (at_switch (cond b (sw.taken_in n t k frame s o) (sw.unmoved s)).state) (puts_in q v (cond b (sw.taken_in n t k frame s o) (sw.unmoved s)).reply.wishes)
          go true None h = Quiet is refl
          go true (Some found) h = elim (cases_eq frame.vl.0 v) [ inl e ↦ own k frame found h e | inr d ↦ other k frame found h d ]
          go false o h = Quiet is refl
      cases (Enqueue k frame) = go (exists s.ports k) (transit_at s frame.vl)
        where
          go : (b : Bool) (o : Option (Found Transit)) →
              Judged t s.latency v (Enqueue k frame) transit (at_switch (cond b (sw.put n t k frame s o) (sw.unmoved s)).state) (puts_in q v (cond b (sw.put n t k frame s o) (sw.unmoved s)).reply.wishes)
          go true None = Quiet is refl
          go true (Some found) = ports-quiet (Enqueue k frame) k (Put frame found.entry.priority)
          go false o = Quiet is refl
      cases _ = Quiet is refl

-- how long a frame takes from its arrival to its output ports
abbrev pub delay_of : Equipment → ℕ
delay_of (Switch s) = s.latency
delay_of _ = 0

pub node-judges : (n q v : ℕ) (m : Message) (e : Equipment) (transit : Transit) → transit_of e v ≡ Some transit →
    Judged m.time (delay_of e) v m.body transit (transit_of (handled n m e).equipment v) (puts_in q v (handled n m e).reply.wishes)
node-judges n q v m (Switch s) transit is = switch-judges n m.time q v m.body s transit is
node-judges n q v m _ transit is = absurd (none-some transit is)
