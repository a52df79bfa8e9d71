-- What a node sends of a kind that only the frames starting at one of its ports send, as PortFree of that port, or Carry into its line.
use Rattle.std.proofs.Common.{◌≡◌, ℕ, ◌+◌, ◌==◌, ◌&&◌, inl, inr, Bool, true, false, cond, nat_lt, List, [], ◌∷◌, ◌++◌, filter, Option, None, Some, option_map, is_some, refl, sym, ap, ◌∙◌, subst, append-nil, eq-eqb, ne_eqb}
use Rattle.std.specs.Prelude.{⊤}
use Rattle.std.specs.List.{list_any}
use Rattle.std.proofs.lemmas.Bool.{cases_eq}
use Rattle.std.proofs.lemmas.List.Elements.{filter-append}
use Rattle.std.proofs.lemmas.Option.{same_Some}
use Rattle.vlink.specs.declared.frame.Frame.{Frame}
use Rattle.vlink.specs.declared.frame.VlId.{VlId}
use Rattle.vlink.specs.declared.frame.Net.{Net}
use Rattle.vlink.specs.declared.frame.Net.TheVariants.{A, B}
use Rattle.vlink.specs.declared.message.Message.{Message}
use Rattle.vlink.specs.declared.message.Body.{Body}
use Rattle.vlink.specs.declared.message.Body.TheVariants as body
use Rattle.vlink.specs.declared.note.Cause.TheVariants as cause
use Rattle.bag_regulator.specs.Regulator.{regulator}
use Rattle.bag_regulator.specs.declared.event.RegEvent.{RegEvent}
use Rattle.bag_regulator.specs.declared.event.RegEvent.TheVariants.{Offer, Release}
use Rattle.bag_regulator.specs.declared.event.RegAnswer.{RegAnswer}
use Rattle.bag_regulator.specs.declared.event.RegAnswer.TheVariants as answer
use Rattle.policer.specs.Account.{account}
use Rattle.policer.specs.declared.account.Verdict.{Verdict}
use Rattle.policer.specs.declared.account.Verdict.TheVariants as verdict
use Rattle.output_port.specs.Port.{port}
use Rattle.output_port.specs.declared.event.PortEvent.{PortEvent}
use Rattle.output_port.specs.declared.event.PortEvent.TheVariants.{Put, Free}
use Rattle.reverse.specs.Sending.{Reply, Wish, loss, silent}
use Rattle.nodes.specs.declared.equipment.Equipment.{Equipment}
use Rattle.nodes.specs.declared.equipment.Equipment.TheVariants.{EndSystem, Switch, Line}
use Rattle.nodes.specs.declared.ports.LineAhead.{LineAhead}
use Rattle.nodes.specs.declared.ports.Outlet.{Outlet}
use Rattle.nodes.specs.declared.reception.Reception.{Reception}
use Rattle.nodes.specs.declared.source.Source.{Source}
use Rattle.nodes.specs.declared.transit.Transit.{Transit}
use Rattle.nodes.specs.declared.vl_end.VlEnd.{VlEnd}
use Rattle.nodes.specs.rules.Finding.{Found}
use Rattle.nodes.specs.rules.Ports.{PortsState, answered, exists, outlet_at, reply, reply_at, start}
use Rattle.nodes.specs.rules.EndSystem.{EndSystemState, asked, copied, copied_reply, copy, end_system, full, is_on, offered_frame, port_of, reception_at, regulated, released_reply, source_at}
use Rattle.nodes.specs.rules.EndSystem as es
use Rattle.nodes.specs.rules.Switch.{SwitchState, entered_reply, judged, outputs_of, switch, transit_at}
use Rattle.nodes.specs.rules.Switch as sw
use Rattle.nodes.specs.rules.Line.{LineState, is_within, line}
use Rattle.nodes.specs.rules.Node.{handled}
use Rattle.nodes.specs.laws.Ports.{reply-cases}
use Rattle.port_turns.specs.PortEvents.{asks, copy_asks, done_at, end_system_asks, or_else, outlet_in, regulated_asks, switch_asks}
use Rattle.port_turns.proofs.Asking.{copied-asks, only, same}
use Rattle.port_turns.proofs.Quiet.{full-quiet, received-quiet}

-- a kind of wish that node n has only where a frame starts at port q; of its other ports it is known which lines they lead into
pub record IsOfPort (is : Wish → Bool) (n q : ℕ) (leads : ℕ → LineAhead → Type 0) : Type 0 where
  pub no_release : (t : ℕ) (vl : VlId) → is (record { time = t; receiver = n; body = body.Release vl }) ≡ false
  pub no_put : (t k : ℕ) (frame : Frame) → is (record { time = t; receiver = n; body = body.Enqueue k frame }) ≡ false
  pub no_arrival : (t r k : ℕ) (frame : Frame) → is (record { time = t; receiver = r; body = body.Arrive k frame }) ≡ false
  pub no_other : (t k : ℕ) (ahead : LineAhead) (frame : Frame) → (k ≡ q → ⊥) → leads k ahead → filter is (start n t k ahead frame).wishes ≡ []

abbrev pub Lead : (ℕ → LineAhead → Type 0) → PortsState → Type 0
Lead leads ports = (k : ℕ) (outlet : Outlet) → outlet_at ports k ≡ Some outlet → leads k outlet.ahead

module _ (is : Wish → Bool) (n q : ℕ) (leads : ℕ → LineAhead → Type 0) (O : IsOfPort is n q leads) where
  abbrev of : Reply → List Wish
  of r = filter is r.wishes

  -- what port q sends of the kind
  abbrev pub sent_of : ℕ → Option PortEvent → Option Outlet → List Wish
  sent_of t (Some e) (Some outlet) = filter is (answered n t q outlet.ahead e (port.out outlet.port e)).wishes
  sent_of t _ _ = []

  port-sends : (t at : ℕ) (e : PortEvent) (ports : PortsState) → Lead leads ports → of (reply n t at e ports) ≡ sent_of t (only q at e) (outlet_at ports q)
  port-sends t at e ports h = elim (cases_eq at q) [ inl k ↦ subst (λ z. of (reply n t z e ports) ≡ sent_of t (only q z e) (outlet_at ports q)) (sym k) (rw (eq-eqb q q refl) (here (outlet_at ports q))) | inr d ↦ rw (ne_eqb at q d) (other d) ]
    where
      here : (o : Option Outlet) → of (reply_at n t q e o) ≡ sent_of t (Some e) o
      here None = refl
      here (Some outlet) = refl

      other : (at ≡ q → ⊥) → of (reply n t at e ports) ≡ []
      other d = reply-cases (λ r. of r ≡ []) n t at e ports (λ r quiet. ap (filter is) quiet) (λ outlet frame k. O.no_other t at outlet.ahead frame d (h at outlet k))

  none : (t : ℕ) (b : Bool) (o : Option Outlet) → sent_of t (cond b None None) o ≡ []
  none t true o = refl
  none t false o = refl

  copied-sends : (t : ℕ) (end : VlEnd) (net : Net) (frame : Frame) (ports : PortsState) → Lead leads ports →
      of (copied_reply n t end net frame ports) ≡ sent_of t (copy_asks q end net (answer.Released frame)) (outlet_at ports q)
  copied-sends t end net frame ports h = go (is_on end net)
    where
      both : (b : Bool) → cond b (Some (copy net frame)) None ≡ cond (b && true) (Some (copy net frame)) None
      both true = refl
      both false = refl

      neither : (b : Bool) → sent_of t (cond (b && false) (Some (copy net frame)) None) (outlet_at ports q) ≡ []
      neither true = refl
      neither false = refl

      go : (b : Bool) → of (cond b (reply n t (port_of net) (copy net frame) ports) silent) ≡ sent_of t (cond ((port_of net == q) && b) (Some (copy net frame)) None) (outlet_at ports q)
      go true = port-sends t (port_of net) (copy net frame) ports h ∙ ap (λ o. sent_of t o (outlet_at ports q)) (both (port_of net == q))
      go false = sym (neither (port_of net == q))

  -- the lines stay
  copied-lead : (end : VlEnd) (net : Net) (frame : Frame) (ports : PortsState) → Lead leads ports → Lead leads (copied end net frame ports)
  copied-lead end net frame ports h k outlet is' = go (outlet_at ports k) refl (copy_asks k end net (answer.Released frame)) (sym (copied-asks k end net frame ports) ∙ is')
    where
      ahead : (a : Option PortEvent) (o : Outlet) → (done_at a o).ahead ≡ o.ahead
      ahead None o = refl
      ahead (Some e) o = refl

      go : (o : Option Outlet) → outlet_at ports k ≡ o → (a : Option PortEvent) → option_map (done_at a) o ≡ Some outlet → leads k outlet.ahead
      go None e a x = absurd (let z : ⊥ = cc in z)
      go (Some before) e a x = subst (leads k) (sym (ahead a before) ∙ ap (λ (z : Outlet). z.ahead) (same_Some (done_at a before) outlet x)) (h k before e)

  released-sends : (t : ℕ) (end : VlEnd) (a : RegAnswer) (ports : PortsState) → Lead leads ports →
      of (released_reply n t end a ports) ≡ sent_of t (or_else (copy_asks q end A a) (copy_asks q end B a)) (outlet_at ports q)
  released-sends t end (answer.Released frame) ports h =
      filter-append is (copied_reply n t end A frame ports).wishes (copied_reply n t end B frame (copied end A frame ports)).wishes ∙
      (ap (λ ws. ws ++ of (copied_reply n t end B frame (copied end A frame ports))) (copied-sends t end A frame ports h) ∙
      (ap (λ ws. sent_of t (copy_asks q end A (answer.Released frame)) (outlet_at ports q) ++ ws) (copied-sends t end B frame (copied end A frame ports) (copied-lead end A frame ports h)) ∙
      (ap (λ o. sent_of t (copy_asks q end A (answer.Released frame)) (outlet_at ports q) ++ sent_of t (copy_asks q end B (answer.Released frame)) o) (copied-asks q end A frame ports) ∙
      two (outlet_at ports q))))
    where
      first : (q : ℕ) → 0 ≡ q → (1 == q) ≡ false
      first q e = subst (λ z. (1 == z) ≡ false) e refl

      two : (o : Option Outlet) →
          sent_of t (copy_asks q end A (answer.Released frame)) o ++ sent_of t (copy_asks q end B (answer.Released frame)) (option_map (done_at (copy_asks q end A (answer.Released frame))) o)
          ≡ sent_of t (or_else (copy_asks q end A (answer.Released frame)) (copy_asks q end B (answer.Released frame))) o
      two o = elim (cases_eq 0 q) [ inl k ↦ rw (first q k) (left (copy_asks q end A (answer.Released frame))) | inr d ↦ rw (ne_eqb 0 q d) (ap (sent_of t (copy_asks q end B (answer.Released frame))) (sym (same o))) ]
        where
          left : (a : Option PortEvent) → sent_of t a o ++ [] ≡ sent_of t (or_else a None) o
          left None = refl
          left (Some e) = append-nil _
  released-sends t end _ ports h = refl

  full-none : (e : RegEvent) (a : RegAnswer) (vl : VlId) (o : Option ℕ) → filter is ((full e a).wishes ++ (asked n vl o).wishes) ≡ []
  full-none e a vl o = filter-append is (full e a).wishes (asked n vl o).wishes ∙ (ap (λ ws. filter is ws ++ filter is (asked n vl o).wishes) (full-quiet e a) ∙ by_ask o)
    where
      by_ask : (o : Option ℕ) → filter is (asked n vl o).wishes ≡ []
      by_ask None = refl
      by_ask (Some at) = rw (O.no_release at vl) refl

  regulated-sends : (t : ℕ) (e : RegEvent) (otherwise : Reply) → of otherwise ≡ [] → (s : EndSystemState) (o : Option (Found Source)) → Lead leads s.ports →
      of (regulated n t e otherwise s o).reply ≡ sent_of t (regulated_asks q e o) (outlet_at s.ports q)
  regulated-sends t e otherwise quiet s None h = quiet
  regulated-sends t e otherwise quiet s (Some found) h =
      let out = regulator.out found.entry.regulator e in
      filter-append is ((full e out.answer).wishes ++ (asked n found.entry.end.vl out.release_at).wishes) (released_reply n t found.entry.end out.answer s.ports).wishes ∙
      (ap (λ ws. ws ++ of (released_reply n t found.entry.end out.answer s.ports)) (full-none e out.answer found.entry.end.vl out.release_at) ∙
      released-sends t found.entry.end out.answer s.ports h)

  end_system-sends : (t : ℕ) (b : Body) (s : EndSystemState) → Lead leads s.ports → of (end_system n t b s).reply ≡ sent_of t (end_system_asks q t b s) (outlet_at s.ports q)
  end_system-sends t (body.Offer vl size sub) s h = regulated-sends t (Offer t sub (offered_frame t vl size)) (loss cause.Unknown (offered_frame t vl size)) refl s (source_at s vl) h
  end_system-sends t (body.Release vl) s h = regulated-sends t (Release t) silent refl s (source_at s vl) h
  end_system-sends t (body.PortFree p) s h = port-sends t p Free s.ports h
  end_system-sends t (body.Arrive p frame) s h = go (exists s.ports p) (reception_at s frame.vl frame.net)
    where
      go : (b : Bool) (o : Option (Found Reception)) → of (cond b (es.taken_in t frame s o) (es.unmoved s)).reply ≡ []
      go true None = refl
      go true (Some found) = ap (filter is) (received-quiet t frame found.entry.receiving)
      go false o = refl
  end_system-sends t _ s h = refl

  entered-none : (t delay at : ℕ) (frame : Frame) (transit : Transit) → of (entered_reply n t delay at frame transit) ≡ []
  entered-none t delay at frame transit = go (transit.input == at) (nat_lt transit.smax frame.size) (account.out transit.account (record { at = t; size = frame.size }))
    where
      forwarded : (ks : List ℕ) → of (sw.forwarded n (t + delay) frame ks) ≡ []
      forwarded [] = refl
      forwarded (k ∷ ks) = rw (O.no_put (t + delay) k frame) (forwarded ks)

      go : (b c : Bool) (v : Verdict) → of (cond b (cond c (loss cause.TooLong frame) (judged n (t + delay) frame (outputs_of transit) v)) (loss cause.Unknown frame)) ≡ []
      go true false verdict.Passed = forwarded (outputs_of transit)
      go _ _ _ = refl

  switch-sends : (t : ℕ) (b : Body) (s : SwitchState) → Lead leads s.ports → of (switch n t b s).reply ≡ sent_of t (switch_asks q b s) (outlet_at s.ports q)
  switch-sends t (body.PortFree p) s h = port-sends t p Free s.ports h
  switch-sends t (body.Arrive p frame) s h = go (exists s.ports p) (transit_at s frame.vl)
    where
      go : (b : Bool) (o : Option (Found Transit)) → of (cond b (sw.taken_in n t p frame s o) (sw.unmoved s)).reply ≡ []
      go true None = refl
      go true (Some found) = entered-none t s.latency p frame found.entry
      go false o = refl
  switch-sends t (body.Enqueue p frame) s h = go (outlet_at s.ports p) refl (transit_at s frame.vl)
    where
      nowhere : (e : PortEvent) → outlet_at s.ports p ≡ None → sent_of t (only q p e) (outlet_at s.ports q) ≡ []
      nowhere e k = elim (cases_eq p q) [ inl z ↦ (let none' : outlet_at s.ports q ≡ None = subst (λ i. outlet_at s.ports i ≡ None) z k in rw (eq-eqb p q z, none') refl) | inr d ↦ rw (ne_eqb p q d) refl ]

      go : (slot : Option Outlet) → outlet_at s.ports p ≡ slot → (o : Option (Found Transit)) →
          of (cond (is_some slot) (sw.put n t p frame s o) (sw.unmoved s)).reply ≡ sent_of t (cond (p == q) (option_map (λ found. Put frame found.entry.priority) o) None) (outlet_at s.ports q)
      go None k None = sym (none t (p == q) (outlet_at s.ports q))
      go None k (Some found) = sym (nowhere (Put frame found.entry.priority) k)
      go (Some outlet) k None = sym (none t (p == q) (outlet_at s.ports q))
      go (Some outlet) k (Some found) = port-sends t p (Put frame found.entry.priority) s.ports h
  switch-sends t _ s h = refl

  line-sends : (t : ℕ) (b : Body) (s : LineState) → of (line t b s) ≡ []
  line-sends t (body.Carry frame) s = go (list_any (is_within t) s.outages)
    where
      go : (b : Bool) → of (cond b (loss cause.Outage frame) (record { wishes = record { time = t + s.propagation; receiver = s.to; body = body.Arrive s.to_port frame } ∷ []; notes = [] })) ≡ []
      go true = refl
      go false = rw (O.no_arrival (t + s.propagation) s.to s.to_port frame) refl
  line-sends t _ s = refl

  abbrev pub LeadIn : Equipment → Type 0
  LeadIn (EndSystem s) = Lead leads s.ports
  LeadIn (Switch s) = Lead leads s.ports
  LeadIn (Line s) = ⊤

  -- what a node sends of the kind is what its port sends, where a message asks something of it
  pub node-sends : (m : Message) (e : Equipment) → LeadIn e → of (handled n m e).reply ≡ sent_of m.time (asks q m e) (outlet_in e q)
  node-sends m (EndSystem s) h = end_system-sends m.time m.body s h
  node-sends m (Switch s) h = switch-sends m.time m.body s h
  node-sends m (Line s) h = line-sends m.time m.body s
