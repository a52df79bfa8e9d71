-- What a message makes of a port of a node: the turn that follows from what it asks of the port.
use Rattle.std.proofs.Common.{◌≡◌, ℕ, ◌==◌, ◌&&◌, inl, inr, Bool, true, false, cond, List, [], Option, None, Some, option_map, refl, sym, ap, ◌∙◌, subst, ne_eqb}
use Rattle.std.specs.Prelude.{⊤}
use Rattle.std.proofs.lemmas.Option.{none-some}
use Rattle.vlink.specs.declared.frame.Net.TheVariants.{A, B}
use Rattle.vlink.specs.declared.message.Message.{Message}
use Rattle.vlink.specs.declared.message.Body.{Body}
use Rattle.vlink.specs.declared.message.Body.TheVariants as body
use Rattle.bag_regulator.specs.Regulator.{regulator}
use Rattle.bag_regulator.specs.declared.event.RegEvent.{RegEvent}
use Rattle.bag_regulator.specs.declared.event.RegEvent.TheVariants.{Offer, Release}
use Rattle.bag_regulator.specs.declared.event.RegAnswer.{RegAnswer}
use Rattle.bag_regulator.specs.declared.event.RegAnswer.TheVariants as answer
use Rattle.output_port.specs.Port.{port}
use Rattle.output_port.specs.declared.event.PortEvent.{PortEvent}
use Rattle.output_port.specs.declared.event.PortEvent.TheVariants.{Put, Free}
use Rattle.reverse.specs.Sending.{Wish}
use Rattle.nodes.specs.declared.equipment.Equipment.{Equipment}
use Rattle.nodes.specs.declared.equipment.Equipment.TheVariants.{EndSystem, Switch, Line}
use Rattle.nodes.specs.declared.ports.LineAhead.{LineAhead}
use Rattle.nodes.specs.declared.ports.Outlet.{Outlet}
use Rattle.nodes.specs.declared.source.Source.{Source}
use Rattle.nodes.specs.declared.transit.Transit.{Transit}
use Rattle.nodes.specs.declared.vl_end.VlEnd.{VlEnd}
use Rattle.nodes.specs.rules.Finding.{Found}
use Rattle.nodes.specs.rules.Ports.{answered}
use Rattle.nodes.specs.rules.EndSystem.{EndSystemState, copy, is_on, offered_frame, port_of, source_at}
use Rattle.nodes.specs.rules.Switch.{SwitchState, transit_at}
use Rattle.nodes.specs.rules.Node.{handled, port_in}
use Rattle.port_turns.specs.PortTimer.{busy_of, frees, is_busy_in, is_free}
use Rattle.port_turns.specs.PortEvents.{asks, copy_asks, done_at, end_system_asks, or_else, outlet_in, regulated_asks, switch_asks}
use Rattle.port_turns.proofs.Asking.{node-asks}
use Rattle.port_turns.proofs.Sending.{IsOfPort, LeadIn, node-sends, sent_of}
use Rattle.port_turns.proofs.Turns.{Turn, is_free_event, port-turn}
use Rattle.port_turns.proofs.Turns.Turn.{Stays}

-- a port is asked to be free
abbrev pub frees_port : Option PortEvent → Bool
frees_port None = false
frees_port (Some Free) = true
frees_port (Some (Put frame r)) = false

same-event : (e : PortEvent) → frees_port (Some e) ≡ is_free_event e
same-event (Put frame r) = refl
same-event Free = refl

module _ (q : ℕ) where
  -- by PortFree alone, and by each of its own
  copies-put : (end : VlEnd) (a : RegAnswer) → frees_port (or_else (copy_asks q end A a) (copy_asks q end B a)) ≡ false
  copies-put end (answer.Released frame) = go ((port_of A == q) && is_on end A) ((port_of B == q) && is_on end B)
    where
      go : (a b : Bool) → frees_port (or_else (cond a (Some (copy A frame)) None) (cond b (Some (copy B frame)) None)) ≡ false
      go true b = refl
      go false true = refl
      go false false = refl
  copies-put end _ = refl

  regulated-puts : (e : RegEvent) (o : Option (Found Source)) → frees_port (regulated_asks q e o) ≡ false
  regulated-puts e None = refl
  regulated-puts e (Some found) = copies-put found.entry.end (regulator.out found.entry.regulator e).answer

  own-free : (b : Bool) → b ≡ frees_port (cond b (Some Free) None)
  own-free true = refl
  own-free false = refl

  end_system-kind : (t : ℕ) (b : Body) (s : EndSystemState) → is_free q b ≡ frees_port (end_system_asks q t b s)
  end_system-kind t (body.Offer vl size sub) s = sym (regulated-puts (Offer t sub (offered_frame t vl size)) (source_at s vl))
  end_system-kind t (body.Release vl) s = sym (regulated-puts (Release t) (source_at s vl))
  end_system-kind t (body.PortFree p) s = own-free (p == q)
  end_system-kind t _ s = refl

  switch-kind : (b : Body) (s : SwitchState) → is_free q b ≡ frees_port (switch_asks q b s)
  switch-kind (body.PortFree p) s = own-free (p == q)
  switch-kind (body.Enqueue p frame) s = go (p == q) (transit_at s frame.vl)
    where
      go : (b : Bool) (o : Option (Found Transit)) → false ≡ frees_port (cond b (option_map (λ found. Put frame found.entry.priority) o) None)
      go true None = refl
      go true (Some found) = refl
      go false o = refl
  switch-kind _ s = refl

  -- at a node with such a port
  pub node-kind : (m : Message) (e : Equipment) (outlet : Outlet) → outlet_in e q ≡ Some outlet → is_free q m.body ≡ frees_port (asks q m e)
  node-kind m (EndSystem s) outlet h = end_system-kind m.time m.body s
  node-kind m (Switch s) outlet h = switch-kind m.body s
  node-kind m (Line s) outlet h = absurd (none-some outlet h)

  port-of : (e : Equipment) → port_in e q ≡ option_map (λ o. o.port) (outlet_in e q)
  port-of (EndSystem s) = refl
  port-of _ = refl

  -- whether the port is busy
  pub busy-is : (e : Equipment) (slot : Option Outlet) → outlet_in e q ≡ slot → is_busy_in e q ≡ busy_of (option_map (λ o. o.port) slot)
  busy-is e slot h = ap busy_of (port-of e ∙ ap (option_map (λ (o : Outlet). o.port)) h)

  module _ (n : ℕ) where
    -- PortFree of port q is sent by port q alone
    abbrev any : ℕ → LineAhead → Type 0
    any k ahead = ⊤

    own : IsOfPort (λ w. is_free q w.body) n q any
    own = record {
      no_release = λ t vl. refl;
      no_put = λ t k frame. refl;
      no_arrival = λ t r k frame. refl;
      no_other = λ t k ahead frame d l. rw (ne_eqb k q d) refl;
    }

    leads : (e : Equipment) → LeadIn (λ w. is_free q w.body) n q any own e
    leads (Line s) = tt
    leads _ = λ k outlet h. tt

    -- the PortFree that the port sends
    abbrev pub freed_by : ℕ → Option PortEvent → Option Outlet → List Wish
    freed_by t (Some e) (Some outlet) = frees q (answered n t q outlet.ahead e (port.out outlet.port e)).wishes
    freed_by t _ _ = []

    same-freed : (t : ℕ) (o : Option PortEvent) (slot : Option Outlet) → sent_of (λ w. is_free q w.body) n q any own t o slot ≡ freed_by t o slot
    same-freed t (Some e) (Some outlet) = refl
    same-freed t _ _ = refl

    pub node-frees : (m : Message) (e : Equipment) (slot : Option Outlet) (o : Option PortEvent) → outlet_in e q ≡ slot → asks q m e ≡ o → frees q (handled n m e).reply.wishes ≡ freed_by m.time o slot
    node-frees m e slot o h k =
        node-sends (λ w. is_free q w.body) n q any own m e (leads e) ∙ (same-freed m.time (asks q m e) (outlet_in e q) ∙
        (ap (λ z. freed_by m.time z (outlet_in e q)) k ∙ ap (freed_by m.time o) h))

pub node-after : (n q : ℕ) (m : Message) (e : Equipment) (slot : Option Outlet) (o : Option PortEvent) → outlet_in e q ≡ slot → asks q m e ≡ o → outlet_in (handled n m e).equipment q ≡ option_map (done_at o) slot
node-after n q m e slot o h k = node-asks n q m e ∙ (ap (λ z. option_map (done_at z) (outlet_in e q)) k ∙ ap (option_map (done_at o)) h)

pub node-turn : (n q : ℕ) (m : Message) (e : Equipment) → Turn n (is_free q m.body) (is_busy_in e q) (is_busy_in (handled n m e).equipment q) (frees q (handled n m e).reply.wishes)
node-turn n q m e = go (outlet_in e q) refl (asks q m e) refl
  where
    after-is : (slot : Option Outlet) (o : Option PortEvent) → outlet_in e q ≡ slot → asks q m e ≡ o → is_busy_in (handled n m e).equipment q ≡ busy_of (option_map (λ z. z.port) (option_map (done_at o) slot))
    after-is slot o h k = busy-is q (handled n m e).equipment (option_map (done_at o) slot) (node-after n q m e slot o h k)

    none : (t : ℕ) (o : Option PortEvent) → freed_by q n t o None ≡ []
    none t (Some event) = refl
    none t None = refl

    go : (slot : Option Outlet) → outlet_in e q ≡ slot → (o : Option PortEvent) → asks q m e ≡ o →
        Turn n (is_free q m.body) (is_busy_in e q) (is_busy_in (handled n m e).equipment q) (frees q (handled n m e).reply.wishes)
    go None h o k = Stays (after-is None o h k ∙ sym (busy-is q e None h)) (node-frees q n m e None o h k ∙ none m.time o) (inr (busy-is q e None h))
    go (Some outlet) h None k = Stays (after-is (Some outlet) None h k ∙ sym (busy-is q e (Some outlet) h)) (node-frees q n m e (Some outlet) None h k) (inl (node-kind q m e outlet h ∙ ap frees_port k))
    go (Some outlet) h (Some event) k =
        subst (λ z. Turn n z (is_busy_in e q) (is_busy_in (handled n m e).equipment q) (frees q (handled n m e).reply.wishes)) (sym (node-kind q m e outlet h ∙ (ap frees_port k ∙ same-event event)))
        (subst (λ z. Turn n (is_free_event event) z (is_busy_in (handled n m e).equipment q) (frees q (handled n m e).reply.wishes)) (sym (busy-is q e (Some outlet) h))
        (subst (λ z. Turn n (is_free_event event) outlet.port.busy z (frees q (handled n m e).reply.wishes)) (sym (after-is (Some outlet) (Some event) h k))
        (subst (λ z. Turn n (is_free_event event) outlet.port.busy (port.after outlet.port event).busy z) (sym (node-frees q n m e (Some outlet) (Some event) h k))
        (port-turn n m.time q outlet.ahead outlet.port event))))
