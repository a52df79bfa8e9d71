-- Why a port does just what a message asks of it.
use Rattle.std.proofs.Common.{◌≡◌, ℕ, ◌==◌, ◌&&◌, inl, inr, Bool, true, false, cond, slice_get, Option, None, Some, option_map, option_and_then, is_some, refl, sym, ap, ◌∙◌, subst, eq-eqb, ne_eqb}
use Rattle.std.proofs.lemmas.Bool.{cases_eq}
use Rattle.std.proofs.lemmas.Option.{option_and_then_some}
use Rattle.vlink.specs.declared.frame.Frame.{Frame}
use Rattle.vlink.specs.declared.frame.Net.{Net}
use Rattle.vlink.specs.declared.frame.Net.TheVariants.{A, B}
use Rattle.vlink.specs.declared.message.Message.{Message}
use Rattle.vlink.specs.declared.message.Body.{Body}
use Rattle.vlink.specs.declared.message.Body.TheVariants as body
use Rattle.vlink.specs.declared.note.Cause.TheVariants.{Unknown}
use Rattle.bag_regulator.specs.Regulator.{regulator}
use Rattle.bag_regulator.specs.declared.event.RegEvent.{RegEvent}
use Rattle.bag_regulator.specs.declared.event.RegEvent.TheVariants.{Offer, Release}
use Rattle.bag_regulator.specs.declared.event.RegAnswer.{RegAnswer}
use Rattle.bag_regulator.specs.declared.event.RegAnswer.TheVariants as answer
use Rattle.output_port.specs.Port.{port}
use Rattle.output_port.specs.declared.event.PortEvent.{PortEvent}
use Rattle.output_port.specs.declared.event.PortEvent.TheVariants.{Put, Free}
use Rattle.reverse.specs.Sending.{Reply, silent, loss}
use Rattle.nodes.specs.declared.equipment.Equipment.{Equipment}
use Rattle.nodes.specs.declared.equipment.Equipment.TheVariants.{EndSystem, Switch, Line}
use Rattle.nodes.specs.declared.ports.Outlet.{Outlet}
use Rattle.nodes.specs.declared.reception.Reception.{Reception}
use Rattle.nodes.specs.declared.source.Source.{Source}
use Rattle.nodes.specs.declared.transit.Transit.{Transit}
use Rattle.nodes.specs.declared.vl_end.VlEnd.{VlEnd}
use Rattle.nodes.specs.rules.Finding.{Found}
use Rattle.nodes.specs.rules.Ports.{PortsState, changed, changed_at, exists, outlet_at}
use Rattle.nodes.specs.rules.EndSystem.{EndSystemState, copied, copy, end_system, is_on, offered_frame, port_of, reception_at, regulated, released_out, source_at}
use Rattle.nodes.specs.rules.EndSystem as es
use Rattle.nodes.specs.rules.Switch.{SwitchState, switch, transit_at}
use Rattle.nodes.specs.rules.Switch as sw
use Rattle.nodes.specs.rules.Node.{handled}
use Rattle.nodes.specs.laws.Places.{get-set}
use Rattle.port_turns.specs.PortEvents.{asks, copy_asks, done_at, end_system_asks, or_else, outlet_in, regulated_asks, switch_asks}
use Rattle.port_turns.proofs.Turns.{get-other}

-- nothing is asked
pub same : (o : Option Outlet) → o ≡ option_map (done_at None) o
same None = refl
same (Some outlet) = refl

there : (ports : PortsState) (q : ℕ) (outlet : Outlet) → outlet_at ports q ≡ Some outlet → slice_get ports q ≡ Some (Some outlet)
there ports q outlet is = option_and_then_some (λ o. o) (slice_get ports q) outlet is (λ o read same. read ∙ ap Some same)

-- port `at` is asked to do something
abbrev pub only : ℕ → ℕ → PortEvent → Option PortEvent
only q at e = cond (at == q) (Some e) None

pub changed-asks : (q at : ℕ) (e : PortEvent) (ports : PortsState) → outlet_at (changed at e ports) q ≡ option_map (done_at (only q at e)) (outlet_at ports q)
changed-asks q at e ports = elim (cases_eq at q) [ inl k ↦ subst (λ z. outlet_at (changed z e ports) q ≡ option_map (done_at (only q z e)) (outlet_at ports q)) (sym k) (rw (eq-eqb q q refl) (here (outlet_at ports q) refl)) | inr d ↦ rw (ne_eqb at q d) (other d (outlet_at ports at)) ]
  where
    here : (o : Option Outlet) → outlet_at ports q ≡ o → outlet_at (changed_at q e ports o) q ≡ option_map (done_at (Some e)) o
    here None is = is
    here (Some outlet) is = ap (option_and_then (λ o. o)) (get-set ports q (Some outlet) (Some (record outlet { port = port.after outlet.port e })) (there ports q outlet is))

    other : (at ≡ q → ⊥) → (o : Option Outlet) → outlet_at (changed_at at e ports o) q ≡ option_map (done_at None) (outlet_at ports q)
    other d None = same (outlet_at ports q)
    other d (Some outlet) = ap (option_and_then (λ o. o)) (get-other ports at q (Some (record outlet { port = port.after outlet.port e })) (λ k. d (sym k))) ∙ same (outlet_at ports q)

-- a copy of a frame
pub copied-asks : (q : ℕ) (end : VlEnd) (net : Net) (frame : Frame) (ports : PortsState) →
    outlet_at (copied end net frame ports) q ≡ option_map (done_at (copy_asks q end net (answer.Released frame))) (outlet_at ports q)
copied-asks q end net frame ports = go (is_on end net)
  where
    both : (b : Bool) → cond b (Some (copy net frame)) None ≡ cond (b && true) (Some (copy net frame)) None
    both true = refl
    both false = refl

    neither : (b : Bool) → cond (b && false) (Some (copy net frame)) None ≡ None
    neither true = refl
    neither false = refl

    go : (b : Bool) → outlet_at (cond b (changed (port_of net) (copy net frame) ports) ports) q ≡ option_map (done_at (cond ((port_of net == q) && b) (Some (copy net frame)) None)) (outlet_at ports q)
    go true = changed-asks q (port_of net) (copy net frame) ports ∙ ap (λ o. option_map (done_at o) (outlet_at ports q)) (both (port_of net == q))
    go false = same (outlet_at ports q) ∙ ap (λ o. option_map (done_at o) (outlet_at ports q)) (sym (neither (port_of net == q)))

-- both copies, each at its own port
released-asks : (q : ℕ) (end : VlEnd) (a : RegAnswer) (ports : PortsState) →
    outlet_at (released_out end a ports) q ≡ option_map (done_at (or_else (copy_asks q end A a) (copy_asks q end B a))) (outlet_at ports q)
released-asks q end (answer.Released frame) ports =
    copied-asks q end B frame (copied end A frame ports) ∙
    (ap (option_map (done_at (copy_asks q end B (answer.Released frame)))) (copied-asks q end A frame ports) ∙ two q (is_on end A) (is_on end B) (outlet_at ports q))
  where
    two : (q : ℕ) (a b : Bool) (o : Option Outlet) →
        option_map (done_at (cond ((1 == q) && b) (Some (copy B frame)) None)) (option_map (done_at (cond ((0 == q) && a) (Some (copy A frame)) None)) o)
        ≡ option_map (done_at (or_else (cond ((0 == q) && a) (Some (copy A frame)) None) (cond ((1 == q) && b) (Some (copy B frame)) None))) o
    two q a b None = refl
    two q a b (Some outlet) = elim (cases_eq 0 q) [ inl k ↦ subst (λ z. Some (done_at (cond ((1 == z) && b) (Some (copy B frame)) None) (done_at (cond ((0 == z) && a) (Some (copy A frame)) None) outlet)) ≡ Some (done_at (or_else (cond ((0 == z) && a) (Some (copy A frame)) None) (cond ((1 == z) && b) (Some (copy B frame)) None)) outlet)) k (first a) | inr d ↦ rw (ne_eqb 0 q d) refl ]
      where
        first : (a : Bool) → Some (done_at None (done_at (cond a (Some (copy A frame)) None) outlet)) ≡ Some (done_at (or_else (cond a (Some (copy A frame)) None) None) outlet)
        first true = refl
        first false = refl
released-asks q end _ ports = same (outlet_at ports q)

regulated-asks : (n t q : ℕ) (e : RegEvent) (otherwise : Reply) (s : EndSystemState) (o : Option (Found Source)) →
    outlet_at (regulated n t e otherwise s o).state.ports q ≡ option_map (done_at (regulated_asks q e o)) (outlet_at s.ports q)
regulated-asks n t q e otherwise s None = same (outlet_at s.ports q)
regulated-asks n t q e otherwise s (Some found) = released-asks q found.entry.end (regulator.out found.entry.regulator e).answer s.ports

end_system-asks : (n t q : ℕ) (b : Body) (s : EndSystemState) → outlet_at (end_system n t b s).state.ports q ≡ option_map (done_at (end_system_asks q t b s)) (outlet_at s.ports q)
end_system-asks n t q (body.Offer vl size sub) s = regulated-asks n t q (Offer t sub (offered_frame t vl size)) (loss Unknown (offered_frame t vl size)) s (source_at s vl)
end_system-asks n t q (body.Release vl) s = regulated-asks n t q (Release t) silent s (source_at s vl)
end_system-asks n t q (body.PortFree p) s = changed-asks q p Free s.ports
end_system-asks n t q (body.Arrive p frame) s = go (exists s.ports p) (reception_at s frame.vl frame.net)
  where
    go : (b : Bool) (o : Option (Found Reception)) → outlet_at (cond b (es.taken_in t frame s o) (es.unmoved s)).state.ports q ≡ option_map (done_at None) (outlet_at s.ports q)
    go true None = same (outlet_at s.ports q)
    go true (Some found) = same (outlet_at s.ports q)
    go false o = same (outlet_at s.ports q)
end_system-asks n t q _ s = same (outlet_at s.ports q)

switch-asks : (n t q : ℕ) (b : Body) (s : SwitchState) → outlet_at (switch n t b s).state.ports q ≡ option_map (done_at (switch_asks q b s)) (outlet_at s.ports q)
switch-asks n t q (body.PortFree p) s = changed-asks q p Free s.ports
switch-asks n t q (body.Arrive p frame) s = go (exists s.ports p) (transit_at s frame.vl)
  where
    go : (b : Bool) (o : Option (Found Transit)) → outlet_at (cond b (sw.taken_in n t p frame s o) (sw.unmoved s)).state.ports q ≡ option_map (done_at None) (outlet_at s.ports q)
    go true None = same (outlet_at s.ports q)
    go true (Some found) = same (outlet_at s.ports q)
    go false o = same (outlet_at s.ports q)
switch-asks n t q (body.Enqueue p frame) s = go (outlet_at s.ports p) refl (transit_at s frame.vl)
  where
    -- where there is no such port nothing is done
    nowhere : (e : PortEvent) → outlet_at s.ports p ≡ None → outlet_at s.ports q ≡ option_map (done_at (only q p e)) (outlet_at s.ports q)
    nowhere e is = elim (cases_eq p q) [ inl k ↦ (let none : outlet_at s.ports q ≡ None = subst (λ z. outlet_at s.ports z ≡ None) k is in rw none refl) | inr d ↦ rw (ne_eqb p q d) (same (outlet_at s.ports q)) ]

    unknown : (b : Bool) → outlet_at s.ports q ≡ option_map (done_at (cond b None None)) (outlet_at s.ports q)
    unknown true = same (outlet_at s.ports q)
    unknown false = same (outlet_at s.ports q)

    go : (slot : Option Outlet) → outlet_at s.ports p ≡ slot → (o : Option (Found Transit)) →
        outlet_at (cond (is_some slot) (sw.put n t p frame s o) (sw.unmoved s)).state.ports q ≡ option_map (done_at (cond (p == q) (option_map (λ found. Put frame found.entry.priority) o) None)) (outlet_at s.ports q)
    go None is None = unknown (p == q)
    go None is (Some found) = nowhere (Put frame found.entry.priority) is
    go (Some outlet) is None = unknown (p == q)
    go (Some outlet) is (Some found) = changed-asks q p (Put frame found.entry.priority) s.ports
switch-asks n t q _ s = same (outlet_at s.ports q)

pub node-asks : (n q : ℕ) (m : Message) (e : Equipment) → outlet_in (handled n m e).equipment q ≡ option_map (done_at (asks q m e)) (outlet_in e q)
node-asks n q m (EndSystem s) = end_system-asks n m.time q m.body s
node-asks n q m (Switch s) = switch-asks n m.time q m.body s
node-asks n q m (Line s) = refl
