-- What a node sends into a line: the frames that start at the port before it, each as its last bit leaves.
use Rattle.std.proofs.Common.{◌≡◌, ℕ, ◌+◌, ◌==◌, Bool, true, false, cond, List, [], ◌∷◌, ◌++◌, filter, map, Option, Some, None, option_map, refl, sym, ap, ◌∙◌, subst, eq-eqb, ne_eqb}
use Rattle.std.proofs.lemmas.Option.{same_Some}
use Rattle.std.proofs.lemmas.List.{map-append}
use Rattle.vlink.specs.Wire.{last_bit_after}
use Rattle.vlink.specs.declared.message.Message.{Message}
use Rattle.vlink.specs.declared.message.Body.{Body}
use Rattle.vlink.specs.declared.message.Body.TheVariants.{Carry}
use Rattle.output_port.specs.Port.{port}
use Rattle.output_port.specs.declared.event.PortEvent.{PortEvent}
use Rattle.output_port.specs.declared.event.PortEvent.TheVariants.{Put}
use Rattle.output_port.specs.declared.event.PortAnswer.{PortAnswer}
use Rattle.output_port.specs.declared.event.PortAnswer.TheVariants as answer
use Rattle.reverse.specs.Sending.{Wish}
use Rattle.reverse.specs.Rules.{rules_of}
use Rattle.virtual_time.specs.Law.{reached}
use Rattle.port_bounds.specs.Sublists.{IsSublist}
use Rattle.element_bounds.specs.PortTrace.{FrameStart, started_by, started_of}
use Rattle.nodes.specs.declared.equipment.Equipment.{Equipment}
use Rattle.nodes.specs.declared.equipment.Equipment.TheVariants.{Line}
use Rattle.nodes.specs.declared.ports.LineAhead.{LineAhead}
use Rattle.nodes.specs.declared.ports.Outlet.{Outlet}
use Rattle.nodes.specs.rules.Ports.{answered}
use Rattle.nodes.specs.rules.Node.{NodeState, after, handled}
use Rattle.nodes.specs.undoing.Node.{node}
use Rattle.port_turns.specs.PortEvents.{asks, done_at, outlet_in}
use Rattle.port_turns.specs.PortRuns.{asked_at, input_of, port_events}
use Rattle.port_turns.proofs.Asking.{node-asks}
use Rattle.port_turns.proofs.SentKinds.{mine, sub-refl, wished, wished-sub}
use Rattle.port_turns.proofs.Sending.{IsOfPort, LeadIn, node-sends, sent_of}

abbrev pub is_carry : Body → Bool
is_carry (Carry frame) = true
is_carry _ = false

-- a port as it was has the line that it has
ahead-before : (a : Option PortEvent) (o : Option Outlet) (outlet : Outlet) → option_map (done_at a) o ≡ Some outlet → (before : Outlet) × (o ≡ Some before) × (outlet.ahead ≡ before.ahead)
ahead-before a None outlet h = absurd (let z : ⊥ = cc in z)
ahead-before a (Some before) outlet h = (before, refl, sym (ap (λ (z : Outlet). z.ahead) (same_Some (done_at a before) outlet h)) ∙ same a)
  where
    same : (a : Option PortEvent) → (done_at a before).ahead ≡ before.ahead
    same None = refl
    same (Some e) = refl

both-false : (b : Bool) → cond b false false ≡ false
both-false true = refl
both-false false = refl

-- what holds of the lines that ports lead into stays
module _ (P : ℕ → LineAhead → Type 0) where
  abbrev pub AllLead : Equipment → Type 0
  AllLead e = (j : ℕ) (outlet : Outlet) → outlet_in e j ≡ Some outlet → P j outlet.ahead

  pub lead-stay : (n : ℕ) (m : Message) (e : Equipment) → AllLead e → AllLead (handled n m e).equipment
  lead-stay n m e h j outlet is =
      let b = ahead-before (asks j m e) (outlet_in e j) outlet (sym (node-asks n j m e) ∙ is) in
      subst (P j) (sym b.2) (h j b.0 b.1)

  pub lead-reached : (s : NodeState) (ms : List Message) → AllLead s.equipment → AllLead (reached (rules_of node) s ms).equipment
  lead-reached s [] h = h
  lead-reached s (m ∷ ms) h = lead-reached (after s m) ms (lead-stay s.sender.number m s.equipment h)

-- a frame that starts, as it is carried into line k
abbrev pub carried : ℕ → ℕ → FrameStart → Wish
carried k byte_ns s = record { time = s.at + last_bit_after s.frame.size byte_ns; receiver = k; body = Carry s.frame }

module _ (q k : ℕ) where
  -- the other ports lead into other lines
  abbrev pub elsewhere : ℕ → LineAhead → Type 0
  elsewhere j ahead = (j ≡ q → ⊥) → ahead.line ≡ k → ⊥

  module _ (n : ℕ) where
    own : IsOfPort (mine is_carry k) n q elsewhere
    own = record {
      no_release = λ t vl. both-false (n == k);
      no_put = λ t i frame. both-false (n == k);
      no_arrival = λ t r i frame. both-false (r == k);
      no_other = λ t i ahead frame d l. rw (ne_eqb ahead.line k (l d), both-false (n == k)) refl;
    }

    leads : (e : Equipment) → AllLead elsewhere e → LeadIn (mine is_carry k) n q elsewhere own e
    leads (Line s) h = tt
    leads _ h = h

    answered-carries : (t : ℕ) (ahead : LineAhead) (e : PortEvent) (a : PortAnswer) → ahead.line ≡ k → filter (mine is_carry k) (answered n t q ahead e a).wishes ≡ map (carried k ahead.byte_ns) (started_by t a)
    answered-carries t ahead e (answer.Started frame) h =
        rw (eq-eqb ahead.line k h, both-false (n == k)) (ap (λ z. record { time = t + last_bit_after frame.size ahead.byte_ns; receiver = z; body = Carry frame } ∷ []) h)
    answered-carries t ahead (Put frame r) answer.Dropped h = refl
    answered-carries t ahead _ _ h = refl

    -- what one message makes the node send into the line
    abbrev pub carries_of : ℕ → Option PortEvent → Outlet → List Wish
    carries_of t None outlet = []
    carries_of t (Some e) outlet = map (carried k outlet.ahead.byte_ns) (started_by t (port.out outlet.port e))

    pub node-carries : (m : Message) (e : Equipment) (outlet : Outlet) → AllLead elsewhere e → outlet_in e q ≡ Some outlet → outlet.ahead.line ≡ k →
        filter (mine is_carry k) (handled n m e).reply.wishes ≡ carries_of m.time (asks q m e) outlet
    node-carries m e outlet h is into =
        node-sends (mine is_carry k) n q elsewhere own m e (leads e h) ∙ (ap (sent_of (mine is_carry k) n q elsewhere own m.time (asks q m e)) is ∙ go (asks q m e))
      where
        go : (o : Option PortEvent) → sent_of (mine is_carry k) n q elsewhere own m.time o (Some outlet) ≡ carries_of m.time o outlet
        go None = refl
        go (Some event) = answered-carries m.time outlet.ahead event (port.out outlet.port event) into

    -- a node with no port into the line sends nothing there
    answered-elsewhere : (t : ℕ) (ahead : LineAhead) (e : PortEvent) (a : PortAnswer) → (ahead.line ≡ k → ⊥) → filter (mine is_carry k) (answered n t q ahead e a).wishes ≡ []
    answered-elsewhere t ahead e (answer.Started frame) d = rw (ne_eqb ahead.line k d, both-false (n == k)) refl
    answered-elsewhere t ahead (Put frame r) answer.Dropped d = refl
    answered-elsewhere t ahead _ _ d = refl

    pub none-carries : (m : Message) (e : Equipment) → AllLead (λ j ahead. ahead.line ≡ k → ⊥) e → filter (mine is_carry k) (handled n m e).reply.wishes ≡ []
    none-carries m e h = node-sends (mine is_carry k) n q elsewhere own m e (leads e (λ j outlet is d. h j outlet is)) ∙ go (asks q m e) (outlet_in e q) refl
      where
        go : (o : Option PortEvent) (slot : Option Outlet) → outlet_in e q ≡ slot → sent_of (mine is_carry k) n q elsewhere own m.time o slot ≡ []
        go (Some event) (Some outlet) is = answered-elsewhere m.time outlet.ahead event (port.out outlet.port event) (h q outlet is)
        go _ _ is = refl

  -- the messages of a node into the line are some of its starts
  pub carries : (s : NodeState) (outlet : Outlet) (ms : List Message) → AllLead elsewhere s.equipment → outlet_in s.equipment q ≡ Some outlet → outlet.ahead.line ≡ k →
      IsSublist (wished is_carry k s ms) (map (carried k outlet.ahead.byte_ns) (started_of outlet.port (port_events q s ms)))
  carries s outlet [] h is into = tt
  carries s outlet (m ∷ ms) h is into =
      go (asks q m s.equipment) (node-carries s.sender.number m s.equipment outlet h is into) (node-asks s.sender.number q m s.equipment ∙ ap (option_map (done_at (asks q m s.equipment))) is)
      (λ outlet' is' into'. carries (after s m) outlet' ms (lead-stay elsewhere s.sender.number m s.equipment h) is' into')
    where
      go : (o : Option PortEvent) → filter (mine is_carry k) (handled s.sender.number m s.equipment).reply.wishes ≡ carries_of s.sender.number m.time o outlet →
          outlet_in (after s m).equipment q ≡ Some (done_at o outlet) →
          ((outlet' : Outlet) → outlet_in (after s m).equipment q ≡ Some outlet' → outlet'.ahead.line ≡ k →
          IsSublist (wished is_carry k (after s m) ms) (map (carried k outlet'.ahead.byte_ns) (started_of outlet'.port (port_events q (after s m) ms)))) →
          IsSublist (wished is_carry k s (m ∷ ms)) (map (carried k outlet.ahead.byte_ns) (started_of outlet.port (asked_at m.time (input_of m.body s.equipment) o ++ port_events q (after s m) ms)))
      go None now is' rest = wished-sub is_carry k s m ms [] _ (subst (λ z. IsSublist z []) (sym now) tt) (rest outlet is' into)
      go (Some event) now is' rest =
          subst (IsSublist (wished is_carry k s (m ∷ ms))) (sym (map-append (carried k outlet.ahead.byte_ns) (started_by m.time (port.out outlet.port event)) (started_of (port.after outlet.port event) (port_events q (after s m) ms))))
          (wished-sub is_carry k s m ms (map (carried k outlet.ahead.byte_ns) (started_by m.time (port.out outlet.port event))) _ (subst (λ z. IsSublist z (map (carried k outlet.ahead.byte_ns) (started_by m.time (port.out outlet.port event)))) (sym now) (sub-refl _))
          (rest (done_at (Some event) outlet) is' into))
