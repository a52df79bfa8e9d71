-- A switch sends at most 624 messages for each moment: 24 for each frame that comes to one of 24 ports, and two for each that starts at one.
use Rattle.std.proofs.Common.{◌≡◌, ℕ, ◌+◌, ◌*◌, ◌<◌, ◌≤◌, ◌==◌, ◌⊎◌, inl, inr, Bool, true, false, cond, List, [], ◌∷◌, length, is_some, Option, Some, None, option_map, refl, ap, sym, ◌∙◌, arith, length-append, eq-eqb}
use Rattle.std.specs.Prelude.{nat_lt}
use Rattle.std.proofs.lemmas.Bool.{cases_Bool}
use Rattle.std.proofs.lemmas.List.{length-map}
use Rattle.vlink.specs.declared.frame.Frame.{Frame}
use Rattle.vlink.specs.declared.frame.VlId.{VlId}
use Rattle.vlink.specs.declared.message.Message.{Message}
use Rattle.vlink.specs.declared.message.Body.{Body}
use Rattle.vlink.specs.declared.message.Body.TheVariants.{Offer, Release, PortFree, Arrive, Enqueue, Carry}
use Rattle.vlink.specs.declared.note.Cause.TheVariants as cause
use Rattle.vlink.specs.declared.time.TheConstants.{LATEST_NS}
use Rattle.vlink.specs.Numbering.{greatest_number}
use Rattle.policer.specs.Account.{account}
use Rattle.policer.specs.declared.account.Verdict.{Verdict}
use Rattle.policer.specs.declared.account.Verdict.TheVariants as verdict
use Rattle.reverse.specs.Rules.{rules_of}
use Rattle.reverse.specs.Sending.{Sender, Wish, after_sending, loss}
use Rattle.reverse.specs.Sending as wished
use Rattle.reverse.specs.Setting.{Setting, simulation_of}
use Rattle.reverse.specs.declared.sends.TheConstants.{MOST_SENT}
use Rattle.virtual_time.specs.Law.{Laws, events, one, sent}
use Rattle.virtual_time.proofs.OneThread.{right}
use Rattle.output_port.specs.declared.event.PortEvent.{PortEvent}
use Rattle.output_port.specs.declared.event.PortEvent.TheVariants.{Put, Free}
use Rattle.nodes.specs.declared.equipment.Equipment.TheVariants.{Switch}
use Rattle.nodes.specs.declared.ports.Outlet.{Outlet}
use Rattle.nodes.specs.declared.transit.Transit.{Transit}
use Rattle.nodes.specs.rules.Finding.{Found}
use Rattle.nodes.specs.rules.Node.{NodeState}
use Rattle.nodes.specs.rules.Outputs.{marked_from}
use Rattle.nodes.specs.rules.Ports.{exists, outlet_at, reply, reply_at}
use Rattle.nodes.specs.rules.Switch as rules
use Rattle.nodes.specs.rules.Switch.{SwitchState, entered_reply, judged, outputs_of, switch, taken_in, transit_at, unmoved}
use Rattle.nodes.specs.undoing.Node.{node}
use Rattle.port_turns.specs.Nodes.{IsOfNodes}
use Rattle.port_turns.specs.PortEvents.{asks, done_at, outlet_in}
use Rattle.port_turns.proofs.Arriving.{is_arrive}
use Rattle.port_turns.proofs.Asking.{node-asks}
use Rattle.port_turns.proofs.Transits.{AllTransits, transits-stay}
use Rattle.plan_numbers.proofs.FewFrames.{come_to, one_if, starts-few}
use Rattle.plan_numbers.proofs.Starts.{HasFewPorts, counter-is, message, reply-few, start_at, starts-are, starts-none, starts_in, starts_one}
use Rattle.plan_numbers.proofs.Sums.{sent-few, sum-both, sum-most, sum-one, sum-same, sum_to}

-- a virtual link leaves the switch by at most 24 ports
abbrev pub HasFewOutputs : SwitchState → Type 0
HasFewOutputs w = (vl : VlId) (found : Found Transit) → transit_at w vl ≡ Some found → length found.entry.outputs ≤ 24

-- no more frames come to a port than there are moments
abbrev pub HasFewArrivals : Setting NodeState → ℕ → Type 0
HasFewArrivals x p = (j : ℕ) (outlet : Outlet) → outlet_in (x.opening p).equipment j ≡ Some outlet → (n : ℕ) → come_to j (events (simulation_of (rules_of node) x) n p) ≤ x.until + 1

-- ---- one event

at-port : (n t q : ℕ) (m : Message) (w : SwitchState) (e : PortEvent) → (is_some (outlet_at w.ports q) ≡ true → q < 24) → asks q m (Switch w) ≡ Some e →
    length (reply n t q e w.ports).wishes ≤ 2 * sum_to 24 (start_at m (Switch w))
at-port n t q m w e h a = go (outlet_at w.ports q) refl
  where
    go : (o : Option Outlet) → outlet_at w.ports q ≡ o → length (reply_at n t q e (outlet_at w.ports q)).wishes ≤ 2 * sum_to 24 (start_at m (Switch w))
    go None is = let k = ap (λ z. length (reply_at n t q e z).wishes) is in omega arith
    go (Some outlet) is =
        let k = reply-few n t q e (outlet_at w.ports q) in
        let one = sum-one 24 (start_at m (Switch w)) q (h (ap is_some is)) in
        let same = ap (λ z. starts_one z (outlet_at w.ports q)) a in
        omega arith

marked-few : (q : ℕ) (marks : List Bool) → length (marked_from q marks) ≤ length marks
marked-few q [] = omega arith
marked-few q (true ∷ marks) = let k = marked-few (q + 1) marks in omega arith
marked-few q (false ∷ marks) = let k = marked-few (q + 1) marks in omega arith

judged-few : (n at : ℕ) (frame : Frame) (outputs : List ℕ) (c : ℕ) → length outputs ≤ c → (v : Verdict) → length (judged n at frame outputs v).wishes ≤ c
judged-few n at frame outputs c h verdict.Passed =
    let as_wish : ℕ → Wish = λ q. record { time = at; receiver = n; body = Enqueue q frame } in
    let k = length-map outputs as_wish in
    omega arith
judged-few n at frame outputs c h verdict.Refused = omega arith

entered-few : (n t delay q : ℕ) (frame : Frame) (x : Transit) → length x.outputs ≤ 24 → length (entered_reply n t delay q frame x).wishes ≤ 24
entered-few n t delay q frame x h = go (x.input == q) (nat_lt x.smax frame.size)
  where
    go : (b c : Bool) → length (cond b (cond c (loss cause.TooLong frame) (judged n (t + delay) frame (outputs_of x) (account.out x.account (record { at = t; size = frame.size })))) (loss cause.Unknown frame)).wishes ≤ 24
    go true true = omega arith
    go true false = let k = marked-few 0 x.outputs in judged-few n (t + delay) frame (outputs_of x) 24 (omega arith) (account.out x.account (record { at = t; size = frame.size }))
    go false c = omega arith

-- whether a frame comes to a port that is there
abbrev comes_one : (ℕ → Bool) → Body → ℕ
comes_one has (Arrive q frame) = one_if (has q)
comes_one has (Offer vl size sub) = 0
comes_one has (Release vl) = 0
comes_one has (PortFree q) = 0
comes_one has (Enqueue q frame) = 0
comes_one has (Carry frame) = 0

abbrev FewOutputs : ℕ → Transit → Type 0
FewOutputs v x = length x.outputs ≤ 24

module _ (has : ℕ → Bool) (within : (q : ℕ) → has q ≡ true → q < 24) where
  abbrev HasPorts : SwitchState → Type 0
  HasPorts w = (q : ℕ) → exists w.ports q ≡ has q

  switch-few : (n : ℕ) (w : SwitchState) → HasPorts w → AllTransits FewOutputs (λ v x a h. h) w → (t r s k : ℕ) (b : Body) →
      length (switch n t b w).reply.wishes ≤ 24 * comes_one has b + 2 * sum_to 24 (start_at (message t r s k b) (Switch w))
  switch-few n w there outs t r s k (Offer vl size sub) = omega arith
  switch-few n w there outs t r s k (Release vl) = omega arith
  switch-few n w there outs t r s k (Carry frame) = omega arith
  switch-few n w there outs t r s k (PortFree q) =
      let e = at-port n t q (message t r s k (PortFree q)) w Free (λ h. within q (sym (there q) ∙ h)) (ap (λ b. cond b (Some Free) None) (eq-eqb q q refl)) in
      omega arith
  switch-few n w there outs t r s k (Enqueue q frame) = go (exists w.ports q) (transit_at w frame.vl) refl
    where
      go : (b : Bool) (o : Option (Found Transit)) → transit_at w frame.vl ≡ o → length (cond b (rules.put n t q frame w o) (unmoved w)).reply.wishes ≤ 24 * 0 + 2 * sum_to 24 (start_at (message t r s k (Enqueue q frame)) (Switch w))
      go false o e = omega arith
      go true None e = omega arith
      go true (Some found) e =
          let asked : asks q (message t r s k (Enqueue q frame)) (Switch w) ≡ Some (Put frame found.entry.priority) =
          ap (λ b. cond b (option_map (λ (x : Found Transit). Put frame x.entry.priority) (transit_at w frame.vl)) None) (eq-eqb q q refl) ∙ ap (option_map (λ (x : Found Transit). Put frame x.entry.priority)) e in
          let few = at-port n t q (message t r s k (Enqueue q frame)) w (Put frame found.entry.priority) (λ h. within q (sym (there q) ∙ h)) asked in
          omega arith
  switch-few n w there outs t r s k (Arrive q frame) = go (exists w.ports q) (has q) (there q) (transit_at w frame.vl) refl
    where
      go : (b c : Bool) → b ≡ c → (o : Option (Found Transit)) → transit_at w frame.vl ≡ o →
          length (cond b (taken_in n t q frame w o) (unmoved w)).reply.wishes ≤ 24 * one_if c + 2 * sum_to 24 (start_at (message t r s k (Arrive q frame)) (Switch w))
      go false c e o is = omega arith
      go true false e o is = absurd (let z : ⊥ = cc in z)
      go true true e None is = omega arith
      go true true e (Some found) is = let few = entered-few n t w.latency q frame found.entry (outs frame.vl found is) in omega arith

  -- ---- all events

  abbrev comes_in : List Message → ℕ
  comes_in [] = 0
  comes_in (m ∷ ms) = comes_one has m.body + comes_in ms

  still-there : (o : Option Outlet) (f : Outlet → Outlet) → is_some (option_map f o) ≡ is_some o
  still-there None f = refl
  still-there (Some x) f = refl

  run-few : (d : Sender) (w : SwitchState) → HasPorts w → AllTransits FewOutputs (λ v x a h. h) w → (ms : List Message) →
      length (sent (rules_of node) (record { sender = d; equipment = Switch w }) ms) ≤ 24 * comes_in ms + 2 * sum_to 24 (λ q. starts_in q (record { sender = d; equipment = Switch w }) ms)
  run-few d w there outs [] = omega arith
  run-few d w there outs (m ∷ ms) =
      let o = switch d.number m.time m.body w in
      let first = switch-few d.number w there outs m.time m.receiver m.sender m.number m.body in
      let few = sent-few d o.reply.wishes in
      let rest = run-few (after_sending d o.reply.wishes) o.state (λ q. ap is_some (node-asks d.number q m (Switch w)) ∙ (still-there (outlet_in (Switch w) q) (done_at (asks q m (Switch w))) ∙ there q))
      (transits-stay FewOutputs (λ v x a h. h) d.number m.time m.body w outs) ms in
      let a = length-append (wished.sent d o.reply.wishes) (sent (rules_of node) (record { sender = after_sending d o.reply.wishes; equipment = Switch o.state }) ms) in
      let b = sum-both 24 (start_at m (Switch w)) (λ q. starts_in q (record { sender = after_sending d o.reply.wishes; equipment = Switch o.state }) ms) in
      omega arith

  -- what comes, port by port
  abbrev at_port : List Message → ℕ → ℕ
  at_port ms j = cond (has j) (come_to j ms) 0

  abbrev one_at : Body → ℕ → ℕ
  one_at b j = cond (has j) (one_if (is_arrive j b)) 0

  comes-few : (ms : List Message) → comes_in ms ≤ sum_to 24 (at_port ms)
  comes-few [] = omega arith
  comes-few (m ∷ ms) =
      let rest = comes-few ms in
      let a = sum-same 24 (at_port (m ∷ ms)) (λ j. one_at m.body j + at_port ms j) (λ j. more j (has j)) in
      let b = sum-both 24 (one_at m.body) (at_port ms) in
      let c = first m.body in
      omega arith
    where
      more : (j : ℕ) (b : Bool) → cond b (one_if (is_arrive j m.body) + come_to j ms) 0 ≡ cond b (one_if (is_arrive j m.body)) 0 + cond b (come_to j ms) 0
      more j true = refl
      more j false = refl

      first : (b : Body) → comes_one has b ≤ sum_to 24 (one_at b)
      first (Offer vl size sub) = omega arith
      first (Release vl) = omega arith
      first (PortFree q) = omega arith
      first (Enqueue q frame) = omega arith
      first (Carry frame) = omega arith
      first (Arrive q frame) = here (cases_Bool (has q))
        where
          here : (has q ≡ true) ⊎ (has q ≡ false) → one_if (has q) ≤ sum_to 24 (one_at (Arrive q frame))
          here (inr e) = let k = ap one_if e in omega arith
          here (inl e) =
              let one = sum-one 24 (one_at (Arrive q frame)) q (within q e) in
              let same : one_at (Arrive q frame) q ≡ 1 = ap (λ c. cond c (one_if (q == q)) 0) e ∙ ap one_if (eq-eqb q q refl) in
              let k = ap one_if e in
              omega arith

module _ (x : Setting NodeState) (L : Laws (simulation_of (rules_of node) x)) (N : IsOfNodes x) (p : ℕ) (i : p < x.processes) (w : SwitchState) (E : (x.opening p).equipment ≡ Switch w)
    (P : HasFewPorts x p) (O : HasFewOutputs w) (R : HasFewArrivals x p) where
  abbrev has : ℕ → Bool
  has q = exists w.ports q

  there-is : (q : ℕ) → (o : Option Outlet) → outlet_in (x.opening p).equipment q ≡ o → has q ≡ is_some o
  there-is q o e = ap (λ z. is_some (outlet_in z q)) (sym E) ∙ ap is_some e

  within : (q : ℕ) → has q ≡ true → q < 24
  within q h = go (outlet_in (x.opening p).equipment q) refl
    where
      go : (o : Option Outlet) → outlet_in (x.opening p).equipment q ≡ o → q < 24
      go None e = absurd (let a = there-is q None e in let z : ⊥ = cc in z)
      go (Some outlet) e = P.within q outlet e

  sends-few : (n : ℕ) → length (sent (rules_of node) (x.opening p) (events (simulation_of (rules_of node) x) n p)) ≤ 624 * (x.until + 1)
  sends-few n =
      let ms = events (simulation_of (rules_of node) x) n p in
      let s = x.opening p in
      let whole = run-few has within s.sender w (λ q. refl) O ms in
      let same = ap (λ e. length (sent (rules_of node) (record { sender = s.sender; equipment = e }) ms)) E in
      let a = comes-few has within ms in
      let b = sum-most 24 (at_port has within ms) (x.until + 1) (λ j. arrivals j (outlet_in s.equipment j) refl) in
      let c = sum-most 24 (λ q. starts_in q (record { sender = s.sender; equipment = Switch w }) ms) (x.until + 1) (λ q. starts q (outlet_in s.equipment q) refl) in
      omega arith
    where
      arrivals : (j : ℕ) (o : Option Outlet) → outlet_in (x.opening p).equipment j ≡ o → at_port has within (events (simulation_of (rules_of node) x) n p) j ≤ x.until + 1
      arrivals j None e = let k = ap (λ c. cond c (come_to j (events (simulation_of (rules_of node) x) n p)) 0) (there-is j None e) in omega arith
      arrivals j (Some outlet) e =
          let k = ap (λ c. cond c (come_to j (events (simulation_of (rules_of node) x) n p)) 0) (there-is j (Some outlet) e) in
          let few = R j outlet e n in
          omega arith

      starts : (q : ℕ) (o : Option Outlet) → outlet_in (x.opening p).equipment q ≡ o →
          starts_in q (record { sender = (x.opening p).sender; equipment = Switch w }) (events (simulation_of (rules_of node) x) n p) ≤ x.until + 1
      starts q None e =
          let k = starts-none q (x.opening p) (events (simulation_of (rules_of node) x) n p) e in
          let same = ap (λ z. starts_in q (record { sender = (x.opening p).sender; equipment = z }) (events (simulation_of (rules_of node) x) n p)) E in
          omega arith
      starts q (Some outlet) e =
          let k = starts-are q (x.opening p) (events (simulation_of (rules_of node) x) n p) outlet e in
          let same = ap (λ z. starts_in q (record { sender = (x.opening p).sender; equipment = z }) (events (simulation_of (rules_of node) x) n p)) E in
          let few = starts-few x L p q i N outlet e (P.empty q outlet e) (P.slow q outlet e) n in
          omega arith

  pub enough : x.until ≤ LATEST_NS → (x.opening p).sender.counter ≡ 0 → (n : ℕ) → ((one (simulation_of (rules_of node) x) n).states p).sender.counter + MOST_SENT ≤ greatest_number
  enough u z n =
      let a = ap (λ (s : NodeState). s.sender.counter) ((right (simulation_of (rules_of node) x) L n).states_are p) in
      let b = counter-is (x.opening p) (events (simulation_of (rules_of node) x) n p) in
      let c = sends-few n in
      let d : MOST_SENT ≡ 24 = refl in
      let e : greatest_number ≡ 4611686018427387904 = refl in
      let f : LATEST_NS ≡ 1000000000000000 = refl in
      omega arith
