-- An end system sends at most two messages for each offer, and 48 for each moment: two for each frame that starts at one of 24 ports.
use Rattle.std.proofs.Common.{◌≡◌, ℕ, ◌+◌, ◌*◌, ◌<◌, ◌≤◌, Bool, true, false, cond, option_and_then, List, [], ◌∷◌, ◌++◌, length, filter, is_some, sum_by, All, Option, Some, None, option_map, refl, ap, sym, ◌∙◌, arith, length-append, eq-eqb}
use Rattle.std.specs.List.{AllByRecursion}
use Rattle.std.proofs.lemmas.List.Elements.{recursion_from_All}
use Rattle.std.proofs.lemmas.List.Sums.{sum_by-cons, sum_by-set}
use Rattle.std.proofs.lemmas.Option.{get_or_from_slice_get, slice_get_within}
use Rattle.vlink.specs.declared.frame.Frame.{Frame}
use Rattle.vlink.specs.declared.frame.VlId.{VlId}
use Rattle.vlink.specs.declared.frame.Net.TheVariants.{A, B}
use Rattle.vlink.specs.declared.message.Message.{Message}
use Rattle.vlink.specs.declared.message.Body.{Body}
use Rattle.vlink.specs.declared.message.Body.TheVariants.{Offer, Release, PortFree, Arrive, Enqueue, Carry}
use Rattle.vlink.specs.declared.note.Cause.TheVariants as cause
use Rattle.vlink.specs.declared.time.TheConstants.{LATEST_NS}
use Rattle.vlink.specs.Numbering.{greatest_number}
use Rattle.bag_regulator.specs.Regulator.{regulator}
use Rattle.bag_regulator.specs.declared.event.RegEvent.{RegEvent}
use Rattle.bag_regulator.specs.declared.event.RegEvent.TheVariants as reg
use Rattle.bag_regulator.specs.declared.event.RegAnswer.{RegAnswer}
use Rattle.bag_regulator.specs.declared.event.RegAnswer.TheVariants as told
use Rattle.output_port.specs.Port.{port}
use Rattle.output_port.specs.declared.event.PortEvent.{PortEvent}
use Rattle.output_port.specs.declared.event.PortEvent.TheVariants.{Free}
use Rattle.integrity.specs.Integrity.{integrity}
use Rattle.integrity.specs.declared.checking.Checked.{Checked}
use Rattle.integrity.specs.declared.checking.Checked.TheVariants as check
use Rattle.redundancy.specs.Redundancy.{redundancy}
use Rattle.redundancy.specs.declared.delivery.Delivery.{Delivery}
use Rattle.redundancy.specs.declared.delivery.Delivery.TheVariants as delivery
use Rattle.reverse.specs.Rules.{rules_of}
use Rattle.reverse.specs.Sending.{Reply, Sender, after_sending, loss, silent}
use Rattle.reverse.specs.Sending as wished
use Rattle.reverse.specs.Setting.{Setting, simulation_of}
use Rattle.reverse.specs.declared.sends.TheConstants.{MOST_SENT}
use Rattle.virtual_time.specs.Law.{Laws, events, one, sent}
use Rattle.virtual_time.proofs.OneThread.{right}
use Rattle.nodes.specs.declared.equipment.Equipment.TheVariants.{EndSystem}
use Rattle.nodes.specs.declared.ports.Outlet.{Outlet}
use Rattle.nodes.specs.declared.receiving.Receiving.{Receiving}
use Rattle.nodes.specs.declared.reception.Reception.{Reception}
use Rattle.nodes.specs.declared.source.Source.{Source}
use Rattle.nodes.specs.declared.vl_end.VlEnd.{VlEnd}
use Rattle.nodes.specs.laws.Places.{found-there}
use Rattle.nodes.specs.rules.EndSystem.{EndSystemState, asked, check_of, checked, copy, delivered, end_system, full, is_on, offered_frame, received_reply, reception_at, regulated, released_reply, source_at, source_number, taken_in, unmoved}
use Rattle.nodes.specs.rules.Finding.{Found}
use Rattle.nodes.specs.rules.Node.{NodeState}
use Rattle.nodes.specs.rules.Ports.{PortsState, changed, changed_at, exists, outlet_at, reply, reply_at}
use Rattle.nodes.specs.undoing.Node.{node}
use Rattle.port_turns.specs.Nodes.{IsOfNodes, is_offer}
use Rattle.port_turns.specs.PortEvents.{asks, copy_asks, done_at, or_else, outlet_in, regulated_asks}
use Rattle.port_turns.proofs.Asking.{node-asks}
use Rattle.port_turns.proofs.Turns.{get-other}
use Rattle.plan_numbers.proofs.FewFrames.{starts-few}
use Rattle.plan_numbers.proofs.Offered.{offers-few}
use Rattle.plan_numbers.proofs.Regulators.{asks_one, event-few, none-waits, offers_one, waiting_in}
use Rattle.plan_numbers.proofs.Starts.{HasFewPorts, counter-is, message, reply-few, start_at, starts-are, starts-none, starts_in, starts_one}
use Rattle.plan_numbers.proofs.Sums.{sent-few, sum-both, sum-most, sum-one, sum_to}

-- no frame waits in a regulator
abbrev pub HasEmptyRegulators : EndSystemState → Type 0
HasEmptyRegulators z = All (λ source. All (λ list. list.frames ≡ []) source.regulator.lists) z.sources

-- what waits in all regulators
abbrev held_in : List Source → ℕ
held_in sources = sum_by (λ (s : Source). waiting_in s.regulator.lists) sources

asked-one : (n : ℕ) (vl : VlId) (o : Option ℕ) → length (asked n vl o).wishes ≡ asks_one o
asked-one n vl None = refl
asked-one n vl (Some t) = refl

full-none : (e : RegEvent) (a : RegAnswer) → length (full e a).wishes ≡ 0
full-none (reg.Offer t q frame) told.Dropped = refl
full-none (reg.Offer t q frame) (told.Released f) = refl
full-none (reg.Offer t q frame) told.Kept = refl
full-none (reg.Offer t q frame) told.Nothing = refl
full-none (reg.Release t) a = refl

-- a port stays where another one is asked
other-stays : (e : PortEvent) (ports : PortsState) → outlet_at (changed 0 e ports) 1 ≡ outlet_at ports 1
other-stays e ports = go (outlet_at ports 0)
  where
    go : (o : Option Outlet) → outlet_at (changed_at 0 e ports o) 1 ≡ outlet_at ports 1
    go None = refl
    go (Some outlet) = ap (λ z. option_and_then (λ (k : Option Outlet). k) z) (get-other ports 0 1 (Some (record outlet { port = port.after outlet.port e })) (λ h. absurd (let z : ⊥ = omega arith in z)))

-- both copies of a frame
copies-few : (n t : ℕ) (end : VlEnd) (a : RegAnswer) (ports : PortsState) →
    length (released_reply n t end a ports).wishes
    ≤ 2 * starts_one (or_else (copy_asks 0 end A a) (copy_asks 0 end B a)) (outlet_at ports 0) + 2 * starts_one (or_else (copy_asks 1 end A a) (copy_asks 1 end B a)) (outlet_at ports 1)
copies-few n t end told.Kept ports = omega arith
copies-few n t end told.Dropped ports = omega arith
copies-few n t end told.Nothing ports = omega arith
copies-few n t end (told.Released frame) ports = go (is_on end A) (is_on end B)
  where
    go : (a b : Bool) →
        length ((cond a (reply n t 0 (copy A frame) ports) silent).wishes ++ (cond b (reply n t 1 (copy B frame) (cond a (changed 0 (copy A frame) ports) ports)) silent).wishes)
        ≤ 2 * starts_one (or_else (cond a (Some (copy A frame)) None) None) (outlet_at ports 0) + 2 * starts_one (or_else None (cond b (Some (copy B frame)) None)) (outlet_at ports 1)
    go true true =
        let c = length-append (reply n t 0 (copy A frame) ports).wishes (reply n t 1 (copy B frame) (changed 0 (copy A frame) ports)).wishes in
        let d = reply-few n t 0 (copy A frame) (outlet_at ports 0) in
        let e = reply-few n t 1 (copy B frame) (outlet_at ports 1) in
        let f = ap (λ z. length (reply_at n t 1 (copy B frame) z).wishes) (other-stays (copy A frame) ports) in
        omega arith
    go true false =
        let c = length-append (reply n t 0 (copy A frame) ports).wishes [] in
        let d = reply-few n t 0 (copy A frame) (outlet_at ports 0) in
        omega arith
    go false true = let e = reply-few n t 1 (copy B frame) (outlet_at ports 1) in omega arith
    go false false = omega arith

sum-two : (f : ℕ → ℕ) → f 0 + f 1 ≤ sum_to 24 f
sum-two f = omega arith

regulated-few : (n t v : ℕ) (e : RegEvent) (otherwise : Reply) → length otherwise.wishes ≡ 0 → (z : EndSystemState) (o : Option (Found Source)) → source_at z (record { 0 = v }) ≡ o →
    length (regulated n t e otherwise z o).reply.wishes + held_in (regulated n t e otherwise z o).state.sources
    ≤ held_in z.sources + offers_one e + 2 * starts_one (regulated_asks 0 e o) (outlet_at z.ports 0) + 2 * starts_one (regulated_asks 1 e o) (outlet_at z.ports 1)
regulated-few n t v e otherwise none z None is = omega arith
regulated-few n t v e otherwise none z (Some found) is =
    let g = found.entry.regulator in
    let out = regulator.out g e in
    let there = found-there source_number z.sources v found is in
    let held = sum_by-set (λ (s : Source). waiting_in s.regulator.lists) z.sources found.place (record found.entry { regulator = regulator.after g e }) found.entry (slice_get_within z.sources found.place found.entry there) in
    let same = ap (λ (s : Source). waiting_in s.regulator.lists) (get_or_from_slice_get z.sources found.place found.entry found.entry there) in
    let few = event-few g e in
    let copies = copies-few n t found.entry.end out.answer z.ports in
    let a = length-append ((full e out.answer).wishes ++ (asked n found.entry.end.vl out.release_at).wishes) (released_reply n t found.entry.end out.answer z.ports).wishes in
    let b = length-append (full e out.answer).wishes (asked n found.entry.end.vl out.release_at).wishes in
    let c = full-none e out.answer in
    let d = asked-one n found.entry.end.vl out.release_at in
    omega arith

-- a frame that comes makes an end system send nothing
received-quiet : (t : ℕ) (frame : Frame) (r : Receiving) → (received_reply t frame r).wishes ≡ []
received-quiet t frame r = go (integrity.out (check_of frame.net r) frame.number)
  where
    by_delivery : (d : Delivery) → (delivered t frame d).wishes ≡ []
    by_delivery delivery.Delivered = refl
    by_delivery delivery.Duplicate = refl

    go : (c : Checked) → (checked t frame r c).wishes ≡ []
    go check.Passed = by_delivery (redundancy.out r.redundancy (record { number = frame.number; at = t }))
    go check.Refused = refl

arrived : (n t q : ℕ) (frame : Frame) (z : EndSystemState) → ((end_system n t (Arrive q frame) z).state.sources ≡ z.sources) × ((end_system n t (Arrive q frame) z).reply.wishes ≡ [])
arrived n t q frame z = go (exists z.ports q) (reception_at z frame.vl frame.net)
  where
    go : (b : Bool) (o : Option (Found Reception)) → ((cond b (taken_in t frame z o) (unmoved z)).state.sources ≡ z.sources) × ((cond b (taken_in t frame z o) (unmoved z)).reply.wishes ≡ [])
    go true None = (refl, refl)
    go true (Some found) = (refl, received-quiet t frame found.entry.receiving)
    go false o = (refl, refl)

-- what an offer adds
abbrev offer_one : Body → ℕ
offer_one (Offer vl size sub) = 2
offer_one (Release vl) = 0
offer_one (PortFree q) = 0
offer_one (Arrive q frame) = 0
offer_one (Enqueue q frame) = 0
offer_one (Carry frame) = 0

at-port : (n t q : ℕ) (m : Message) (z : EndSystemState) (e : PortEvent) → (is_some (outlet_at z.ports q) ≡ true → q < 24) → asks q m (EndSystem z) ≡ Some e → length (reply n t q e z.ports).wishes ≤ 2 * sum_to 24 (start_at m (EndSystem z))
at-port n t q m z e h a = go (outlet_at z.ports q) refl
  where
    go : (o : Option Outlet) → outlet_at z.ports q ≡ o → length (reply_at n t q e (outlet_at z.ports q)).wishes ≤ 2 * sum_to 24 (start_at m (EndSystem z))
    go None is = let k = ap (λ o. length (reply_at n t q e o).wishes) is in omega arith
    go (Some outlet) is =
        let k = reply-few n t q e (outlet_at z.ports q) in
        let one = sum-one 24 (start_at m (EndSystem z)) q (h (ap is_some is)) in
        let same = ap (λ o. starts_one o (outlet_at z.ports q)) a in
        omega arith

module _ (has : ℕ → Bool) (within : (q : ℕ) → has q ≡ true → q < 24) where
  end-few : (n : ℕ) (z : EndSystemState) → ((q : ℕ) → is_some (outlet_at z.ports q) ≡ has q) → (t r s k : ℕ) (b : Body) →
      length (end_system n t b z).reply.wishes + held_in (end_system n t b z).state.sources ≤ held_in z.sources + offer_one b + 2 * sum_to 24 (start_at (message t r s k b) (EndSystem z))
  end-few n z there t r s k (Offer vl size sub) =
      let few = regulated-few n t vl.0 (reg.Offer t sub (offered_frame t vl size)) (loss cause.Unknown (offered_frame t vl size)) refl z (source_at z vl) refl in
      let two = sum-two (start_at (message t r s k (Offer vl size sub)) (EndSystem z)) in
      omega arith
  end-few n z there t r s k (Release vl) =
      let few = regulated-few n t vl.0 (reg.Release t) silent refl z (source_at z vl) refl in
      let two = sum-two (start_at (message t r s k (Release vl)) (EndSystem z)) in
      omega arith
  end-few n z there t r s k (PortFree q) =
      let few = at-port n t q (message t r s k (PortFree q)) z Free (λ h. within q (sym (there q) ∙ h)) (ap (λ b. cond b (Some Free) None) (eq-eqb q q refl)) in
      omega arith
  end-few n z there t r s k (Arrive q frame) =
      let u = arrived n t q frame z in
      let a = ap length u.1 in
      let b = ap held_in u.0 in
      omega arith
  end-few n z there t r s k (Enqueue q frame) = omega arith
  end-few n z there t r s k (Carry frame) = omega arith

  abbrev offers_in : List Message → ℕ
  offers_in [] = 0
  offers_in (m ∷ ms) = offer_one m.body + offers_in ms

  still-there : (o : Option Outlet) (f : Outlet → Outlet) → is_some (option_map f o) ≡ is_some o
  still-there None f = refl
  still-there (Some x) f = refl

  run-few : (d : Sender) (z : EndSystemState) → ((q : ℕ) → is_some (outlet_at z.ports q) ≡ has q) → (ms : List Message) →
      length (sent (rules_of node) (record { sender = d; equipment = EndSystem z }) ms) ≤ held_in z.sources + offers_in ms + 2 * sum_to 24 (λ q. starts_in q (record { sender = d; equipment = EndSystem z }) ms)
  run-few d z there [] = omega arith
  run-few d z there (m ∷ ms) =
      let o = end_system d.number m.time m.body z in
      let first = end-few d.number z there m.time m.receiver m.sender m.number m.body in
      let few = sent-few d o.reply.wishes in
      let rest = run-few (after_sending d o.reply.wishes) o.state (λ q. ap is_some (node-asks d.number q m (EndSystem z)) ∙ (still-there (outlet_in (EndSystem z) q) (done_at (asks q m (EndSystem z))) ∙ there q)) ms in
      let a = length-append (wished.sent d o.reply.wishes) (sent (rules_of node) (record { sender = after_sending d o.reply.wishes; equipment = EndSystem o.state }) ms) in
      let b = sum-both 24 (start_at m (EndSystem z)) (λ q. starts_in q (record { sender = after_sending d o.reply.wishes; equipment = EndSystem o.state }) ms) in
      omega arith

  offers-counted : (ms : List Message) → offers_in ms ≡ 2 * length (filter (λ (m : Message). is_offer m.body) ms)
  offers-counted [] = refl
  offers-counted (m ∷ ms) = go m.body (offers-counted ms)
    where
      go : (b : Body) → offers_in ms ≡ 2 * length (filter (λ (m : Message). is_offer m.body) ms) → offer_one b + offers_in ms ≡ 2 * length (cond (is_offer b) (m ∷ filter (λ (m : Message). is_offer m.body) ms) (filter (λ (m : Message). is_offer m.body) ms))
      go (Offer vl size sub) e = omega arith
      go (Release vl) e = omega arith
      go (PortFree q) e = omega arith
      go (Arrive q frame) e = omega arith
      go (Enqueue q frame) e = omega arith
      go (Carry frame) e = omega arith

held-none : (sources : List Source) → AllByRecursion (λ (s : Source). All (λ l. l.frames ≡ []) s.regulator.lists) sources → held_in sources ≡ 0
held-none [] h = refl
held-none (s ∷ sources) h =
    let a = sum_by-cons (λ (k : Source). waiting_in k.regulator.lists) s sources in
    let b = none-waits s.regulator.lists (recursion_from_All (λ l. l.frames ≡ []) s.regulator.lists h.0) in
    let c = held-none sources h.1 in
    omega arith

module _ (x : Setting NodeState) (L : Laws (simulation_of (rules_of node) x)) (N : IsOfNodes x) (p : ℕ) (i : p < x.processes) (z : EndSystemState) (E : (x.opening p).equipment ≡ EndSystem z)
    (P : HasFewPorts x p) (R : HasEmptyRegulators z) where
  abbrev has : ℕ → Bool
  has q = is_some (outlet_at z.ports q)

  there-is : (q : ℕ) → (o : Option Outlet) → outlet_in (x.opening p).equipment q ≡ o → has q ≡ is_some o
  there-is q o e = ap (λ k. is_some (outlet_in k q)) (sym E) ∙ ap is_some e

  within : (q : ℕ) → has q ≡ true → q < 24
  within q h = go (outlet_in (x.opening p).equipment q) refl
    where
      go : (o : Option Outlet) → outlet_in (x.opening p).equipment q ≡ o → q < 24
      go None e = absurd (let a = there-is q None e in let z : ⊥ = cc in z)
      go (Some outlet) e = P.within q outlet e

  sends-few : (n : ℕ) → length (sent (rules_of node) (x.opening p) (events (simulation_of (rules_of node) x) n p)) ≤ 2 * length x.offers + 48 * (x.until + 1)
  sends-few n =
      let ms = events (simulation_of (rules_of node) x) n p in
      let s = x.opening p in
      let whole = run-few has within s.sender z (λ q. refl) ms in
      let same = ap (λ e. length (sent (rules_of node) (record { sender = s.sender; equipment = e }) ms)) E in
      let a = offers-counted has within ms in
      let b = offers-few x L n p in
      let c = sum-most 24 (λ q. starts_in q (record { sender = s.sender; equipment = EndSystem z }) ms) (x.until + 1) (λ q. starts q (outlet_in s.equipment q) refl) in
      let d = held-none z.sources (recursion_from_All (λ (y : Source). All (λ l. l.frames ≡ []) y.regulator.lists) z.sources R) in
      omega arith
    where
      starts : (q : ℕ) (o : Option Outlet) → outlet_in (x.opening p).equipment q ≡ o → starts_in q (record { sender = (x.opening p).sender; equipment = EndSystem z }) (events (simulation_of (rules_of node) x) n p) ≤ x.until + 1
      starts q None e =
          let k = starts-none q (x.opening p) (events (simulation_of (rules_of node) x) n p) e in
          let same = ap (λ y. starts_in q (record { sender = (x.opening p).sender; equipment = y }) (events (simulation_of (rules_of node) x) n p)) E in
          omega arith
      starts q (Some outlet) e =
          let k = starts-are q (x.opening p) (events (simulation_of (rules_of node) x) n p) outlet e in
          let same = ap (λ y. starts_in q (record { sender = (x.opening p).sender; equipment = y }) (events (simulation_of (rules_of node) x) n p)) E in
          let few = starts-few x L p q i N outlet e (P.empty q outlet e) (P.slow q outlet e) n in
          omega arith

  pub enough : x.until ≤ LATEST_NS → length x.offers ≤ 1152921504606846976 → (x.opening p).sender.counter ≡ 0 → (n : ℕ) → ((one (simulation_of (rules_of node) x) n).states p).sender.counter + MOST_SENT ≤ greatest_number
  enough u o c n =
      let a = ap (λ (s : NodeState). s.sender.counter) ((right (simulation_of (rules_of node) x) L n).states_are p) in
      let b = counter-is (x.opening p) (events (simulation_of (rules_of node) x) n p) in
      let d = sends-few n in
      let e : MOST_SENT ≡ 24 = refl in
      let f : greatest_number ≡ 4611686018427387904 = refl in
      let h : LATEST_NS ≡ 1000000000000000 = refl in
      omega arith
