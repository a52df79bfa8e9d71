-- A line sends no more messages than a run has moments.
use Rattle.std.proofs.Common.{◌≡◌, ℕ, ◌+◌, ◌<◌, ◌≤◌, ◌⊎◌, inl, inr, Bool, true, false, cond, List, [], ◌∷◌, length, filter, refl, ap, arith, length-append, eq-eqb}
use Rattle.std.specs.List.{list_any}
use Rattle.std.proofs.lemmas.List.{length-map}
use Rattle.vlink.specs.declared.message.Message.{Message}
use Rattle.vlink.specs.declared.message.Body.{Body}
use Rattle.vlink.specs.declared.message.Body.TheVariants.{Offer, Release, PortFree, Arrive, Enqueue, Carry}
use Rattle.vlink.specs.declared.note.Cause.TheVariants as cause
use Rattle.vlink.specs.declared.time.TheConstants.{LATEST_NS}
use Rattle.vlink.specs.Numbering.{greatest_number}
use Rattle.vlink.specs.Order.{message_order}
use Rattle.reverse.specs.Rules.{rules_of}
use Rattle.reverse.specs.Sending.{Sender, after_sending, loss}
use Rattle.reverse.specs.Sending as wished
use Rattle.reverse.specs.Setting.{Setting, simulation_of}
use Rattle.reverse.specs.declared.sends.TheConstants.{MOST_SENT}
use Rattle.virtual_time.specs.Law.{IsIn, IsOrder, Laws, events, one, sent}
use Rattle.virtual_time.proofs.Lists.{in-head}
use Rattle.virtual_time.proofs.OneThread.{closed, right}
use Rattle.timers.proofs.ChannelLemmas.{are_received}
use Rattle.nodes.specs.declared.equipment.Equipment.TheVariants.{Line}
use Rattle.nodes.specs.declared.ports.Outlet.{Outlet}
use Rattle.nodes.specs.rules.Line.{LineState, is_within, line}
use Rattle.nodes.specs.rules.Node.{NodeState}
use Rattle.nodes.specs.undoing.Node.{node}
use Rattle.port_bounds.specs.Sublists.{IsSublist}
use Rattle.port_turns.specs.Arrivals.{IsWay}
use Rattle.port_turns.specs.Nodes.{IsOfNodes}
use Rattle.port_turns.proofs.Arriving.{carry-channel}
use Rattle.port_turns.proofs.Carrying.{carried, carries, is_carry}
use Rattle.port_turns.proofs.SentKinds.{as_wish, is_to}
use Rattle.plan_numbers.proofs.FewFrames.{one_if, starts-few, starts_at}
use Rattle.plan_numbers.proofs.Starts.{counter-is}
use Rattle.plan_numbers.proofs.Sums.{sent-few}

sub-length : {X : Type 0} (xs ys : List X) → IsSublist xs ys → length xs ≤ length ys
sub-length [] ys h = omega arith
sub-length (x ∷ xs) [] h = absurd h
sub-length {X} (x ∷ xs) (y ∷ ys) h = go h (λ k. sub-length xs ys k) (λ k. sub-length (x ∷ xs) ys k)
  where
    go : ((x ≡ y) × IsSublist xs ys) ⊎ IsSublist (x ∷ xs) ys → (IsSublist xs ys → length xs ≤ length ys) → (IsSublist (x ∷ xs) ys → length (x ∷ xs) ≤ length ys) → length (x ∷ xs) ≤ length (y ∷ ys)
    go (inl k) a b = let c = a k.1 in omega arith
    go (inr k) a b = let c = b k in omega arith

abbrev carries_one : Body → ℕ
carries_one b = one_if (is_carry b)

line-one : (t : ℕ) (b : Body) (l : LineState) → length (line t b l).wishes ≤ carries_one b
line-one t (Carry frame) l = go (list_any (is_within t) l.outages)
  where
    go : (b : Bool) → length (cond b (loss cause.Outage frame) (record { wishes = record { time = t + l.propagation; receiver = l.to; body = Arrive l.to_port frame } ∷ []; notes = [] })).wishes ≤ 1
    go true = omega arith
    go false = omega arith
line-one t (Offer vl size sub) l = omega arith
line-one t (Release vl) l = omega arith
line-one t (PortFree q) l = omega arith
line-one t (Arrive q frame) l = omega arith
line-one t (Enqueue q frame) l = omega arith

module _ (O : IsOrder message_order) (k : ℕ) where
  run-few : (d : Sender) (l : LineState) (ms : List Message) → ((m : Message) → IsIn message_order m ms → m.receiver ≡ k) →
      length (sent (rules_of node) (record { sender = d; equipment = Line l }) ms) ≤ length (filter (is_to is_carry k) ms)
  run-few d l [] h = omega arith
  run-few d l (m ∷ ms) h =
      let few = sent-few d (line m.time m.body l).wishes in
      let one = line-one m.time m.body l in
      let rest = run-few (after_sending d (line m.time m.body l).wishes) l ms (λ y i. h y (omega arith)) in
      let a = length-append (wished.sent d (line m.time m.body l).wishes) (sent (rules_of node) (record { sender = after_sending d (line m.time m.body l).wishes; equipment = Line l }) ms) in
      let b = ap (λ c. length (cond (cond c (is_carry m.body) false) (m ∷ filter (is_to is_carry k) ms) (filter (is_to is_carry k) ms))) (eq-eqb m.receiver k (h m (in-head message_order O m ms))) in
      let c = counted (is_carry m.body) in
      omega arith
    where
      counted : (b : Bool) → length (cond b (m ∷ filter (is_to is_carry k) ms) (filter (is_to is_carry k) ms)) ≡ cond b 1 0 + length (filter (is_to is_carry k) ms)
      counted true = omega arith
      counted false = omega arith

module _ (x : Setting NodeState) (L : Laws (simulation_of (rules_of node) x)) (N : IsOfNodes x) (p q k r j : ℕ) (inside : p < x.processes) (line-inside : k < x.processes) (outlet : Outlet) (l : LineState) (W : IsWay x p q k r j outlet l)
    (slow : 1 ≤ outlet.ahead.byte_ns) where
  carried-few : (n : ℕ) → length (sent (rules_of node) (x.opening k) (events (simulation_of (rules_of node) x) n k)) ≤ x.until + 1
  carried-few n =
      let ms = events (simulation_of (rules_of node) x) n k in
      let s = x.opening k in
      let same = ap (λ e. length (sent (rules_of node) (record { sender = s.sender; equipment = e }) ms)) W.line_is in
      let few = run-few L.order k s.sender l ms ((closed (simulation_of (rules_of node) x) L 0 n (λ y v. omega arith)).here k) in
      let channel = are_received (simulation_of (rules_of node) x) L p k (is_to is_carry k) (carry-channel x L p q k r j inside line-inside N outlet l W) n in
      let a = ap length channel.1 in
      let b = length-append (filter (is_to is_carry k) ms) channel.0 in
      let sub = sub-length _ _ (carries q k (x.opening p) outlet (events (simulation_of (rules_of node) x) n p) (λ i other is d e. d (W.only_port p i other inside is e).1) W.port W.into) in
      let c = length-map (filter (is_to is_carry k) (sent (rules_of node) (x.opening p) (events (simulation_of (rules_of node) x) n p))) as_wish in
      let d = length-map (starts_at x p q outlet n) (carried k outlet.ahead.byte_ns) in
      let e = starts-few x L p q inside N outlet W.port W.empty slow n in
      omega arith

  pub enough : x.until ≤ LATEST_NS → (x.opening k).sender.counter ≡ 0 → (n : ℕ) → ((one (simulation_of (rules_of node) x) n).states k).sender.counter + MOST_SENT ≤ greatest_number
  enough u z n =
      let a = ap (λ (s : NodeState). s.sender.counter) ((right (simulation_of (rules_of node) x) L n).states_are k) in
      let b = counter-is (x.opening k) (events (simulation_of (rules_of node) x) n k) in
      let c = carried-few n in
      let d : MOST_SENT ≡ 24 = refl in
      let e : greatest_number ≡ 4611686018427387904 = refl in
      let f : LATEST_NS ≡ 1000000000000000 = refl in
      omega arith
