-- What a process sends of a kind, at moments that do not fall and to one process, ascends in the message order.
use Rattle.std.proofs.Common.{◌≡◌, ℕ, suc, ◌<◌, ◌≤◌, ◌==◌, inl, inr, Bool, true, false, cond, nat_cmp, Less, Equal, All, List, [], ◌∷◌, filter, refl, sym, ap, ◌∙◌, subst, arith, eqb-true}
use Rattle.std.specs.Prelude.{⊤}
use Rattle.std.specs.Ordering.{is_lt}
use Rattle.std.proofs.lemmas.Bool.{cases_lt}
use Rattle.std.proofs.lemmas.Bool.Decides.{nat_tests}
use Rattle.std.proofs.lemmas.List.Elements.{All-head, All-tail}
use Rattle.vlink.specs.declared.message.Message.{Message}
use Rattle.vlink.specs.declared.message.Body.{Body}
use Rattle.vlink.specs.Order.{message_cmp, message_order}
use Rattle.vlink.proofs.OrderLemmas.{message_cmp-earlier}
use Rattle.virtual_time.specs.Law.{IsOrder, IsIn, IsAscending, IsNumbered, Laws, events, one}
use Rattle.virtual_time.proofs.Lists.{in-cons, in-filter, in-head}
use Rattle.virtual_time.proofs.Order.{less-time}
use Rattle.reverse.specs.Rules.{rules_of}
use Rattle.reverse.specs.Setting.{Setting, simulation_of}
use Rattle.virtual_time.proofs.Ascending.{ascending-filter}
use Rattle.virtual_time.proofs.OneThread.{right}
use Rattle.nodes.specs.rules.Node.{NodeState}
use Rattle.nodes.specs.undoing.Node.{node}
use Rattle.port_bounds.specs.Pacing.{AreBetween}
use Rattle.port_turns.proofs.SentKinds.{AreFrom, is_to, receiver-is, times_of}

-- of two messages of one sender to one receiver the earlier one comes first, and at one moment that with the less number
pub before : (m n : Message) → m.time ≤ n.time → m.receiver ≡ n.receiver → m.sender ≡ n.sender → m.number < n.number → is_lt (message_cmp m n) ≡ true
unfolding message_cmp
before m n t r s k = elim (cases_lt m.time n.time) [ inl h ↦ ap is_lt (message_cmp-earlier m n h) | inr h ↦ same h ]
  where
    same : n.time ≤ m.time → is_lt (message_cmp m n) ≡ true
    same h =
        let a : nat_cmp m.time n.time ≡ Equal = grind (arith, nat_tests) in
        let b : nat_cmp m.receiver n.receiver ≡ Equal = grind (arith, nat_tests) in
        let c : nat_cmp m.sender n.sender ≡ Equal = grind (arith, nat_tests) in
        let d : nat_cmp m.number n.number ≡ Less = grind (arith, nat_tests) in
        rw (a, b, c, d) refl

module _ (from to : ℕ) where
  -- each of these messages goes from one process to one; their moments do not fall, from t on, and their numbers rise, from k on
  abbrev pub Rises : ℕ → ℕ → List Message → Type 0
  Rises t k [] = ⊤
  Rises t k (m ∷ ms) = (t ≤ m.time) × (k ≤ m.number) × (m.sender ≡ from) × (m.receiver ≡ to) × Rises m.time (suc m.number) ms

  rises-below : (O : IsOrder message_order) (t k : ℕ) (ms : List Message) → Rises t k ms → (m : Message) → IsIn message_order m ms →
      (t ≤ m.time) × (k ≤ m.number) × (m.sender ≡ from) × (m.receiver ≡ to)
  rises-below O t k [] h m i = absurd (omega arith)
  rises-below O t k (x ∷ xs) h m i = elim (in-cons message_order O m x xs i) [ inl e ↦ here e | inr j ↦ there (rises-below O x.time (suc x.number) xs h.4 m j) ]
    where
      here : m ≡ x → (t ≤ m.time) × (k ≤ m.number) × (m.sender ≡ from) × (m.receiver ≡ to)
      here e = subst (λ z. (t ≤ z.time) × (k ≤ z.number) × (z.sender ≡ from) × (z.receiver ≡ to)) (sym e) (h.0, h.1, h.2, h.3)

      there : (x.time ≤ m.time) × (suc x.number ≤ m.number) × (m.sender ≡ from) × (m.receiver ≡ to) → (t ≤ m.time) × (k ≤ m.number) × (m.sender ≡ from) × (m.receiver ≡ to)
      there r = (omega (arith, h.0, r.0), omega (arith, h.1, r.1), r.2, r.3)

  pub rises-ascend : (O : IsOrder message_order) (t k : ℕ) (ms : List Message) → Rises t k ms → IsAscending message_order ms
  rises-ascend O t k [] h = tt
  rises-ascend O t k (x ∷ xs) h = (
    λ m i. let r = rises-below O x.time (suc x.number) xs h.4 m i in before x m r.0 (h.3 ∙ sym r.3) (h.2 ∙ sym r.2) r.1,
    rises-ascend O x.time (suc x.number) xs h.4,
  )

  rises-sooner : (t k l : ℕ) (ms : List Message) → k ≤ l → Rises t l ms → Rises t k ms
  rises-sooner t k l [] a h = tt
  rises-sooner t k l (m ∷ ms) a h = (h.0, omega (arith, h.1), h.2, h.3, h.4)

  -- messages that are numbered on and on: those of a kind for the process rise, where their moments do not fall
  pub kind-rises : (kind : Body → Bool) (t k : ℕ) (ms : List Message) → IsNumbered (λ (m : Message). m.number) k ms → All (λ m. m.sender ≡ from) ms →
      AreFrom t (times_of (filter (is_to kind to) ms)) → Rises t k (filter (is_to kind to) ms)
  kind-rises kind t k [] n o b = tt
  kind-rises kind t k (m ∷ ms) n o b = go (is_to kind to m) refl b (λ t b. kind-rises kind t (suc k) ms n.1 (All-tail (λ m. m.sender ≡ from) m ms o) b)
    where
      go : (c : Bool) → is_to kind to m ≡ c → AreFrom t (times_of (cond c (m ∷ filter (is_to kind to) ms) (filter (is_to kind to) ms))) →
          ((t : ℕ) → AreFrom t (times_of (filter (is_to kind to) ms)) → Rises t (suc k) (filter (is_to kind to) ms)) → Rises t k (cond c (m ∷ filter (is_to kind to) ms) (filter (is_to kind to) ms))
      go false e b rest = rises-sooner t k (suc k) (filter (is_to kind to) ms) (omega arith) (rest t b)
      go true e b rest = (
        b.0,
        omega (arith, n.0),
        All-head (λ (m : Message). m.sender ≡ from) m ms o,
        receiver-is kind to m e,
        subst (λ z. Rises m.time (suc z) (filter (is_to kind to) ms)) (sym n.0) (rest m.time b.1),
      )

-- messages that ascend come at moments that do not fall
pub times-between : (O : IsOrder message_order) (t u : ℕ) (ms : List Message) → IsAscending message_order ms → t ≤ u → ((m : Message) → IsIn message_order m ms → (t ≤ m.time) × (m.time ≤ u)) → AreBetween t u (times_of ms)
times-between O t u [] h l k = l
times-between O t u (x ∷ xs) h l k =
    let first = k x (in-head message_order O x xs) in
    (first.0, times-between O x.time u xs h.1 first.1 (λ m i. (less-time message_order O x m (h.0 m i), (k m (let a = i in omega arith)).1)))

-- as do those that a process handles
pub events-between : (x : Setting NodeState) (p : ℕ) → Laws (simulation_of (rules_of node) x) → (n : ℕ) → AreBetween 0 x.until (times_of (events (simulation_of (rules_of node) x) n p))
events-between x p L n =
    let r = right (simulation_of (rules_of node) x) L n in
    times-between L.order 0 x.until (events (simulation_of (rules_of node) x) n p) (ascending-filter message_order L.order (λ m. m.receiver == p) (one (simulation_of (rules_of node) x) n).handled r.ascending) (omega arith)
    (λ m i. (omega arith, r.handled_in_time m (in-filter message_order L.order (λ m. m.receiver == p) m (one (simulation_of (rules_of node) x) n).handled i).1))

pub events-from : (x : Setting NodeState) (p : ℕ) → Laws (simulation_of (rules_of node) x) → (n : ℕ) → AreFrom 0 (times_of (events (simulation_of (rules_of node) x) n p))
events-from x p L n = go 0 (times_of (events (simulation_of (rules_of node) x) n p)) (events-between x p L n)
  where
    go : (t : ℕ) (ts : List ℕ) → AreBetween t x.until ts → AreFrom t ts
    go t [] h = tt
    go t (a ∷ ts) h = (h.0, go a ts h.1)

-- each of these messages goes to process p
abbrev pub AreTo : ℕ → List Message → Type 0
AreTo p [] = ⊤
AreTo p (m ∷ ms) = (m.receiver ≡ p) × AreTo p ms

pub events-to : (p : ℕ) (ms : List Message) → AreTo p (filter (λ m. m.receiver == p) ms)
events-to p [] = tt
events-to p (m ∷ ms) = go (m.receiver == p) refl (events-to p ms)
  where
    go : (b : Bool) → (m.receiver == p) ≡ b → AreTo p (filter (λ m. m.receiver == p) ms) → AreTo p (cond b (m ∷ filter (λ m. m.receiver == p) ms) (filter (λ m. m.receiver == p) ms))
    go true e r = (eqb-true m.receiver p e, r)
    go false e r = r
