-- A process handles no more offers than the network has.
use Rattle.std.proofs.Common.{◌≡◌, ℕ, ◌≤◌, ◌==◌, ◌⊎◌, inl, inr, true, false, List, [], ◌∷◌, ◌++◌, length, filter, All, refl, ap, sym, arith, length-append}
use Rattle.std.proofs.lemmas.Bool.{both_ways, cases_Bool}
use Rattle.vlink.specs.declared.message.Message.{Message}
use Rattle.vlink.specs.Order.{message_order}
use Rattle.reverse.specs.Rules.{rules_of}
use Rattle.reverse.specs.Sending.{Wish}
use Rattle.reverse.specs.Setting.{Setting, simulation_of}
use Rattle.reverse.proofs.Members.{in-all}
use Rattle.virtual_time.specs.Law.{IsIn, IsOrder, Laws, events, one, sent, times_in}
use Rattle.virtual_time.proofs.Lists.{in-cons, in-head, times-append, times-filter, times-filter_out, times-none}
use Rattle.virtual_time.proofs.OneThread.{right}
use Rattle.nodes.specs.declared.equipment.Equipment.{Equipment}
use Rattle.nodes.specs.laws.Sent.{sent-all}
use Rattle.nodes.specs.rules.Node.{NodeState, after, handled, sends}
use Rattle.nodes.specs.undoing.Node.{node}
use Rattle.port_turns.specs.Nodes.{is_offer}
use Rattle.port_turns.proofs.Elsewhere.{all-sent}

-- ---- no process sends one

never : (n : ℕ) (m : Message) (e : Equipment) → All (λ (w : Wish). is_offer w.body ≡ false) (handled n m e).reply.wishes
never n m e =
    all-sent (λ (w : Wish). is_offer w.body ≡ false) n m e (record { starts = λ t q ahead frame. (refl, refl); releases = λ t vl. refl; puts = λ t q frame. refl; arrivals = λ l is t frame. refl })

never-sent : (s : NodeState) (m : Message) → All (λ (y : Message). is_offer y.body ≡ false) (sends s m)
never-sent s m =
    sent-all (λ (y : Message). is_offer y.body ≡ false) s.sender (handled s.sender.number m s.equipment).reply.wishes (λ k d l n h. never s.sender.number m s.equipment k d l)

-- ---- a list is no longer than another that has each message at least as often
module _ (O : IsOrder message_order) where
  split-at : (m : Message) (ys : List Message) → IsIn message_order m ys → (us : List Message) × (vs : List Message) × (ys ≡ us ++ m ∷ vs)
  split-at m [] h = absurd (omega arith)
  split-at m (y ∷ ys) h = go (in-cons message_order O m y ys h) (split-at m ys)
    where
      go : (m ≡ y) ⊎ IsIn message_order m ys → (IsIn message_order m ys → (us : List Message) × (vs : List Message) × (ys ≡ us ++ m ∷ vs)) → (us : List Message) × (vs : List Message) × (y ∷ ys ≡ us ++ m ∷ vs)
      go (inl e) later = ([], ys, ap (λ z. z ∷ ys) (sym e))
      go (inr i) later = let l = later i in (y ∷ l.0, l.1, ap (λ z. y ∷ z) l.2)

  shorter : (xs ys : List Message) → ((m : Message) → times_in message_order m xs ≤ times_in message_order m ys) → length xs ≤ length ys
  shorter [] ys h = omega arith
  shorter (x ∷ xs) ys h =
      let i = in-head message_order O x xs in
      let j = h x in
      let l = split-at x ys (omega arith) in
      let rest = shorter xs (l.0 ++ l.1) (λ m.
      let a = h m in
      let b = ap (times_in message_order m) l.2 in
      let c = times-append message_order O m l.0 (x ∷ l.1) in
      let d = times-append message_order O m l.0 l.1 in
      omega arith) in
      let e = ap length l.2 in
      let f = length-append l.0 (x ∷ l.1) in
      let g = length-append l.0 l.1 in
      omega arith

module _ (x : Setting NodeState) (L : Laws (simulation_of (rules_of node) x)) where
  none-sent : (m : Message) → is_offer m.body ≡ true → (s : NodeState) (ms : List Message) → times_in message_order m (sent (rules_of node) s ms) ≡ 0
  none-sent m h s [] = refl
  none-sent m h s (e ∷ ms) =
      let a = times-append message_order L.order m (sends s e) (sent (rules_of node) (after s e) ms) in
      let b = times-none message_order L.order m (sends s e) (λ i. both_ways _ (in-all message_order L.order (λ (y : Message). is_offer y.body ≡ false) m (sends s e) (never-sent s e) i) h) in
      let c = none-sent m h (after s e) ms in
      omega arith

  pub offers-few : (n p : ℕ) → length (filter (λ (m : Message). is_offer m.body) (events (simulation_of (rules_of node) x) n p)) ≤ length x.offers
  offers-few n p = shorter L.order (filter (λ (m : Message). is_offer m.body) (events (simulation_of (rules_of node) x) n p)) x.offers (λ m. by m (cases_Bool (is_offer m.body)))
    where
      by : (m : Message) → (is_offer m.body ≡ true) ⊎ (is_offer m.body ≡ false) → times_in message_order m (filter (λ (y : Message). is_offer y.body) (events (simulation_of (rules_of node) x) n p)) ≤ times_in message_order m x.offers
      by m (inr e) = let a = times-filter_out message_order L.order (λ (y : Message). is_offer y.body) m (events (simulation_of (rules_of node) x) n p) e in omega arith
      by m (inl e) =
          let a = times-filter message_order L.order (λ (y : Message). is_offer y.body) m (events (simulation_of (rules_of node) x) n p) e in
          let b = made m e (cases_Bool (m.receiver == p)) in
          omega arith
        where
          made : (m : Message) → is_offer m.body ≡ true → (m.receiver == p ≡ true) ⊎ (m.receiver == p ≡ false) → times_in message_order m (events (simulation_of (rules_of node) x) n p) ≤ times_in message_order m x.offers
          made m e (inr d) = let a = times-filter_out message_order L.order (λ (y : Message). y.receiver == p) m (one (simulation_of (rules_of node) x) n).handled d in omega arith
          made m e (inl d) =
              let a = times-filter message_order L.order (λ (y : Message). y.receiver == p) m (one (simulation_of (rules_of node) x) n).handled d in
              let b = (right (simulation_of (rules_of node) x) L n).balance m in
              let c = none-sent m e (x.opening m.sender) (events (simulation_of (rules_of node) x) n m.sender) in
              omega arith
