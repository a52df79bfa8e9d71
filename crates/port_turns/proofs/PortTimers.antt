-- Why PortFree is a timer of its node: what is sent of it, and when.
use Rattle.std.proofs.Common.{◌≡◌, ℕ, ◌<◌, ◌≤◌, ◌==◌, ◌⊎◌, inl, inr, Bool, true, false, not, cond, List, [], ◌∷◌, filter, Option, None, Some, is_some, refl, sym, ap, ◌∙◌, subst, arith, eq-eqb, ne_eqb}
use Rattle.std.proofs.lemmas.Bool.{cases_lt, both_ways}
use Rattle.vlink.specs.declared.message.Message.{Message}
use Rattle.vlink.specs.declared.note.Note.{Note}
use Rattle.reverse.specs.Sending.{Wish, sent}
use Rattle.reverse.specs.Rules.{rules_of}
use Rattle.reverse.specs.Setting.{Setting, simulation_of}
use Rattle.virtual_time.specs.Law.{Simulation, Laws, events}
use Rattle.nodes.specs.declared.node.NodeRecord.{NodeRecord}
use Rattle.nodes.specs.rules.Node.{NodeState, handled, after, sends}
use Rattle.nodes.specs.undoing.Node.{node}
use Rattle.timers.specs.Timer.{AreOnTime, IsSet, IsTimer}
use Rattle.timers.specs.Timer.IsSet.{Off, On, PastEnd}
use Rattle.timers.proofs.TimerLemmas.{are_on_time}
use Rattle.port_turns.specs.PortTimer.{is_free, is_timer, frees, is_busy_in, set_by, port_alarm}
use Rattle.port_turns.specs.Nodes.{IsOfNodes}
use Rattle.port_turns.proofs.SentKinds.{mine, mine-kind, offers-none, receiver-is, sent-late, sent-none, sent-one}
use Rattle.port_turns.proofs.Turns.{Turn}
use Rattle.port_turns.proofs.Turns.Turn.{Stays, Starts, Stops}
use Rattle.port_turns.proofs.NodeTurns.{node-turn}
use Rattle.port_turns.proofs.Senders.{number-is, until-is}

-- those of the wishes that free port q, and are for process p
mine-free : (p q : ℕ) (ws fs : List Wish) → frees q ws ≡ fs → filter (mine (is_free q) p) ws ≡ filter (λ w. w.receiver == p) fs
mine-free p q ws fs h = mine-kind (is_free q) p ws ∙ ap (filter (λ (w : Wish). w.receiver == p)) h

mine-one : (p q : ℕ) (ws : List Wish) (w : Wish) → frees q ws ≡ w ∷ [] → w.receiver ≡ p → filter (mine (is_free q) p) ws ≡ w ∷ []
mine-one p q ws w h r = mine-free p q ws (w ∷ []) h ∙ ap (λ b. cond b (w ∷ []) []) (eq-eqb w.receiver p r)

mine-none : (p q : ℕ) (ws : List Wish) (w : Wish) → frees q ws ≡ w ∷ [] → (w.receiver ≡ p → ⊥) → filter (mine (is_free q) p) ws ≡ []
mine-none p q ws w h d = mine-free p q ws (w ∷ []) h ∙ ap (λ b. cond b (w ∷ []) []) (ne_eqb w.receiver p d)

-- both are true, or neither
alike : Bool → Bool → Bool
alike true b = b
alike false b = not b

module _ (x : Setting NodeState) (p q : ℕ) (inside : p < x.processes) (N : IsOfNodes x) (idle : is_busy_in (x.opening p).equipment q ≡ false) where
  abbrev f : Simulation Message NodeState NodeRecord Note
  f = simulation_of (rules_of node) x

  -- the timer is set while the port is busy
  pub fits : NodeState → Option ℕ → Bool
  fits s g = alike (is_busy_in s.equipment q) (is_some g)

  -- for which moment the timer is set after an event
  abbrev set_after : NodeState → Option ℕ → Message → Option ℕ
  set_after s g m = let o = handled p m s.equipment in set_by (frees q o.reply.wishes) (is_busy_in o.equipment q) g

  abbrev TurnAt : NodeState → Message → Type 0
  TurnAt s m = Turn p (is_free q m.body) (is_busy_in s.equipment q) (is_busy_in (handled p m s.equipment).equipment q) (frees q (handled p m s.equipment).reply.wishes)

  -- what that says as an equation
  pub busy-some : (s : NodeState) (g : Option ℕ) → fits s g ≡ true → is_busy_in s.equipment q ≡ is_some g
  unfolding fits alike
  busy-some s g h = go (is_busy_in s.equipment q) (is_some g) h
    where
      go : (a b : Bool) → alike a b ≡ true → a ≡ b
      go true b k = sym k
      go false true k = absurd (let z : ⊥ = cc in z)
      go false false k = refl

  alike-refl : (a b : Bool) → a ≡ b → alike a b ≡ true
  unfolding alike
  alike-refl true b e = sym e
  alike-refl false true e = absurd (let z : ⊥ = cc in z)
  alike-refl false false e = refl

  -- and the equation as that
  pub fits-busy : (s : NodeState) (g : Option ℕ) → is_busy_in s.equipment q ≡ is_some g → fits s g ≡ true
  unfolding fits
  fits-busy s g h = alike-refl (is_busy_in s.equipment q) (is_some g) h

  free-mine : (m : Message) → m.receiver ≡ p → is_timer p q m ≡ is_free q m.body
  free-mine m r = rw (eq-eqb m.receiver p r) refl

  -- an event keeps that
  keeps : (s : NodeState) (g : Option ℕ) (m : Message) → s.sender.number ≡ p → fits s g ≡ true → fits (after s m) (set_after s g m) ≡ true
  unfolding fits
  keeps s g m n h =
      subst (λ r. alike (is_busy_in (handled r m s.equipment).equipment q) (is_some (set_after s g m)) ≡ true) (sym n) (alike-refl _ _ (go (node-turn p q m s.equipment)))
    where
      go : TurnAt s m → is_busy_in (handled p m s.equipment).equipment q ≡ is_some (set_after s g m)
      go (Stays e w y) = rw w (by (is_busy_in (handled p m s.equipment).equipment q) e)
        where
          by : (b : Bool) → b ≡ is_busy_in s.equipment q → b ≡ is_some (set_by [] b g)
          by true k = k ∙ busy-some s g h
          by false k = refl
      go (Starts w y r e z) = rw y e
      go (Stops y e w) = rw (w, e) refl

  abbrev ms_of : NodeState → Message → List Message
  ms_of s m = sent s.sender (handled p m s.equipment).reply.wishes

  sends-at : (s : NodeState) (m : Message) → s.sender.number ≡ p → f.rules.sends s m ≡ ms_of s m
  sends-at s m n = ap (λ r. sent s.sender (handled r m s.equipment).reply.wishes) n

  -- while the port is busy, other messages leave the timer set, and send none
  goes_on : (s : NodeState) (g : Option ℕ) (m : Message) (u : ℕ) → is_busy_in s.equipment q ≡ true → is_free q m.body ≡ false → g ≡ Some u →
      (set_after s g m ≡ Some u) × (filter (is_timer p q) (ms_of s m) ≡ [])
  goes_on s g m u b free a = go (node-turn p q m s.equipment)
    where
      go : TurnAt s m → (set_after s g m ≡ Some u) × (filter (is_timer p q) (ms_of s m) ≡ [])
      go (Stays e w y) = (rw (w, e ∙ b) a, sent-none (is_free q) p s.sender _ (mine-free p q _ [] w))
      go (Starts w y r e z) = absurd (elim z [ inl k ↦ both_ways _ free k | inr k ↦ both_ways _ k b ])
      go (Stops y e w) = absurd (both_ways _ free y)

  -- PortFree at a busy port, or another message at an idle one, may start a frame, and so set the timer
  sets : (s : NodeState) (g : Option ℕ) (m : Message) → s.sender.until ≡ x.until → ((is_free q m.body ≡ true) × (is_busy_in s.equipment q ≡ true)) ⊎ ((is_free q m.body ≡ false) × (is_busy_in s.equipment q ≡ false)) →
      IsSet f p (is_timer p q) (port_alarm p q) (ms_of s m) (set_after s g m)
  sets s g m end why = go (node-turn p q m s.equipment)
    where
      not_busy : is_busy_in (handled p m s.equipment).equipment q ≡ is_busy_in s.equipment q → (is_free q m.body ≡ false) ⊎ (is_busy_in s.equipment q ≡ false) → is_busy_in (handled p m s.equipment).equipment q ≡ false
      not_busy e z = elim why [ inl k ↦ absurd (elim z [ inl j ↦ both_ways _ j k.0 | inr j ↦ both_ways _ j k.1 ]) | inr k ↦ e ∙ k.1 ]

      started : (w : Wish) → frees q (handled p m s.equipment).reply.wishes ≡ w ∷ [] → w.receiver ≡ p → (w.time ≤ x.until) ⊎ (x.until < w.time) →
          IsSet f p (is_timer p q) (port_alarm p q) (ms_of s m) (set_after s g m)
      started w y r (inl l) = let one = sent-one (is_free q) p s.sender _ w (mine-one p q _ w y r) (omega (arith, end)) in On one.0 (rw y (ap Some (sym one.1))) one.2
      started w y r (inr l) = PastEnd w.time (rw y refl) l (sent-late (is_free q) p s.sender _ w (mine-one p q _ w y r) (omega (arith, end)))

      go : TurnAt s m → IsSet f p (is_timer p q) (port_alarm p q) (ms_of s m) (set_after s g m)
      go (Stays e w y) = Off (rw (w, not_busy e y) refl) (sent-none (is_free q) p s.sender _ (mine-free p q _ [] w))
      go (Starts w y r e z) = started w y r (elim (cases_lt x.until w.time) [ inl k ↦ inr k | inr k ↦ inl k ])
      go (Stops y e w) = Off (rw (w, e) refl) (sent-none (is_free q) p s.sender _ (mine-free p q _ [] w))

  pub timer : IsTimer f p (is_timer p q) (port_alarm p q) fits
  unfolding fits alike
  timer = record {
    opens = rw idle refl;
    off = refl;
    keeps = λ s g m h i r on_time. keeps s g m (number-is x N p inside s h) i;
    goes_on = λ s g m u h i r free a.
        let n = number-is x N p inside s h in
        let on = goes_on s g m u (busy-some s g i ∙ ap is_some a) (sym (free-mine m r) ∙ free) a in
        (on.0, ap (filter (is_timer p q)) (sends-at s m n) ∙ on.1);
    begins = λ s g m h i r free a.
        subst (λ ms. IsSet f p (is_timer p q) (port_alarm p q) ms (set_after s g m)) (sym (sends-at s m (number-is x N p inside s h)))
        (sets s g m (until-is x N p inside s h) (inr (sym (free-mine m r) ∙ free, busy-some s g i ∙ ap is_some a)));
    again = λ s g m h i r free on_time.
        subst (λ ms. IsSet f p (is_timer p q) (port_alarm p q) ms (set_after s g m)) (sym (sends-at s m (number-is x N p inside s h)))
        (sets s g m (until-is x N p inside s h) (inl (sym (free-mine m r) ∙ free, busy-some s g i ∙ ap is_some (on_time.at_moment free))));
    to_itself = receiver-is (is_free q) p;
    by_none = λ r i d s h m. none r d s m (number-is x N r i s h);
    not_offered = offers-none (is_free q) p (λ vl size sub. refl) x.offers N.offered;
  }
    where
      none : (r : ℕ) → (r ≡ p → ⊥) → (s : NodeState) (m : Message) → s.sender.number ≡ r → filter (is_timer p q) (sends s m) ≡ []
      none r d s m n = go (node-turn s.sender.number q m s.equipment)
        where
          go : Turn s.sender.number (is_free q m.body) (is_busy_in s.equipment q) (is_busy_in (handled s.sender.number m s.equipment).equipment q) (frees q (handled s.sender.number m s.equipment).reply.wishes) →
              filter (is_timer p q) (sends s m) ≡ []
          go (Stays e w y) = sent-none (is_free q) p s.sender _ (mine-free p q _ [] w)
          go (Starts w y c e z) = sent-none (is_free q) p s.sender _ (mine-none p q _ w y (λ k. d (sym n ∙ (sym c ∙ k))))
          go (Stops y e w) = sent-none (is_free q) p s.sender _ (mine-free p q _ [] w)

  pub are_ports_on_time : Laws f → (n : ℕ) → AreOnTime f p (is_timer p q) (port_alarm p q) (x.opening p) None (events f n p)
  are_ports_on_time L n = are_on_time f L p inside (is_timer p q) (port_alarm p q) fits timer n
