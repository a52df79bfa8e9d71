-- A Release comes at just the moment for which the regulator asks.
use Rattle.std.proofs.Common.{◌≡◌, ℕ, ◌+◌, ◌<◌, ◌==◌, ◌⊎◌, inl, inr, Bool, true, false, cond, List, [], ◌∷◌, ◌++◌, filter, Option, Some, None, refl, sym, ap, ◌∙◌, subst, arith, eq-eqb, eqb-true}
use Rattle.std.proofs.lemmas.Bool.{cases_lt, both_ways, false≢true}
use Rattle.vlink.specs.declared.frame.Frame.{Frame}
use Rattle.vlink.specs.declared.frame.VlId.{VlId}
use Rattle.vlink.specs.declared.message.Message.{Message}
use Rattle.vlink.specs.declared.message.Body.{Body}
use Rattle.vlink.specs.declared.message.Body.TheVariants as body
use Rattle.vlink.specs.declared.note.Note.{Note}
use Rattle.bag_regulator.specs.Regulator.{Regulator, ask, ask_of, is_some_frame, next_release, next_served, outcome, regulator, with_frames}
use Rattle.bag_regulator.specs.declared.event.RegEvent.{RegEvent}
use Rattle.bag_regulator.specs.declared.event.RegEvent.TheVariants.{Offer, Release}
use Rattle.reverse.specs.Sending.{Wish}
use Rattle.reverse.specs.Rules.{rules_of}
use Rattle.reverse.specs.Setting.{Setting, simulation_of}
use Rattle.virtual_time.specs.Law.{IsReached, Laws, Simulation, events, reached}
use Rattle.timers.specs.Timer.{Alarm, AreOnTime, IsSet, IsTimer}
use Rattle.timers.specs.Timer.IsSet.{Off, On, PastEnd}
use Rattle.timers.proofs.TimerLemmas.{are_on_time}
use Rattle.nodes.specs.declared.equipment.Equipment.{Equipment}
use Rattle.nodes.specs.declared.equipment.Equipment.TheVariants.{EndSystem}
use Rattle.nodes.specs.declared.node.NodeRecord.{NodeRecord}
use Rattle.nodes.specs.rules.EndSystem.{asked}
use Rattle.nodes.specs.rules.Node.{NodeState, after, handled, regulator_in, sends}
use Rattle.nodes.specs.undoing.Node.{node}
use Rattle.port_turns.specs.Nodes.{IsOfNodes, is_offer_of}
use Rattle.port_turns.specs.PortEvents.{asks}
use Rattle.port_turns.specs.PortRuns.{AreOwnFrames}
use Rattle.port_turns.proofs.Elsewhere.{all-sent}
use Rattle.port_turns.proofs.Senders.{number-is, until-is}
use Rattle.port_turns.proofs.SentKinds.{IsElsewhere, is_to, mine, mine-kind, none-elsewhere, offers-none, receiver-is, sent-late, sent-none, sent-one}
use Rattle.port_turns.proofs.Sources.{IsOfferFit, source-keeps}
use Rattle.frame_ages.proofs.RegulatorSteps.{IsRight, Stepped, ask-next, ask-none, frames_at, kept-asks, kept_ask, kept_by, passed-ask, right-stays, step}
use Rattle.frame_ages.proofs.RegulatorSteps.Stepped.{Drops, Keeps, Passes, Pops, Rests}
use Rattle.port_turns.proofs.RegulatorTurns.{IsSaid, OfPutAt, Turned, is_release, node-turn, releases}
use Rattle.port_turns.proofs.RegulatorTurns.Turned.{Does, Quiet}

-- ---- each frame is of its own virtual link

offer-own : (t : ℕ) (b : Body) → IsOfferFit (λ k frame. frame.vl.0 ≡ k) t b
offer-own t (body.Offer vl size sub) = refl
offer-own t _ = tt

pub put-own : (v q : ℕ) (m : Message) (e : Equipment) → AreOwnFrames e → OfPutAt v q m e
put-own v q m (EndSystem s) h = (source-keeps (λ k frame. frame.vl.0 ≡ k) 0 m.time q m.body s (offer-own m.time m.body) h).put
put-own v q m _ h = tt

pub own-stays : (n : ℕ) (m : Message) (e : Equipment) → AreOwnFrames e → AreOwnFrames (handled n m e).equipment
own-stays n m (EndSystem s) h = (source-keeps (λ k frame. frame.vl.0 ≡ k) n m.time 0 m.body s (offer-own m.time m.body) h).waiting
own-stays n m _ h = tt

-- ---- when the regulator asks

abbrev pub ask_by : Option Regulator → Option ℕ
ask_by None = None
ask_by (Some g) = ask g

module _ (v room sub bag : ℕ) where
  -- the regulator of the virtual link
  pub record HasRegulator (e : Equipment) : Type 0 where
    pub regulator : Regulator
    pub is : regulator_in e (record { 0 = v }) ≡ Some regulator
    pub right : IsRight room sub bag regulator
    pub own : AreOwnFrames e

  abbrev pub ask_in : Equipment → Option ℕ
  ask_in e = ask_by (regulator_in e (record { 0 = v }))

  pub ask-is : (e : Equipment) (r : HasRegulator e) → ask_in e ≡ ask r.regulator
  ask-is e r = ap ask_by r.is

  -- an event leaves the moment, or sets it where there was none, or is the Release itself
  pub data AskTurn (release : Bool) (t : ℕ) (before now wish : Option ℕ) : Type 0 where
    Same : now ≡ before → wish ≡ None → release ≡ false → AskTurn release t before now wish
    Sets : before ≡ None → wish ≡ now → release ≡ false → AskTurn release t before now wish
    Again : wish ≡ now → release ≡ true → AskTurn release t before now wish
    Early : (before ≡ Some t → ⊥) → release ≡ true → AskTurn release t before now wish

  pub record Turns (n : ℕ) (m : Message) (e : Equipment) : Type 0 where
    pub vl : VlId
    pub wish : Option ℕ
    pub turn : AskTurn (is_release v m.body) m.time (ask_in e) (ask_in (handled n m e).equipment) wish
    pub wishes : releases v (handled n m e).reply.wishes ≡ (asked n vl wish).wishes
    pub next : HasRegulator (handled n m e).equipment

  said-offer : (t : ℕ) (b : Body) (e : RegEvent) (at q : ℕ) (frame : Frame) → IsSaid v t b e → e ≡ Offer at q frame → is_release v b ≡ false
  said-offer t b e at q frame h is = go b (subst (IsSaid v t b) is h).0
    where
      go : (b : Body) → is_offer_of v b ≡ true → is_release v b ≡ false
      go (body.Offer vl bytes sub) k = refl
      go _ k = absurd (false≢true k)

  said-release : (t : ℕ) (b : Body) (e : RegEvent) (at : ℕ) → IsSaid v t b e → e ≡ Release at → (is_release v b ≡ true) × (at ≡ t)
  said-release t b e at h is = subst (IsSaid v t b) is h

  -- a Release that is not due does not come
  pub early : (g : Regulator) (t now : ℕ) → IsRight room sub bag g → t ≡ now → (next_served g ≡ None) ⊎ ((l : ℕ) × (g.last ≡ Some l) × (t < l + bag)) → ask g ≡ Some now → ⊥
  early g t now R e (inl none) h = let before = ask-none room sub bag g R none in let z : ⊥ = cc in z
  early g t now R e (inr k) h = go (next_served g) refl
    where
      go : (o : Option ℕ) → next_served g ≡ o → ⊥
      go None none = let before = ask-none room sub bag g R none in let z : ⊥ = cc in z
      go (Some q) next =
          let before = ask-next room sub bag g R q k.0 next k.1 in
          let same : k.0 + bag ≡ now = cc in
          absurd (omega (arith, k.2))

  pub turns : (n : ℕ) (m : Message) (e : Equipment) → HasRegulator e → Turns n m e
  turns n m e r = go (node-turn v n 0 m e r.regulator (put-own v 0 m e r.own) r.is)
    where
      own : AreOwnFrames (handled n m e).equipment
      own = own-stays n m e r.own

      asks-by : (wish : Option ℕ) (now : Regulator) → regulator_in (handled n m e).equipment (record { 0 = v }) ≡ Some now →
          AskTurn (is_release v m.body) m.time (ask r.regulator) (ask now) wish → AskTurn (is_release v m.body) m.time (ask_in e) (ask_in (handled n m e).equipment) wish
      asks-by wish now is t =
          subst (λ z. AskTurn (is_release v m.body) m.time z (ask_in (handled n m e).equipment) wish) (sym (ask-is e r))
          (subst (λ z. AskTurn (is_release v m.body) m.time (ask r.regulator) z wish) (sym (ap ask_by is)) t)

      -- a frame that waits first sets it
      keeps : (q : ℕ) (frame : Frame) → q < sub → ((l : ℕ) × (r.regulator.last ≡ Some l)) → is_release v m.body ≡ false →
          AskTurn (is_release v m.body) m.time (ask r.regulator) (ask (record r.regulator { lists = with_frames r.regulator.lists q (frames_at r.regulator q ++ frame ∷ []) })) (kept_ask r.regulator)
      keeps q frame h last k = by (next_served r.regulator) refl
        where
          some : (xs : List Frame) → is_some_frame (xs ++ frame ∷ []) ≡ true
          some [] = refl
          some (x ∷ xs) = refl

          now : ask (record r.regulator { lists = with_frames r.regulator.lists q (frames_at r.regulator q ++ frame ∷ []) }) ≡ next_release r.regulator r.regulator.last
          now = kept-asks room sub bag r.regulator r.right q (frames_at r.regulator q ++ frame ∷ []) h (some (frames_at r.regulator q))

          by : (o : Option ℕ) → next_served r.regulator ≡ o → AskTurn (is_release v m.body) m.time (ask r.regulator) (ask (record r.regulator { lists = with_frames r.regulator.lists q (frames_at r.regulator q ++ frame ∷ []) })) (kept_ask r.regulator)
          by None none = Sets (ask-none room sub bag r.regulator r.right none) (ap (λ o. kept_by o (next_release r.regulator r.regulator.last)) none ∙ sym now) k
          by (Some j) next = Same (now ∙ sym (ap (λ o. ask_of o (next_release r.regulator r.regulator.last)) next)) (ap (λ o. kept_by o (next_release r.regulator r.regulator.last)) next) k

      by : (a : RegEvent) → IsSaid v m.time m.body a → regulator_in (handled n m e).equipment (record { 0 = v }) ≡ Some (regulator.after r.regulator a) → (vl : VlId) →
          releases v (handled n m e).reply.wishes ≡ (asked n vl (regulator.out r.regulator a).release_at).wishes → Turns n m e
      by a said now vl ws = by-step (step room sub bag r.regulator r.right a)
        where
          done : (wish : Option ℕ) → (regulator.out r.regulator a).release_at ≡ wish → AskTurn (is_release v m.body) m.time (ask r.regulator) (ask (regulator.after r.regulator a)) wish → Turns n m e
          done wish asks turn = record {
            vl = vl;
            wish = wish;
            turn = asks-by wish (regulator.after r.regulator a) now turn;
            wishes = ws ∙ ap (λ z. (asked n vl z).wishes) asks;
            next = record { regulator = regulator.after r.regulator a; is = now; right = right-stays room sub bag r.regulator r.right a; own = own };
          }

          by-step : Stepped room sub bag r.regulator a (outcome r.regulator a) → Turns n m e
          by-step (Drops t q frame is state asks none) = done None asks (Same (ap ask state) refl (said-offer m.time m.body a t q frame said is))
          by-step (Passes t q frame is empty inside state asks released) =
              done None asks (Sets (ask-none room sub bag r.regulator r.right empty) (sym (ap ask state ∙ passed-ask room sub bag r.regulator r.right t q empty)) (said-offer m.time m.body a t q frame said is))
          by-step (Keeps t q frame is inside few state asks last none) =
              done (kept_ask r.regulator) asks (subst (λ g. AskTurn (is_release v m.body) m.time (ask r.regulator) (ask g) (kept_ask r.regulator)) (sym state) (keeps q frame inside last (said-offer m.time m.body a t q frame said is)))
          by-step (Rests t is why state asks none) = let rel = said-release m.time m.body a t said is in done None asks (Early (early r.regulator t m.time r.right rel.1 why) rel.0)
          by-step (Pops t is q f rest next inside are state asks released) = done (ask (regulator.after r.regulator a)) asks (Again refl (said-release m.time m.body a t said is).0)

      go : Turned v n m.time m.body r.regulator (regulator_in (handled n m e).equipment (record { 0 = v })) (releases v (handled n m e).reply.wishes) (asks 0 m e) → Turns n m e
      go (Quiet now none rel off put) =
          record { vl = record { 0 = v }; wish = None; turn = asks-by None r.regulator now (Same refl refl rel); wishes = none; next = record { regulator = r.regulator; is = now; right = r.right; own = own } }
      go (Does a said now vl k ws put) = by a said now vl ws

-- ---- the timer

pub same_moment : Option ℕ → Option ℕ → Bool
same_moment None None = true
same_moment (Some a) (Some b) = a == b
same_moment _ _ = false

pub same-refl : (a : Option ℕ) → same_moment a a ≡ true
unfolding same_moment
same-refl None = refl
same-refl (Some a) = eq-eqb a a refl

pub same-is : (a b : Option ℕ) → same_moment a b ≡ true → a ≡ b
unfolding same_moment
same-is None None h = refl
same-is (Some a) (Some b) h = ap Some (eqb-true a b h)
same-is _ _ h = absurd (false≢true h)

module _ (x : Setting NodeState) (N : IsOfNodes x) (p v room sub bag : ℕ) (inside : p < x.processes) (opens : HasRegulator v room sub bag (x.opening p).equipment) (quiet : ask_in v room sub bag (x.opening p).equipment ≡ None) where
  abbrev f : Simulation Message NodeState NodeRecord Note
  f = simulation_of (rules_of node) x

  abbrev pub is_due : Message → Bool
  is_due m = is_to (is_release v) p m

  abbrev pub alarm : Alarm Message NodeState (Option ℕ)
  alarm = record { opening = None; after = λ s g m. ask_in v room sub bag (after s m).equipment; moment = λ g. g }

  abbrev pub fits : NodeState → Option ℕ → Bool
  fits s g = same_moment g (ask_in v room sub bag s.equipment)

  has-stays : (s : NodeState) (ms : List Message) → HasRegulator v room sub bag s.equipment → HasRegulator v room sub bag (reached (rules_of node) s ms).equipment
  has-stays s [] h = h
  has-stays s (m ∷ ms) h = has-stays (after s m) ms (turns v room sub bag s.sender.number m s.equipment h).next

  has : (s : NodeState) → IsReached f p s → HasRegulator v room sub bag s.equipment
  has s h = subst (λ (z : NodeState). HasRegulator v room sub bag z.equipment) (sym h.1) (has-stays (x.opening p) h.0 opens)

  due-is : (m : Message) (b : Bool) → m.receiver ≡ p → is_due m ≡ b → is_release v m.body ≡ b
  due-is m b r h = sym (ap (λ c. cond c (is_release v m.body) false) (eq-eqb m.receiver p r)) ∙ h

  -- of what is sent the Release that is asked for
  none-sent : (s : NodeState) (m : Message) (vl : VlId) → releases v (handled s.sender.number m s.equipment).reply.wishes ≡ (asked s.sender.number vl None).wishes → filter is_due (sends s m) ≡ []
  none-sent s m vl h = sent-none (is_release v) p s.sender _ (mine-kind (is_release v) p (handled s.sender.number m s.equipment).reply.wishes ∙ ap (filter (λ (w : Wish). w.receiver == p)) h)

  set-by : (s : NodeState) (m : Message) (vl : VlId) (wish : Option ℕ) → s.sender.number ≡ p → s.sender.until ≡ x.until →
      releases v (handled s.sender.number m s.equipment).reply.wishes ≡ (asked s.sender.number vl wish).wishes → IsSet f p is_due alarm (sends s m) wish
  set-by s m vl None n end h = Off refl (none-sent s m vl h)
  set-by s m vl (Some at) n end h = elim (cases_lt x.until at) [
    | inl late ↦ PastEnd at refl late (sent-late (is_release v) p s.sender _ (record { time = at; receiver = s.sender.number; body = body.Release vl }) one (omega (arith, end)))
    | inr timely ↦ (let sent = sent-one (is_release v) p s.sender _ (record { time = at; receiver = s.sender.number; body = body.Release vl }) one (omega (arith, end)) in On sent.0 (ap Some (sym sent.1)) sent.2)
  ]
    where
      one : filter (mine (is_release v) p) (handled s.sender.number m s.equipment).reply.wishes ≡ record { time = at; receiver = s.sender.number; body = body.Release vl } ∷ []
      one = mine-kind (is_release v) p (handled s.sender.number m s.equipment).reply.wishes ∙ (ap (filter (λ (w : Wish). w.receiver == p)) h ∙ rw (eq-eqb s.sender.number p n) refl)

  goes-on : (s : NodeState) (m : Message) (u : ℕ) → Turns v room sub bag s.sender.number m s.equipment → is_release v m.body ≡ false → ask_in v room sub bag s.equipment ≡ Some u →
      (ask_in v room sub bag (after s m).equipment ≡ Some u) × (filter is_due (sends s m) ≡ [])
  goes-on s m u t free is = go t.turn
    where
      go : AskTurn v room sub bag (is_release v m.body) m.time (ask_in v room sub bag s.equipment) (ask_in v room sub bag (after s m).equipment) t.wish → (ask_in v room sub bag (after s m).equipment ≡ Some u) × (filter is_due (sends s m) ≡ [])
      go (Same now wish k) = (now ∙ is, none-sent s m t.vl (t.wishes ∙ ap (λ z. (asked s.sender.number t.vl z).wishes) wish))
      go (Sets none wish k) = absurd (let z : ⊥ = cc in z)
      go (Again wish k) = absurd (both_ways _ free k)
      go (Early late k) = absurd (both_ways _ free k)

  begins : (s : NodeState) (m : Message) → Turns v room sub bag s.sender.number m s.equipment → s.sender.number ≡ p → s.sender.until ≡ x.until → is_release v m.body ≡ false → ask_in v room sub bag s.equipment ≡ None →
      IsSet f p is_due alarm (sends s m) (ask_in v room sub bag (after s m).equipment)
  begins s m t n end free is = go t.turn
    where
      go : AskTurn v room sub bag (is_release v m.body) m.time (ask_in v room sub bag s.equipment) (ask_in v room sub bag (after s m).equipment) t.wish → IsSet f p is_due alarm (sends s m) (ask_in v room sub bag (after s m).equipment)
      go (Same now wish k) = Off (now ∙ is) (none-sent s m t.vl (t.wishes ∙ ap (λ z. (asked s.sender.number t.vl z).wishes) wish))
      go (Sets none wish k) = subst (IsSet f p is_due alarm (sends s m)) wish (set-by s m t.vl t.wish n end t.wishes)
      go (Again wish k) = absurd (both_ways _ free k)
      go (Early late k) = absurd (both_ways _ free k)

  again : (s : NodeState) (m : Message) → Turns v room sub bag s.sender.number m s.equipment → s.sender.number ≡ p → s.sender.until ≡ x.until → is_release v m.body ≡ true → ask_in v room sub bag s.equipment ≡ Some m.time →
      IsSet f p is_due alarm (sends s m) (ask_in v room sub bag (after s m).equipment)
  again s m t n end mine is = go t.turn
    where
      go : AskTurn v room sub bag (is_release v m.body) m.time (ask_in v room sub bag s.equipment) (ask_in v room sub bag (after s m).equipment) t.wish → IsSet f p is_due alarm (sends s m) (ask_in v room sub bag (after s m).equipment)
      go (Same now wish k) = absurd (both_ways _ k mine)
      go (Sets none wish k) = absurd (both_ways _ k mine)
      go (Again wish k) = subst (IsSet f p is_due alarm (sends s m)) wish (set-by s m t.vl t.wish n end t.wishes)
      go (Early late k) = absurd (late is)

  -- another process releases none here
  none-by : (r : ℕ) → (r ≡ p → ⊥) → (s : NodeState) (m : Message) → s.sender.number ≡ r → filter is_due (sends s m) ≡ []
  none-by r d s m n = sent-none (is_release v) p s.sender _ (none-elsewhere (is_release v) p (handled s.sender.number m s.equipment).reply.wishes (all-sent (IsElsewhere (is_release v) p) s.sender.number m s.equipment (record {
    starts = λ t q ahead frame. (λ e. absurd (false≢true e), λ e. absurd (false≢true e));
    releases = λ t vl e own. d (sym n ∙ own);
    puts = λ t q frame e. absurd (false≢true e);
    arrivals = λ l is t frame e. absurd (false≢true e);
  })))

  pub timer : IsTimer f p is_due alarm fits
  timer = record {
    opens = ap (λ z. same_moment None z) quiet ∙ same-refl None;
    off = refl;
    keeps = λ s g m h i r on_time. same-refl (ask_in v room sub bag (after s m).equipment);
    goes_on = λ s g m u h i r free a. goes-on s m u (turns v room sub bag s.sender.number m s.equipment (has s h)) (due-is m false r free) (sym (same-is g (ask_in v room sub bag s.equipment) i) ∙ a);
    begins = λ s g m h i r free a. begins s m (turns v room sub bag s.sender.number m s.equipment (has s h)) (number-is x N p inside s h) (until-is x N p inside s h) (due-is m false r free) (sym (same-is g (ask_in v room sub bag s.equipment) i) ∙ a);
    again = λ s g m h i r mine on_time. again s m (turns v room sub bag s.sender.number m s.equipment (has s h)) (number-is x N p inside s h) (until-is x N p inside s h) (due-is m true r mine) (sym (same-is g (ask_in v room sub bag s.equipment) i) ∙ on_time.at_moment mine);
    to_itself = receiver-is (is_release v) p;
    by_none = λ r i d s h m. none-by r d s m (number-is x N r i s h);
    not_offered = offers-none (is_release v) p (λ vl size sub. refl) x.offers N.offered;
  }

  -- each Release comes at its moment, and nothing comes to the end system later than that
  pub releases-on-time : Laws f → (n : ℕ) → AreOnTime f p is_due alarm (x.opening p) None (events f n p)
  releases-on-time L n = are_on_time f L p inside is_due alarm fits timer n
