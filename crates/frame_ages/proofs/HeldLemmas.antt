-- Which offers come to an end system, in which order, and how long its regulator then holds them.
use Rattle.std.proofs.Common.{◌≡◌, ℕ, zero, suc, ◌+◌, ◌-◌, ◌*◌, ◌<◌, ◌≤◌, ◌==◌, inl, inr, refl, true, List, [], ◌∷◌, Some, None, sym, ap, ◌∙◌, subst, arith}
use Rattle.std.specs.Prelude.{⊤}
use Rattle.std.proofs.lemmas.Bool.{cases_eq, cases_lt, both_ways, false≢true}
use Rattle.std.proofs.lemmas.List.{get_or-replicate, length-replicate}
use Rattle.std.proofs.lemmas.List.Elements.{All-weaker}
use Rattle.vlink.specs.declared.message.Message.{Message}
use Rattle.vlink.specs.declared.note.Note.{Note}
use Rattle.vlink.specs.Order.{message_order}
use Rattle.frame_ring.specs.Queue.{Queue}
use Rattle.bag_regulator.specs.Regulator.{ask_of, list_at, next_served, opening}
use Rattle.bag_regulator.proofs.RoundRobinLemmas.{next-all}
use Rattle.bag_regulator.proofs.SpacingLemmas.{opening-empty}
use Rattle.reverse.specs.Sending.{Wish}
use Rattle.reverse.specs.Rules.{rules_of}
use Rattle.reverse.specs.Setting.{Setting, simulation_of}
use Rattle.virtual_time.specs.Law.{IsAscending, IsIn, Laws, Simulation, events, one}
use Rattle.virtual_time.proofs.Ascending.{ascending-filter}
use Rattle.virtual_time.proofs.Lists.{in-head}
use Rattle.virtual_time.proofs.OneThread.{right}
use Rattle.port_bounds.specs.Sublists.{Every}
use Rattle.nodes.specs.declared.equipment.Equipment.{Equipment}
use Rattle.nodes.specs.declared.node.NodeRecord.{NodeRecord}
use Rattle.nodes.specs.rules.Node.{NodeState, handled, regulator_in}
use Rattle.nodes.specs.undoing.Node.{node}
use Rattle.nodes.specs.laws.Sent.{IsSentAs, sent-all}
use Rattle.port_turns.specs.Nodes.{IsOfNodes, is_offer_of}
use Rattle.port_turns.proofs.Elsewhere.{OfAllSent, all-sent}
use Rattle.port_turns.proofs.Rising.{AreTo, before, events-from, events-to}
use Rattle.port_turns.proofs.SentKinds.{AreFrom, from-sooner, times_of}
use Rattle.frame_ages.specs.Latencies.{IsHeldWithin}
use Rattle.frame_ages.specs.Sizes.{OpensEmpty, Sizes}
use Rattle.frame_ages.specs.Waits.{IsOfferedBy}
use Rattle.port_bounds.proofs.SublistLemmas.{every-from-all}
use Rattle.frame_ages.proofs.GivenLemmas.{own-frames}
use Rattle.frame_ages.proofs.Invariants.{IsInvariant, all-events}
use Rattle.frame_ages.proofs.RegulatorSteps.{IsRight}
use Rattle.frame_ages.proofs.ReleaseTimer.{HasRegulator, ask_by, ask_in}
use Rattle.frame_ages.proofs.WaitLemmas.{AreOffered, by-period, full-lists, held}

-- what does not fall from one number to the next does not fall
not-falling : (f : ℕ → ℕ) → ((k : ℕ) → f k ≤ f (k + 1)) → (a d : ℕ) → f a ≤ f (a + d)
not-falling f step a zero = let same : a + 0 ≡ a = omega arith in rw same (omega arith)
not-falling f step a (suc d) = let same : a + suc d ≡ (a + d) + 1 = omega arith in let before = not-falling f step a d in let next = step (a + d) in rw same (omega arith)

not-falling-to : (f : ℕ → ℕ) → ((k : ℕ) → f k ≤ f (k + 1)) → (a b : ℕ) → a ≤ b → f a ≤ f b
not-falling-to f step a b h = let same : a + (b - a) ≡ b = omega arith in let there = not-falling f step a (b - a) in rw same at there

period-later : (due : ℕ → ℕ) (period : ℕ) → ((k : ℕ) → due k + period ≤ due (k + 1)) → (a b : ℕ) → a < b → due a + period ≤ due b
period-later due period apart a b h =
    let next = apart a in
    let rest = not-falling-to due (λ k. let step = apart k in omega arith) (a + 1) b (omega arith) in
    omega arith

-- at moments that do not fall
any-offered : (v e : ℕ) (ms : List Message) → AreFrom e (times_of ms) → AreOffered v 0 0 0 (λ e t. t) e ms
any-offered v e [] h = tt
any-offered v e (m ∷ ms) h = (
  λ k. (m.time, h.0, omega arith, omega arith, any-offered v (m.time + 0) ms (from-sooner (m.time + 0) m.time (times_of ms) (omega arith) h.1)),
  λ k. any-offered v m.time ms h.1,
  λ k l. any-offered v e ms (from-sooner e m.time (times_of ms) h.0 h.1),
)

module _ (x : Setting NodeState) (size : ℕ → Sizes) (O : OpensEmpty x size) (p v bag depth sub : ℕ) (inside : p < x.processes)
    (is : regulator_in (x.opening p).equipment (record { 0 = v }) ≡ Some (opening bag depth sub)) where
  -- at first no frame waits
  none-next : next_served (opening bag depth sub) ≡ None
  none-next = next-all (opening bag depth sub) (opening-empty depth sub)

  opening-right : IsRight depth sub bag (opening bag depth sub)
  opening-right = record {
    count = length-replicate sub (record { frames = []; room = depth });
    pointer = omega arith;
    rooms = λ q h. ap (λ (l : Queue). l.room) (get_or-replicate sub q (record { frames = []; room = depth }) (record { frames = []; room = 0 }) h);
    bag_is = refl;
    sound = λ q e. absurd (let none = none-next in let z : ⊥ = cc in z);
  }

  pub opens : HasRegulator v depth sub bag (x.opening p).equipment
  opens = record { regulator = opening bag depth sub; is = is; right = opening-right; own = own-frames (x.opening p).equipment (O.regulators p inside) }

  pub quiet : ask_in v depth sub bag (x.opening p).equipment ≡ None
  quiet = ap ask_by is ∙ ap (λ o. ask_of o None) none-next

  pub none-waits : (i : ℕ) → (list_at opens.regulator.lists i).frames ≡ []
  unfolding opens
  none-waits i = opening-empty depth sub i

  -- no release was yet
  pub none-yet : (l : ℕ) → opens.regulator.last ≡ Some l → ⊥
  unfolding opens
  none-yet l h = let z : ⊥ = cc in z

  pub lists-held : Laws (simulation_of (rules_of node) x) → IsOfNodes x → IsHeldWithin x p v ((depth * sub) * bag)
  lists-held L N = record {
    holds = λ q outlet there n.
        (held x N p q v depth sub bag inside opens quiet 0 0 0 ((depth * sub) * bag) (λ e t. t) (λ l len e. l ≤ e) (full-lists depth sub bag) outlet.ahead.byte_ns L 0 n (λ l h. absurd (none-yet l h))
        (any-offered v 0 (events (simulation_of (rules_of node) x) n p) (events-from x p L n)) outlet.port).low;
  }

module _ (x : Setting NodeState) (L : Laws (simulation_of (rules_of node) x)) (p v period jitter early : ℕ) (I : IsOfferedBy x v period jitter early) where
  abbrev f : Simulation Message NodeState NodeRecord Note
  f = simulation_of (rules_of node) x

  -- each offer that is handled was offered
  abbrev IsFit : Message → Type 0
  IsFit m = is_offer_of v m.body ≡ true → m ≡ I.offer m.number

  none-offered : (n : ℕ) (e : Equipment) → OfAllSent (λ w. is_offer_of v w.body ≡ true → ⊥) n e
  none-offered n e = record {
    starts = λ t q ahead frame. (λ k. absurd (false≢true k), λ k. absurd (false≢true k));
    releases = λ t vl k. absurd (false≢true k);
    puts = λ t q frame k. absurd (false≢true k);
    arrivals = λ l is t frame k. absurd (false≢true k);
  }

  invariant : IsInvariant f L IsFit (λ p s. ⊤)
  invariant = record {
    offered = I.each;
    opens = λ p i. tt;
    after = λ p i s m was to h q. tt;
    sends = λ p i s m was to h q. sent-all IsFit s.sender (handled s.sender.number m s.equipment).reply.wishes
        (All-weaker (λ (w : Wish). is_offer_of v w.body ≡ true → ⊥) (IsSentAs IsFit s.sender) (λ w k n l e. absurd (k e)) (handled s.sender.number m s.equipment).reply.wishes
        (all-sent (λ w. is_offer_of v w.body ≡ true → ⊥) s.sender.number m s.equipment (none-offered s.sender.number s.equipment)));
  }

  all-fit : (n : ℕ) → Every IsFit (events f n p)
  all-fit n = every-from-all IsFit (events f n p) (all-events f L IsFit (λ p s. ⊤) invariant n p)

  -- of two offers the one that comes later has the greater number
  number-rises : (m n : Message) → m.receiver ≡ n.receiver → m ≡ I.offer m.number → n ≡ I.offer n.number → message_order.less m n ≡ true → m.number < n.number
  number-rises m n to a b less = elim (cases_lt m.number n.number) [ inl h ↦ h | inr h ↦ elim (cases_eq n.number m.number) [ inl e ↦ absurd (same e) | inr d ↦ absurd (other (omega arith)) ] ]
    where
      same : n.number ≡ m.number → ⊥
      same e =
          let one : n ≡ m = b ∙ (ap I.offer e ∙ sym a) in
          both_ways _ (L.order.irreflexive m) (subst (λ z. message_order.less m z ≡ true) one less)

      other : n.number < m.number → ⊥
      other h =
          let sooner : (I.offer n.number).time ≤ (I.offer m.number).time = not-falling-to (λ k. (I.offer k).time) I.rising n.number m.number (omega arith) in
          let early : n.time ≤ m.time = subst (λ (z : Message). z.time ≤ m.time) (sym b) (subst (λ (z : Message). (I.offer n.number).time ≤ z.time) (sym a) sooner) in
          let back = before n m early (sym to) (ap (λ (z : Message). z.sender) b ∙ (I.sent n.number ∙ (sym (I.sent m.number) ∙ ap (λ (z : Message). z.sender) (sym a)))) h in
          both_ways _ (L.order.irreflexive n) (L.order.transitive n m n back less)

  -- the offers among these messages are due from e on
  abbrev AreDue : ℕ → List Message → Type 0
  AreDue e ms = Every (λ m. is_offer_of v m.body ≡ true → e ≤ I.due m.number) ms

  due-later : (m : Message) (ms : List Message) → m ≡ I.offer m.number → m.receiver ≡ p → AreTo p ms → Every IsFit ms → ((n : Message) → IsIn message_order n ms → message_order.less m n ≡ true) →
      AreDue (I.due m.number + period) ms
  due-later m [] a to tos fit above = tt
  due-later m (n ∷ ms) a to tos fit above = (
    λ k. (let rises = number-rises m n (to ∙ sym tos.0) a (fit.0 k) (above n (in-head message_order L.order n ms)) in
        period-later I.due period I.apart m.number n.number rises),
    due-later m ms a to tos.1 fit.1 (λ k i. above k (omega (arith, i))),
  )

  offered : (e : ℕ) (ms : List Message) → AreTo p ms → Every IsFit ms → IsAscending message_order ms → AreDue e ms → AreOffered v period jitter early (λ e t. e) e ms
  offered e [] to fit up due = tt
  offered e (m ∷ ms) to fit up due = (
    λ k. (let a = fit.0 k in (
      I.due m.number,
      due.0 k,
      subst (λ (z : Message). I.due m.number ≤ z.time + early) (sym a) (I.not_before m.number),
      subst (λ (z : Message). z.time ≤ I.due m.number + jitter) (sym a) (I.not_after m.number),
      offered (I.due m.number + period) ms to.1 fit.1 up.1 (due-later m ms a to.0 to.1 fit.1 up.0),
    )),
    λ k. offered e ms to.1 fit.1 up.1 due.1,
    λ k l. offered e ms to.1 fit.1 up.1 due.1,
  )

  all-due : (ms : List Message) → AreDue (I.due 0) ms
  all-due [] = tt
  all-due (m ∷ ms) = (λ k. not-falling-to I.due (λ i. let step = I.apart i in omega arith) 0 m.number (omega arith), all-due ms)

  -- of the events of the end system
  pub offered-all : (n : ℕ) → AreOffered v period jitter early (λ e t. e) (I.due 0) (events f n p)
  offered-all n =
      offered (I.due 0) (events f n p) (events-to p (one f n).handled) (all-fit n) (ascending-filter message_order L.order (λ m. m.receiver == p) (one f n).handled (right f L n).ascending) (all-due (events f n p))

module _ (x : Setting NodeState) (L : Laws (simulation_of (rules_of node) x)) (N : IsOfNodes x) (size : ℕ → Sizes) (O : OpensEmpty x size) (p v bag depth : ℕ) (inside : p < x.processes)
    (is : regulator_in (x.opening p).equipment (record { 0 = v }) ≡ Some (opening bag depth 1)) (period jitter early : ℕ) (I : IsOfferedBy x v period jitter early) (long : bag ≤ period) where
  pub periods-held : IsHeldWithin x p v (((early + jitter) + bag) - period)
  periods-held = record {
    holds = λ q outlet there n.
        (held x N p q v depth 1 bag inside (opens x size O p v bag depth 1 inside is) (quiet x size O p v bag depth 1 inside is) period jitter early (((early + jitter) + bag) - period) (λ e t. e) (λ l len e. ((l + bag) + len * bag) + period ≤ (e + jitter) + bag)
        (by-period depth bag period jitter early (((early + jitter) + bag) - period) long (omega arith)) outlet.ahead.byte_ns L (I.due 0) n (λ l h. absurd (none-yet x size O p v bag depth 1 inside is l h))
        (offered-all x L p v period jitter early I n) outlet.port).low;
  }
