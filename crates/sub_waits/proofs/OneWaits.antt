-- Where frames are offered by a period of at least the BAG, and come early and late by less than that, at most one waits in a regulator, whatever its
-- lists are.
use Rattle.std.proofs.Common.{◌≡◌, ℕ, ◌+◌, ◌<◌, ◌≤◌, inl, inr, true, List, [], ◌∷◌, ◌++◌, Option, Some, None, sym, ap, ◌∙◌, subst, arith, eq-eqb}
use Rattle.std.proofs.lemmas.Bool.{cases_eq}
use Rattle.vlink.specs.declared.frame.Frame.{Frame}
use Rattle.vlink.specs.declared.message.Message.{Message}
use Rattle.vlink.specs.declared.note.Note.{Note}
use Rattle.frame_ring.specs.Queue.{Queue}
use Rattle.bag_regulator.specs.Regulator.{Regulator, ask, is_some_frame, let_go, list_at, next_release, next_served, outcome, regulator, with_frames}
use Rattle.bag_regulator.proofs.RoundRobinLemmas.{next-none, with_frames-other}
use Rattle.bag_regulator.specs.declared.event.RegEvent.{RegEvent}
use Rattle.bag_regulator.specs.declared.event.RegEvent.TheVariants.{Offer, Release}
use Rattle.output_port.specs.Port.{PortState}
use Rattle.output_port.specs.declared.event.PortEvent.{PortEvent}
use Rattle.output_port.specs.declared.event.PortEvent.TheVariants.{Put, Free}
use Rattle.reverse.specs.Rules.{rules_of}
use Rattle.reverse.specs.Setting.{Setting, simulation_of}
use Rattle.virtual_time.specs.Law.{Laws, Simulation, events, one}
use Rattle.timers.specs.Timer.{AreOnTime, IsBy, IsOnTime}
use Rattle.port_bounds.specs.Sublists.{Every}
use Rattle.element_bounds.specs.PortTrace.{trace_of}
use Rattle.element_bounds.proofs.TraceLemmas.{AllPuts, OfAsked, trace-puts}
use Rattle.nodes.specs.declared.node.NodeRecord.{NodeRecord}
use Rattle.nodes.specs.rules.Node.{NodeState, after, handled, regulator_in}
use Rattle.nodes.specs.undoing.Node.{node}
use Rattle.port_turns.specs.Nodes.{IsOfNodes, is_offer_of}
use Rattle.port_turns.specs.PortEvents.{asks}
use Rattle.port_turns.specs.PortRuns.{AreOwnFrames, asked_at, input_of, port_events}
use Rattle.port_turns.proofs.Rising.{AreTo, events-to}
use Rattle.port_turns.proofs.RegulatorTurns.{IsSaid, LikeReleased, OfPutBy, Turned, is_release, node-turn, releases}
use Rattle.port_turns.proofs.RegulatorTurns.Turned.{Does, Quiet}
use Rattle.frame_ages.proofs.HeldFrames.{HeldBy, IsHeld, held-none, held-one, put-weaker}
use Rattle.frame_ages.proofs.RegulatorSteps.{IsRight, Stepped, frames_at, kept-asks, right-stays, step, with-same}
use Rattle.frame_ages.proofs.RegulatorSteps.Stepped.{Drops, Keeps, Passes, Pops, Rests}
use Rattle.frame_ages.proofs.ReleaseTimer.{HasRegulator, alarm, early, ask-is, ask_in, is_due, own-stays, put-own, releases-on-time}
use Rattle.frame_ages.proofs.WaitLemmas.{AreOffered}

module _ (x : Setting NodeState) (N : IsOfNodes x) (p q v room sub bag : ℕ) (inside : p < x.processes) (opens : HasRegulator v room sub bag (x.opening p).equipment) (quiet : ask_in v room sub bag (x.opening p).equipment ≡ None)
    (period jitter before wait : ℕ) (long : bag ≤ period) (short : before + jitter < period) (enough : (before + jitter) + bag ≤ wait + period) where
  abbrev f : Simulation Message NodeState NodeRecord Note
  f = simulation_of (rules_of node) x

  abbrev onward : ℕ → ℕ → ℕ
  onward e t = e

  abbrev HeldNow : Option PortEvent → Type 0
  HeldNow = HeldBy v wait

  abbrev IsTimely : NodeState → Message → Type 0
  IsTimely s m = IsOnTime f p (is_due x N p v room sub bag inside opens quiet) (alarm x N p v room sub bag inside opens quiet) m (ask_in v room sub bag s.equipment)

  abbrev AreTimely : NodeState → List Message → Type 0
  AreTimely s ms = AreOnTime f p (is_due x N p v room sub bag inside opens quiet) (alarm x N p v room sub bag inside opens quiet) s (ask_in v room sub bag s.equipment) ms

  -- what the regulator holds, where the next offer is due at e or later: nothing, or one frame, which leaves before e
  data Holds (g : Regulator) (e : ℕ) : Type 0 where
    Nothing : ((i : ℕ) → frames_at g i ≡ []) → ((l : ℕ) → g.last ≡ Some l → l + period ≤ e + jitter) → Holds g e
    Single : (j t : ℕ) (frame : Frame) → ask g ≡ Some t → frames_at g j ≡ frame ∷ [] → ((i : ℕ) → (i ≡ j → ⊥) → frames_at g i ≡ []) → t + period ≤ e + jitter → t ≤ frame.offered + wait → Holds g e

  later : (g : Regulator) (e d : ℕ) → e ≤ d → Holds g e → Holds g d
  later g e d l (Nothing empty last) = Nothing empty (λ k is. let a = last k is in omega arith)
  later g e d l (Single j t frame asks are others due in_time) = Single j t frame asks are others (omega arith) in_time

  -- what one message makes of it
  record Goes (s : NodeState) (m : Message) (ms : List Message) : Type 0 where
    held : HeldNow (asks q m s.equipment)
    next : HasRegulator v room sub bag (after s m).equipment
    e : ℕ
    offered : AreOffered v period jitter before onward e ms
    holds : Holds next.regulator e

  -- ---- what an event makes of the lists

  module _ (g : Regulator) (right : IsRight room sub bag g) (e : ℕ) where
    passed : (t j d : ℕ) → next_served g ≡ None → t ≤ d + jitter → Holds (let_go g t j g.lists) (d + period)
    passed t j d none m = Nothing (λ i. next-none g none i) (λ l is. (let same : t ≡ l = cc in omega arith))

    -- a frame that comes while nothing waits waits alone
    kept : (j l : ℕ) (frame : Frame) (d : ℕ) → j < sub → g.last ≡ Some l → e ≤ d → d ≤ frame.offered + before → ((i : ℕ) → frames_at g i ≡ []) → l + period ≤ e + jitter →
        Holds (record g { lists = with_frames g.lists j (frames_at g j ++ frame ∷ []) }) (d + period)
    kept j l frame d h last le from empty due =
        Single j (l + bag) frame
        (kept-asks room sub bag g right j (frames_at g j ++ frame ∷ []) h (ap (λ fs. is_some_frame (fs ++ frame ∷ [])) (empty j)) ∙ (ap (next_release g) last ∙ ap (λ b. Some (l + b)) right.bag_is))
        (ap (λ (w : Queue). w.frames) (with-same g.lists j (frames_at g j ++ frame ∷ []) (let c = right.count in omega arith)) ∙ ap (λ fs. fs ++ frame ∷ []) (empty j))
        (λ i other. ap (λ (w : Queue). w.frames) (with_frames-other g.lists j i (frames_at g j ++ frame ∷ []) other) ∙ empty i)
        (omega arith) (omega arith)

    -- and leaves the lists empty
    popped : (t i j : ℕ) (frame first : Frame) (rest : List Frame) → j < sub → frames_at g i ≡ frame ∷ [] → ((k : ℕ) → (k ≡ i → ⊥) → frames_at g k ≡ []) → frames_at g j ≡ first ∷ rest → t + period ≤ e + jitter →
        (first ≡ frame) × Holds (let_go g t j (with_frames g.lists j rest)) e
    popped t i j frame first rest h are others there due = elim (cases_eq j i) [
      | inr d ↦ absurd (let none = others j d in let z : ⊥ = cc in z)
      | inl same ↦ (let two : first ∷ rest ≡ frame ∷ [] = sym there ∙ (ap (λ k. frames_at g k) same ∙ are) in both same two)
    ]
      where
        both : j ≡ i → first ∷ rest ≡ frame ∷ [] → (first ≡ frame) × Holds (let_go g t j (with_frames g.lists j rest)) e
        both same two =
            let one : first ≡ frame = cc in
            let no_more : rest ≡ [] = cc in
            (one, Nothing (λ k. empty k same no_more) (λ l is. (let at : t ≡ l = cc in omega arith)))
          where
            empty : (k : ℕ) → j ≡ i → rest ≡ [] → (list_at (with_frames g.lists j rest) k).frames ≡ []
            empty k same no_more = elim (cases_eq k j) [
              | inl here ↦ ap (λ z. (list_at (with_frames g.lists j rest) z).frames) here ∙ (ap (λ (w : Queue). w.frames) (with-same g.lists j rest (let c = right.count in omega arith)) ∙ no_more)
              | inr there ↦ ap (λ (w : Queue). w.frames) (with_frames-other g.lists j k rest there) ∙ others k (λ z. there (z ∙ sym same))
            ]

  goes : (s : NodeState) (m : Message) (ms : List Message) (e : ℕ) (r : HasRegulator v room sub bag s.equipment) → m.receiver ≡ p → IsTimely s m → AreOffered v period jitter before onward e (m ∷ ms) → Holds r.regulator e → Goes s m ms
  goes s m ms e r to timely offered holds = go (node-turn v s.sender.number q m s.equipment r.regulator (put-own v q m s.equipment r.own) r.is)
    where
      own : AreOwnFrames (after s m).equipment
      own = own-stays s.sender.number m s.equipment r.own

      due : is_release v m.body ≡ true → ask r.regulator ≡ Some m.time
      due k = sym (ask-is v room sub bag s.equipment r) ∙ timely.at_moment (rw (eq-eqb m.receiver p to) k)

      -- nothing comes later than the moment for which it asks
      until : (t : ℕ) → ask r.regulator ≡ Some t → m.time ≤ t
      until t is = subst (IsBy f p (is_due x N p v room sub bag inside opens quiet) (alarm x N p v room sub bag inside opens quiet) m.time) (ask-is v room sub bag s.equipment r ∙ is) timely.not_later

      -- an offer, and a Release
      offer : (a : RegEvent) (t k : ℕ) (frame : Frame) → IsSaid v m.time m.body a → a ≡ Offer t k frame → (is_offer_of v m.body ≡ true) × (t ≡ m.time) × (frame.offered ≡ m.time)
      offer a t k frame said is = subst (IsSaid v m.time m.body) is said

      release : (a : RegEvent) (t : ℕ) → IsSaid v m.time m.body a → a ≡ Release t → (is_release v m.body ≡ true) × (t ≡ m.time)
      release a t said is = subst (IsSaid v m.time m.body) is said

      by : (a : RegEvent) → IsSaid v m.time m.body a → regulator_in (after s m).equipment (record { 0 = v }) ≡ Some (regulator.after r.regulator a) →
          OfPutBy v (LikeReleased v (regulator.out r.regulator a).answer) (asks q m s.equipment) → Goes s m ms
      by a said now put = by-step (step room sub bag r.regulator r.right a)
        where
          done : (next : ℕ) → HeldNow (asks q m s.equipment) → AreOffered v period jitter before onward next ms → (g : Regulator) → (outcome r.regulator a).state ≡ g → Holds g next → Goes s m ms
          done next is_held offers g state then = record {
            held = is_held;
            next = record { regulator = regulator.after r.regulator a; is = now; right = right-stays room sub bag r.regulator r.right a; own = own };
            e = next;
            offered = offers;
            holds = subst (λ g. Holds g next) (sym state) then;
          }

          by-step : Stepped room sub bag r.regulator a (outcome r.regulator a) → Goes s m ms
          by-step (Drops t k frame is state ask none) =
              let o = offered.0 (offer a t k frame said is).0 in
              let l = o.1 in
              done (o.0 + period) (held-none v wait _ (asks q m s.equipment) none put) o.4 r.regulator state (later r.regulator e (o.0 + period) (omega arith) holds)
          by-step (Passes t k frame is empty inside' state ask released) =
              let w = offer a t k frame said is in
              let o = offered.0 w.0 in
              let at = w.1 in
              let since = w.2 in
              let l = o.3 in
              done (o.0 + period) (held-one v wait frame t _ (asks q m s.equipment) (omega arith) released put) o.4 (let_go r.regulator t k r.regulator.lists) state
              (passed r.regulator r.right e t k o.0 empty (omega arith))
          by-step (Keeps t k frame is inside' few state ask last none) =
              let w = offer a t k frame said is in
              let o = offered.0 w.0 in
              let since = w.2 in
              done (o.0 + period) (held-none v wait _ (asks q m s.equipment) none put) o.4 (record r.regulator { lists = with_frames r.regulator.lists k (frames_at r.regulator k ++ frame ∷ []) }) state
              (by-holds holds o.0 o.1 (let l = o.2 in omega arith) (let l = o.1 in let n = o.2 in omega arith))
            where
              by-holds : Holds r.regulator e → (d : ℕ) → e ≤ d → d ≤ frame.offered + before → e ≤ m.time + before → Holds (record r.regulator { lists = with_frames r.regulator.lists k (frames_at r.regulator k ++ frame ∷ []) }) (d + period)
              by-holds (Nothing empty since) d l n i = kept r.regulator r.right e k last.0 frame d inside' last.1 l n empty (since last.0 last.1)
              by-holds (Single j u first asks' are others soon in_time) d l n i = absurd (let by = until u asks' in omega arith)
          by-step (Rests t is why state ask none) = let w = release a t said is in absurd (early v room sub bag r.regulator t m.time r.right w.1 why (due w.0))
          by-step (Pops t is j first rest next inside' are state asks' released) = let w = release a t said is in by-holds w.0 w.1 holds
            where
              by-holds : is_release v m.body ≡ true → t ≡ m.time → Holds r.regulator e → Goes s m ms
              by-holds rel at (Nothing empty since) = absurd (let none = empty j in let z : ⊥ = cc in z)
              by-holds rel at (Single i u frame asks'' there others soon in_time) =
                  let same : u ≡ m.time = (let a = due rel in cc) in
                  let k = popped r.regulator r.right e t i j frame first rest inside' there others are (omega arith) in
                  let stamp : first.offered ≡ frame.offered = ap (λ (z : Frame). z.offered) k.0 in
                  done e (held-one v wait first t _ (asks q m s.equipment) (omega arith) released put) (offered.1 rel) (let_go r.regulator t j (with_frames r.regulator.lists j rest)) state k.1

      go : Turned v s.sender.number m.time m.body r.regulator (regulator_in (after s m).equipment (record { 0 = v })) (releases v (handled s.sender.number m s.equipment).reply.wishes) (asks q m s.equipment) → Goes s m ms
      go (Quiet now none rel off put) = record {
        held = put-weaker v wait (λ f. ⊥) (λ frame. frame.released ≤ frame.offered + wait) (λ frame k. absurd k) (asks q m s.equipment) put;
        next = record { regulator = r.regulator; is = now; right = r.right; own = own };
        e = e;
        offered = offered.2 off rel;
        holds = holds;
      }
      go (Does a said now vl k ws put) = by a said now put

  module _ (byte_ns : ℕ) where
    run : (s : NodeState) (ms : List Message) (e : ℕ) (r : HasRegulator v room sub bag s.equipment) → AreTo p ms → AreTimely s ms → AreOffered v period jitter before onward e ms → Holds r.regulator e →
        Every (λ ev. OfAsked (IsHeld v wait) byte_ns ev.at ev.line ev.event) (port_events q s ms)
    run s [] e r to timely offered holds = tt
    run s (m ∷ ms) e r to timely offered holds =
        let g = goes s m ms e r to.0 timely.0 offered holds in
        put (asks q m s.equipment) g.held (run (after s m) ms g.e g.next to.1 timely.1 g.offered g.holds)
      where
        put : (o : Option PortEvent) → HeldNow o → Every (λ ev. OfAsked (IsHeld v wait) byte_ns ev.at ev.line ev.event) (port_events q (after s m) ms) →
            Every (λ ev. OfAsked (IsHeld v wait) byte_ns ev.at ev.line ev.event) (asked_at m.time (input_of m.body s.equipment) o ++ port_events q (after s m) ms)
        put None h rest = rest
        put (Some Free) h rest = (tt, rest)
        put (Some (Put frame c)) h rest = (h, rest)

    pub held : Laws f → (e n : ℕ) → ((i : ℕ) → frames_at opens.regulator i ≡ []) → ((l : ℕ) → opens.regulator.last ≡ Some l → ⊥) → AreOffered v period jitter before onward e (events f n p) → (port : PortState) →
        AllPuts (IsHeld v wait) byte_ns (trace_of byte_ns port (port_events q (x.opening p) (events f n p)))
    held L e n empty none offered port =
        trace-puts (IsHeld v wait) byte_ns port (port_events q (x.opening p) (events f n p))
        (run (x.opening p) (events f n p) e opens (events-to p (one f n).handled)
        (subst (λ g. AreOnTime f p (is_due x N p v room sub bag inside opens quiet) (alarm x N p v room sub bag inside opens quiet) (x.opening p) g (events f n p)) (sym quiet) (releases-on-time x N p v room sub bag inside opens quiet L n)) offered
        (Nothing empty (λ l is. absurd (none l is))))
