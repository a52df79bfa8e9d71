-- How long a regulator holds a frame in the run.
use Rattle.std.proofs.Common.{◌≡◌, ℕ, suc, ◌+◌, ◌*◌, ◌%◌, ◌<◌, ◌≤◌, inl, inr, true, false, List, [], ◌∷◌, ◌++◌, length, Option, Some, None, refl, sym, ap, ◌∙◌, subst, arith, eq-eqb}
use Rattle.std.specs.Prelude.{⊤}
use Rattle.std.proofs.lemmas.Bool.{cases_eq}
use Rattle.std.proofs.lemmas.List.{length_push}
use Rattle.std.proofs.lemmas.Nat.{mul-le}
use Rattle.vlink.specs.declared.frame.Frame.{Frame}
use Rattle.vlink.specs.declared.message.Message.{Message}
use Rattle.vlink.specs.declared.note.Note.{Note}
use Rattle.frame_ring.specs.Queue.{Queue}
use Rattle.bag_regulator.specs.Regulator.{Regulator, ask, is_some_frame, let_go, list_at, next_served, outcome, regulator, waits, with_frames}
use Rattle.bag_regulator.specs.RoundRobin.{round_robin}
use Rattle.bag_regulator.proofs.RoundRobinLemmas.{next-none, with_frames-other}
use Rattle.bag_regulator.specs.declared.event.RegEvent.{RegEvent}
use Rattle.bag_regulator.specs.declared.event.RegEvent.TheVariants.{Offer, Release}
use Rattle.output_port.specs.Port.{PortState}
use Rattle.output_port.specs.declared.event.PortEvent.{PortEvent}
use Rattle.output_port.specs.declared.event.PortEvent.TheVariants.{Put, Free}
use Rattle.reverse.specs.Rules.{rules_of}
use Rattle.reverse.specs.Setting.{Setting, simulation_of}
use Rattle.virtual_time.specs.Law.{Laws, Simulation, events, one}
use Rattle.timers.specs.Timer.{AreOnTime, IsOnTime}
use Rattle.port_bounds.specs.Sublists.{Every}
use Rattle.element_bounds.specs.PortTrace.{trace_of}
use Rattle.element_bounds.proofs.TraceLemmas.{AllPuts, OfAsked, trace-puts}
use Rattle.nodes.specs.declared.node.NodeRecord.{NodeRecord}
use Rattle.nodes.specs.rules.Node.{NodeState, after, handled, regulator_in}
use Rattle.nodes.specs.undoing.Node.{node}
use Rattle.port_turns.specs.Nodes.{IsOfNodes, is_offer_of}
use Rattle.port_turns.specs.PortEvents.{asks}
use Rattle.port_turns.specs.PortRuns.{AreOwnFrames, asked_at, input_of, port_events}
use Rattle.port_turns.proofs.Rising.{AreTo, events-to}
use Rattle.frame_ages.proofs.HeldFrames.{HeldBy, IsHeld, held-none, held-one, put-weaker}
use Rattle.frame_ages.proofs.RegulatorSteps.{IsRight, Stepped, ask-next, frames_at, right-stays, step, with-same}
use Rattle.frame_ages.proofs.RegulatorSteps.Stepped.{Drops, Keeps, Passes, Pops, Rests}
use Rattle.port_turns.proofs.RegulatorTurns.{IsSaid, LikeReleased, OfPutBy, Turned, is_release, node-turn, releases}
use Rattle.port_turns.proofs.RegulatorTurns.Turned.{Does, Quiet}
use Rattle.frame_ages.proofs.RoundRobin.{distance, distance-below, last-then, nearer-by, nearest}
use Rattle.frame_ages.proofs.ReleaseTimer.{HasRegulator, alarm, early, ask-is, ask_in, is_due, own-stays, put-own, releases-on-time}

-- offers come by a reckoning: each has a due moment, a `period` at least after the one before, and comes no more than `before` ns before and `jitter` after it.
-- Next says of the last release, of how many frames wait in the first list, and of the due moment of the next offer at least, that a frame which then
-- waits for the releases of `place` frames before it is held no longer than `wait`; a Release brings that moment onward. Where there are sub-virtual
-- links, how many wait in the first list plays no part
pub record Reckoning (room sub bag period jitter before wait : ℕ) (onward : ℕ → ℕ → ℕ) (Next : ℕ → ℕ → ℕ → Type 0) : Type 0 where
  pub accept : (l len place e d t : ℕ) → Next l len e → e ≤ d → d ≤ t + before → place < room * sub → (sub ≡ 1 → place ≡ len) → (l + bag) + place * bag ≤ t + wait
  pub grow : (l len more e d : ℕ) → Next l len e → e ≤ d → (sub ≡ 1 → more ≡ suc len) → Next l more (d + period)
  pub drop : (l len e d : ℕ) → Next l len e → e ≤ d → Next l len (d + period)
  pub start : (d t : ℕ) → d ≤ t + before → t ≤ d + jitter → Next t 0 (d + period)
  pub pop : (l len less e : ℕ) → Next l len e → (sub ≡ 1 → len ≡ suc less) → Next (l + bag) less (onward e (l + bag))

-- the messages offer frames of virtual link v so
module _ (v period jitter before : ℕ) (onward : ℕ → ℕ → ℕ) where
  abbrev pub AreOffered : ℕ → List Message → Type 0
  AreOffered e [] = ⊤
  AreOffered e (m ∷ ms) =
      (is_offer_of v m.body ≡ true → (d : ℕ) × (e ≤ d) × (d ≤ m.time + before) × (m.time ≤ d + jitter) × AreOffered (d + period) ms)
      × (is_release v m.body ≡ true → AreOffered (onward e m.time) ms)
      × (is_offer_of v m.body ≡ false → is_release v m.body ≡ false → AreOffered e ms)

module _ (x : Setting NodeState) (N : IsOfNodes x) (p q v room sub bag : ℕ) (inside : p < x.processes) (opens : HasRegulator v room sub bag (x.opening p).equipment) (quiet : ask_in v room sub bag (x.opening p).equipment ≡ None)
    (period jitter before wait : ℕ) (onward : ℕ → ℕ → ℕ) (Next : ℕ → ℕ → ℕ → Type 0) (R : Reckoning room sub bag period jitter before wait onward Next) where
  abbrev f : Simulation Message NodeState NodeRecord Note
  f = simulation_of (rules_of node) x

  -- of one list a frame leaves in each round, each in time
  abbrev Slots : ℕ → List Frame → Type 0
  Slots d [] = ⊤
  Slots d (frame ∷ frames) = (d + bag ≤ frame.offered + wait) × Slots (d + sub * bag) frames

  slots-push : (d : ℕ) (frames : List Frame) (frame : Frame) → Slots d frames → (d + bag) + length frames * (sub * bag) ≤ frame.offered + wait → Slots d (frames ++ frame ∷ [])
  slots-push d [] frame h k = (omega arith, tt)
  slots-push d (g ∷ frames) frame h k = (h.0, slots-push (d + sub * bag) frames frame h.1 (let round : suc (length frames) * (sub * bag) ≡ sub * bag + length frames * (sub * bag) = omega arith in omega arith))

  slots-sooner : (d c : ℕ) (frames : List Frame) → c ≤ d → Slots d frames → Slots c frames
  slots-sooner d c [] l h = tt
  slots-sooner d c (frame ∷ frames) l h = (omega (arith, h.0), slots-sooner (d + sub * bag) (c + sub * bag) frames (omega arith) h.1)

  -- and so it is in each list: others may come before it in the round
  abbrev AllSlots : ℕ → Regulator → Type 0
  AllSlots l g = (k : ℕ) → k < sub → Slots (l + distance sub g.pointer k * bag) (frames_at g k)

  pub record IsReckoned (l : ℕ) (g : Regulator) (e : ℕ) : Type 0 where
    pub next : Next l (length (frames_at g 0)) e
    pub slots : AllSlots l g

  abbrev Reckoned : Regulator → ℕ → Type 0
  Reckoned g e = (l : ℕ) → g.last ≡ Some l → IsReckoned l g e

  abbrev HeldNow : Option PortEvent → Type 0
  HeldNow = HeldBy v wait

  abbrev IsTimely : NodeState → Message → Type 0
  IsTimely s m = IsOnTime f p (is_due x N p v room sub bag inside opens quiet) (alarm x N p v room sub bag inside opens quiet) m (ask_in v room sub bag s.equipment)

  abbrev AreTimely : NodeState → List Message → Type 0
  AreTimely s ms = AreOnTime f p (is_due x N p v room sub bag inside opens quiet) (alarm x N p v room sub bag inside opens quiet) s (ask_in v room sub bag s.equipment) ms

  -- what one message makes of it
  record Goes (s : NodeState) (m : Message) (ms : List Message) : Type 0 where
    held : HeldNow (asks q m s.equipment)
    next : HasRegulator v room sub bag (after s m).equipment
    e : ℕ
    offered : AreOffered v period jitter before onward e ms
    reckoned : Reckoned next.regulator e

  -- ---- what an event makes of the lists

  module _ (g : Regulator) (right : IsRight room sub bag g) (e : ℕ) (reckoned : Reckoned g e) where
    dropped : (d : ℕ) → e ≤ d → Reckoned g (d + period)
    dropped d l k is = let r = reckoned k is in record { next = R.drop k (length (frames_at g 0)) e d r.next l; slots = r.slots }

    passed : (t j d : ℕ) → next_served g ≡ None → d ≤ t + before → t ≤ d + jitter → Reckoned (let_go g t j g.lists) (d + period)
    passed t j d none l m k is =
        let same : t ≡ k = cc in
        subst (λ z. IsReckoned z (let_go g t j g.lists) (d + period)) same (record {
          next = subst (λ fs. Next t (length fs) (d + period)) (sym (next-none g none 0)) (R.start d t l m);
          slots = λ i h. subst (λ fs. Slots (t + distance sub ((j + 1) % length g.lists) i * bag) fs) (sym (next-none g none i)) tt;
        })

    -- of the list of one sub-virtual link, and of the others
    list-now : (j i : ℕ) (xs : List Frame) (P : ℕ → List Frame → Type 0) → j < sub → P j xs → ((i ≡ j → ⊥) → P i (frames_at g i)) → P i (list_at (with_frames g.lists j xs) i).frames
    list-now j i xs P h here there = elim (cases_eq i j) [
      | inl e ↦ subst (λ z. P z (list_at (with_frames g.lists j xs) z).frames) (sym e) (subst (P j) (sym (ap (λ (l : Queue). l.frames) (with-same g.lists j xs (let c = right.count in omega arith)))) here)
      | inr d ↦ subst (P i) (sym (ap (λ (l : Queue). l.frames) (with_frames-other g.lists j i xs d))) (there d)
    ]

    -- with one list that is the one
    one-list : (j : ℕ) → j < sub → sub ≡ 1 → j ≡ 0
    one-list j h e = omega arith

    kept : (j : ℕ) (frame : Frame) (d : ℕ) → j < sub → length (frames_at g j) < room → e ≤ d → d ≤ frame.offered + before → Reckoned (record g { lists = with_frames g.lists j (frames_at g j ++ frame ∷ []) }) (d + period)
    kept j frame d h few l m k is =
        let r = reckoned k is in
        let near : distance sub g.pointer j < sub = distance-below sub g.pointer j right.pointer h in
        let place : ℕ = length (frames_at g j) * sub + distance sub g.pointer j in
        let within : place < room * sub = place-within (length (frames_at g j)) room sub (distance sub g.pointer j) few near in
        let time = R.accept k (length (frames_at g 0)) place e d frame.offered r.next l m within (λ one. only one) in
        record {
          next = list-now j 0 (frames_at g j ++ frame ∷ []) (λ i fs. i ≡ 0 → Next k (length fs) (d + period)) h
              (λ first. R.grow k (length (frames_at g 0)) (length (frames_at g j ++ frame ∷ [])) e d r.next l (λ one. let long = length_push (frames_at g j) frame in let same = ap (λ (i : ℕ). length (frames_at g i)) first in omega arith))
              (λ other first. R.grow k (length (frames_at g 0)) (length (frames_at g 0)) e d r.next l (λ one. absurd (other (sym (one-list j h one))))) refl;
          slots = λ i inside. list-now j i (frames_at g j ++ frame ∷ []) (λ i fs. i < sub → Slots (k + distance sub g.pointer i * bag) fs) h
              (λ inside. slots-push (k + distance sub g.pointer j * bag) (frames_at g j) frame (r.slots j h) (moments k (distance sub g.pointer j) (length (frames_at g j)) (frame.offered + wait) time))
              (λ other inside. r.slots i inside) inside;
        }
      where
        only : sub ≡ 1 → length (frames_at g j) * sub + distance sub g.pointer j ≡ length (frames_at g 0)
        only one =
            let near : distance sub g.pointer j < sub = distance-below sub g.pointer j right.pointer h in
            let none : distance sub g.pointer j ≡ 0 = omega arith in
            let all : length (frames_at g j) * sub ≡ length (frames_at g j) * 1 = ap (λ z. length (frames_at g j) * z) one in
            let first : length (frames_at g j) ≡ length (frames_at g 0) = ap (λ (i : ℕ). length (frames_at g i)) (one-list j h one) in
            omega arith

        place-within : (i room sub near : ℕ) → i < room → near < sub → i * sub + near < room * sub
        place-within i room sub near few k = let more : suc i * sub ≤ room * sub = mul-le (suc i) sub room sub few (omega arith) in omega arith

        moments : (k near len most : ℕ) → (k + bag) + (len * sub + near) * bag ≤ most → ((k + near * bag) + bag) + len * (sub * bag) ≤ most
        moments k near len most h = let same : (len * sub + near) * bag ≡ len * (sub * bag) + near * bag = omega arith in omega arith

    -- the first frame of the next list leaves when it is due
    record Popped (t j : ℕ) (first : Frame) (rest : List Frame) : Type 0 where
      in_time : t ≤ first.offered + wait
      reckoned_then : Reckoned (let_go g t j (with_frames g.lists j rest)) (onward e t)

    popped : (t j : ℕ) (first : Frame) (rest : List Frame) → next_served g ≡ Some j → j < sub → frames_at g j ≡ first ∷ rest → ask g ≡ Some t → Popped t j first rest
    popped t j first rest next h are due =
        let s = right.sound j next in
        let r = reckoned s.0 s.1 in
        let same : s.0 + bag ≡ t = (let at = ask-next room sub bag g right j s.0 next s.1 in cc) in
        let slots = subst (Slots (s.0 + distance sub g.pointer j * bag)) are (r.slots j h) in
        subst (λ z. Popped z j first rest) same (record {
          in_time = let now = slots.0 in omega arith;
          reckoned_then = λ k is. subst (λ z. IsReckoned z (let_go g (s.0 + bag) j (with_frames g.lists j rest)) (onward e (s.0 + bag))) (let z : s.0 + bag ≡ k = cc in z) (record {
            next = list-now j 0 rest (λ i fs. i ≡ 0 → Next (s.0 + bag) (length fs) (onward e (s.0 + bag))) h
                (λ zero. R.pop s.0 (length (frames_at g 0)) (length rest) e r.next (λ one. ap (λ (i : ℕ). length (frames_at g i)) (sym zero) ∙ ap length are))
                (λ other zero. R.pop s.0 (length (frames_at g 0)) (length (frames_at g 0)) e r.next (λ one. absurd (other (sym (one-list j h one))))) refl;
            slots = λ i inside. subst (λ n. Slots ((s.0 + bag) + distance sub ((j + 1) % n) i * bag) (list_at (with_frames g.lists j rest) i).frames) (sym right.count)
                (list-now j i rest (λ i fs. i < sub → Slots ((s.0 + bag) + distance sub ((j + 1) % sub) i * bag) fs) h
                (λ inside. slots-sooner ((s.0 + distance sub g.pointer j * bag) + sub * bag) ((s.0 + bag) + distance sub ((j + 1) % sub) j * bag) rest (last s.0 (distance sub g.pointer j) (distance sub ((j + 1) % sub) j) (last-then sub j h)) slots.1)
                (λ other inside. others s.0 i inside other (frames_at g i) refl (r.slots i inside)) inside);
          });
        })
      where
        last : (l near far : ℕ) → far + 1 ≤ sub → (l + bag) + far * bag ≤ (l + near * bag) + sub * bag
        last l near far h = let more : (far + 1) * bag ≤ sub * bag = mul-le (far + 1) bag sub bag h (omega arith) in omega arith

        nearer : (l near now was : ℕ) → (now + 1) + near ≤ was → (l + bag) + now * bag ≤ l + was * bag
        nearer l near now was k = let more : (now + 1) * bag ≤ was * bag = mul-le (now + 1) bag was bag (omega arith) (omega arith) in omega arith

        round : next_served g ≡ Some j → (i : ℕ) → i < sub → is_some_frame (frames_at g i) ≡ true → (i ≡ j → ⊥) → distance sub g.pointer j < distance sub g.pointer i
        round next i inside some other =
            (nearest (waits g.lists) g.pointer sub j right.pointer (subst (λ n. round_robin (waits g.lists) g.pointer n ≡ Some j) right.count next)).1 i inside some other

        others : (l i : ℕ) → i < sub → (i ≡ j → ⊥) → (fs : List Frame) → frames_at g i ≡ fs → Slots (l + distance sub g.pointer i * bag) fs → Slots ((l + bag) + distance sub ((j + 1) % sub) i * bag) fs
        others l i inside other [] is k = tt
        others l i inside other (x ∷ xs) is k =
            slots-sooner (l + distance sub g.pointer i * bag) ((l + bag) + distance sub ((j + 1) % sub) i * bag) (x ∷ xs)
            (nearer l (distance sub g.pointer j) (distance sub ((j + 1) % sub) i) (distance sub g.pointer i) (nearer-by sub g.pointer j i right.pointer h inside (round next i inside (ap is_some_frame is) other))) k

  goes : (s : NodeState) (m : Message) (ms : List Message) (e : ℕ) (r : HasRegulator v room sub bag s.equipment) → m.receiver ≡ p → IsTimely s m → AreOffered v period jitter before onward e (m ∷ ms) → Reckoned r.regulator e → Goes s m ms
  goes s m ms e r to timely offered reckoned = go (node-turn v s.sender.number q m s.equipment r.regulator (put-own v q m s.equipment r.own) r.is)
    where
      own : AreOwnFrames (after s m).equipment
      own = own-stays s.sender.number m s.equipment r.own

      due : is_release v m.body ≡ true → ask r.regulator ≡ Some m.time
      due k = sym (ask-is v room sub bag s.equipment r) ∙ timely.at_moment (rw (eq-eqb m.receiver p to) k)

      -- an offer, and a Release
      offer : (a : RegEvent) (t k : ℕ) (frame : Frame) → IsSaid v m.time m.body a → a ≡ Offer t k frame → (is_offer_of v m.body ≡ true) × (t ≡ m.time) × (frame.offered ≡ m.time)
      offer a t k frame said is = subst (IsSaid v m.time m.body) is said

      release : (a : RegEvent) (t : ℕ) → IsSaid v m.time m.body a → a ≡ Release t → (is_release v m.body ≡ true) × (t ≡ m.time)
      release a t said is = subst (IsSaid v m.time m.body) is said

      by : (a : RegEvent) → IsSaid v m.time m.body a → regulator_in (after s m).equipment (record { 0 = v }) ≡ Some (regulator.after r.regulator a) →
          OfPutBy v (LikeReleased v (regulator.out r.regulator a).answer) (asks q m s.equipment) → Goes s m ms
      by a said now put = by-step (step room sub bag r.regulator r.right a)
        where
          done : (later : ℕ) → HeldNow (asks q m s.equipment) → AreOffered v period jitter before onward later ms → (g : Regulator) → (outcome r.regulator a).state ≡ g → Reckoned g later → Goes s m ms
          done later is_held offers g state then = record {
            held = is_held;
            next = record { regulator = regulator.after r.regulator a; is = now; right = right-stays room sub bag r.regulator r.right a; own = own };
            e = later;
            offered = offers;
            reckoned = subst (λ g. Reckoned g later) (sym state) then;
          }

          by-step : Stepped room sub bag r.regulator a (outcome r.regulator a) → Goes s m ms
          by-step (Drops t k frame is state ask none) =
              let o = offered.0 (offer a t k frame said is).0 in
              done (o.0 + period) (held-none v wait _ (asks q m s.equipment) none put) o.4 r.regulator state (dropped r.regulator r.right e reckoned o.0 o.1)
          by-step (Passes t k frame is empty inside' state ask released) =
              let w = offer a t k frame said is in
              let o = offered.0 w.0 in
              let at = w.1 in
              let since = w.2 in
              done (o.0 + period) (held-one v wait frame t _ (asks q m s.equipment) (omega arith) released put) o.4 (let_go r.regulator t k r.regulator.lists) state
              (passed r.regulator r.right e reckoned t k o.0 empty (let l = o.2 in omega arith) (let l = o.3 in omega arith))
          by-step (Keeps t k frame is inside' few state ask last none) =
              let w = offer a t k frame said is in
              let o = offered.0 w.0 in
              let since = w.2 in
              done (o.0 + period) (held-none v wait _ (asks q m s.equipment) none put) o.4 (record r.regulator { lists = with_frames r.regulator.lists k (frames_at r.regulator k ++ frame ∷ []) }) state
              (kept r.regulator r.right e reckoned k frame o.0 inside' few o.1 (let l = o.2 in omega arith))
          by-step (Rests t is why state ask none) = let w = release a t said is in absurd (early v room sub bag r.regulator t m.time r.right w.1 why (due w.0))
          by-step (Pops t is j first rest next inside' are state asks' released) =
              let w = release a t said is in
              let k = popped r.regulator r.right e reckoned t j first rest next inside' are (due w.0 ∙ ap Some (sym w.1)) in
              done (onward e t) (held-one v wait first t _ (asks q m s.equipment) k.in_time released put) (subst (λ z. AreOffered v period jitter before onward (onward e z) ms) (sym w.1) (offered.1 w.0))
              (let_go r.regulator t j (with_frames r.regulator.lists j rest)) state k.reckoned_then

      go : Turned v s.sender.number m.time m.body r.regulator (regulator_in (after s m).equipment (record { 0 = v })) (releases v (handled s.sender.number m s.equipment).reply.wishes) (asks q m s.equipment) → Goes s m ms
      go (Quiet now none rel off put) = record {
        held = put-weaker v wait (λ f. ⊥) (λ frame. frame.released ≤ frame.offered + wait) (λ frame k. absurd k) (asks q m s.equipment) put;
        next = record { regulator = r.regulator; is = now; right = r.right; own = own };
        e = e;
        offered = offered.2 off rel;
        reckoned = reckoned;
      }
      go (Does a said now vl k ws put) = by a said now put

  module _ (byte_ns : ℕ) where
    run : (s : NodeState) (ms : List Message) (e : ℕ) (r : HasRegulator v room sub bag s.equipment) → AreTo p ms → AreTimely s ms → AreOffered v period jitter before onward e ms → Reckoned r.regulator e →
        Every (λ ev. OfAsked (IsHeld v wait) byte_ns ev.at ev.line ev.event) (port_events q s ms)
    run s [] e r to timely offered reckoned = tt
    run s (m ∷ ms) e r to timely offered reckoned =
        let g = goes s m ms e r to.0 timely.0 offered reckoned in
        put (asks q m s.equipment) g.held (run (after s m) ms g.e g.next to.1 timely.1 g.offered g.reckoned)
      where
        put : (o : Option PortEvent) → HeldNow o → Every (λ ev. OfAsked (IsHeld v wait) byte_ns ev.at ev.line ev.event) (port_events q (after s m) ms) →
            Every (λ ev. OfAsked (IsHeld v wait) byte_ns ev.at ev.line ev.event) (asked_at m.time (input_of m.body s.equipment) o ++ port_events q (after s m) ms)
        put None h rest = rest
        put (Some Free) h rest = (tt, rest)
        put (Some (Put frame c)) h rest = (h, rest)

    pub held : Laws f → (e n : ℕ) → Reckoned opens.regulator e → AreOffered v period jitter before onward e (events f n p) → (port : PortState) → AllPuts (IsHeld v wait) byte_ns (trace_of byte_ns port (port_events q (x.opening p) (events f n p)))
    held L e n reckoned offered port =
        trace-puts (IsHeld v wait) byte_ns port (port_events q (x.opening p) (events f n p))
        (run (x.opening p) (events f n p) e opens (events-to p (one f n).handled)
        (subst (λ g. AreOnTime f p (is_due x N p v room sub bag inside opens quiet) (alarm x N p v room sub bag inside opens quiet) (x.opening p) g (events f n p)) (sym quiet) (releases-on-time x N p v room sub bag inside opens quiet L n)) offered reckoned)

-- ---- two reckonings

-- no frame waits longer than full lists take: the due moment is any moment that is not before an event
pub full-lists : (room sub bag : ℕ) → Reckoning room sub bag 0 0 0 ((room * sub) * bag) (λ e t. t) (λ l len e. l ≤ e)
full-lists room sub bag = record {
  accept = λ l len place e d t h k i few one. let most : suc place * bag ≤ (room * sub) * bag = mul-le (suc place) bag (room * sub) bag few (omega arith) in omega arith;
  grow = λ l len more e d h k one. omega arith;
  drop = λ l len e d h k. omega arith;
  start = λ d t h k. omega arith;
  pop = λ l len less e h one. omega arith;
}

-- offers by a period of at least the BAG, without sub-virtual links: what they come early, jitter and BAG beyond the period
pub by-period : (room bag period jitter before wait : ℕ) → bag ≤ period → (before + jitter) + bag ≤ wait + period → Reckoning room 1 bag period jitter before wait (λ e t. e) (λ l len e. ((l + bag) + len * bag) + period ≤ (e + jitter) + bag)
by-period room bag period jitter before wait long enough = record {
  accept = λ l len place e d t h k i few one. (let same : place * bag ≡ len * bag = ap (λ n. n * bag) (one refl) in omega arith);
  grow = λ l len more e d h k one. (let same : more * bag ≡ suc len * bag = ap (λ n. n * bag) (one refl) in omega arith);
  drop = λ l len e d h k. omega arith;
  start = λ d t h k. omega arith;
  pop = λ l len less e h one. (let same : len * bag ≡ suc less * bag = ap (λ n. n * bag) (one refl) in omega arith);
}
