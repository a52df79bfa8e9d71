-- The first letter of the tray arrives, and its receiver posts: the group stands for what that makes of it, and what was undone is on its way
-- as antimessages.
use Rattle.std.proofs.Common.{◌≡◌, ℕ, ◌<◌, ◌≤◌, ◌⊎◌, inl, inr, nat_lt, true, false, List, [], ◌∷◌, ◌++◌, length, Some, All, refl, sym, ap, ◌∙◌, subst, arith, slice_get, append-nil, lt-ltb}
use Rattle.std.specs.Bool.{⊤}
use Rattle.std.proofs.lemmas.Bool.{cases_eq}
use Rattle.std.proofs.lemmas.Option.{slice_get_within}
use Rattle.std.proofs.lemmas.List.Elements.{All-head, All-tail, All-weaker}
use Rattle.vlink.specs.declared.message.Message.{Message}
use Rattle.vlink.specs.declared.note.Note.{Note}
use Rattle.vlink.specs.Letters.{Letter}
use Rattle.virtual_time.specs.Law.{Rules, IsOrder, World, Part, IsIn, put, received_by, floor_of, emptied, rows_at, reached, IsAscending, IsWell, AreDone, done_by, is_enabled, step}
use Rattle.virtual_time.specs.declared.step.Step.TheVariants.{Arrive, Post}
use Rattle.virtual_time.proofs.Kept.{put_elim, put_elim₂}
use Rattle.virtual_time.proofs.Settled.{arrives-posts}
use Rattle.virtual_time.proofs.WellArrive.{arrive-well}
use Rattle.virtual_time.proofs.WellStep.{emptied-well}
use Rattle.reverse.specs.Setting.{Setting, simulation_of}
use Rattle.antimessages.specs.Counting.{signed_count}
use Rattle.antimessages.proofs.Agreeing.{same_counts-cons}
use Rattle.reverse.specs.Rules.{AreValues}
use Rattle.group_queues.specs.declared.block.Word.TheVariants.{Arrived}
use Rattle.group_queues.specs.DoneEvents.{DoneEvent, done_events_at, messages_of}
use Rattle.group_hand.specs.Hands.{Held, IsMember, CountsBeside, StandsForSent, counted, is_held, is_ours}
use Rattle.group_hand.specs.Passing.{held}
use Rattle.group_hand.specs.Arriving.{taken_back, undone_events, FrontArrived}
use Rattle.group_hand.proofs.Going.{held-is, received-append, received-first, received-skip}
use Rattle.group_hand.proofs.Arrival.{after, halves, tray-is, arrives-so}
use Rattle.group_hand.proofs.ArrivalCounts.{received-signed, adds, Adds}
use Rattle.group_hand.proofs.LateDone.{AreHalves, values-front}

module _ {S K : Type 0} (r : Rules Message S K Note) (O : IsOrder r.order) (V : S → Message → Type 0) (law : (s : S) (e : Message) → r.undo (r.after s e) e (r.kept s e) ≡ s)
    (l : Letter) (rest : List Letter) (late : List (DoneEvent K)) (old new : Held S K) (a : FrontArrived r l rest late old new) where
  -- the group before what was undone goes on
  abbrev pub told : Held S K
  told = held new.members new.done new.rows (record new.flow { tray = rest; abroad = old.flow.abroad; words = old.flow.words ++ Arrived (r.order.receiver l.message) ∷ [] })

  -- the receiver
  its : (b : (m : Message) → CountsBeside r.order old m) (up : IsAscending r.order (messages_of old.done)) (opening : S) (part : Part Message S) (s : S)
      (k : IsMember r V opening (r.order.receiver l.message) part s old) →
      IsMember r V opening (r.order.receiver l.message) (emptied (after r O V opening part s old new l rest late a b k)) (undone_events r late s) told
  its b up opening part s k = record {
    state = ap (undone_events r late) k.state;
    done = split.front;
    values = values-front r V (reached r opening part.committed) (messages_of (done_events_at r.order (r.order.receiver l.message) new.done)) (messages_of late)
        (subst (AreValues r V (reached r opening part.committed)) split.messages k.values);
    counts = λ y.
        same_counts-cons r.order l part.tally (received_by r.order (r.order.receiver l.message) (counted old)) k.counts y ∙
        (ap (signed_count r.order y) (sym (received-first r.order (r.order.receiver l.message) l (counted old) refl)) ∙
        received-signed r O V (r.order.receiver l.message) (l ∷ counted old) (counted new) (adds r O V l rest late old new a b).counts y);
    tray = refl;
    outbox = refl;
    rows = ap (λ z. rows_at (r.order.receiver l.message) z.all) a.rows ∙ k.rows;
    well = emptied-well r (λ z. ⊤) opening (after r O V opening part s old new l rest late a b k)
        (subst (IsWell r (λ z. ⊤) opening) (arrives-so r O V opening part s old new l rest late a b k up) (arrive-well r O (λ z. ⊤) (λ z y i. law z y) opening part k.well).well);
  }
    where
      split : AreHalves r (reached r opening part.committed) part.done (done_events_at r.order (r.order.receiver l.message) new.done) late
      split = halves r O V opening part s old new l rest late a b k

  -- another member
  other : (b : (m : Message) → CountsBeside r.order old m) (opening : S) (q : ℕ) (part : Part Message S) (s : S) → (q ≡ r.order.receiver l.message → ⊥) →
      IsMember r V opening q part s old → IsMember r V opening q part s told
  other b opening q part s n k = record {
    state = k.state;
    done = a.kept q n ∙ k.done;
    values = k.values;
    counts = λ y.
        k.counts y ∙ (ap (signed_count r.order y) (sym (received-skip r.order q l (counted old) (λ e. n (sym e)))) ∙
        received-signed r O V q (l ∷ counted old) (counted new) (adds r O V l rest late old new a b).counts y);
    tray = k.tray ∙ (ap (received_by r.order q) a.tray ∙ received-skip r.order q l rest (λ e. n (sym e)));
    outbox = k.outbox;
    rows = ap (λ z. rows_at q z.all) a.rows ∙ k.rows;
    well = k.well;
  }

  module _ (x : Setting S) (v : World Message S) (g : StandsForSent r V x v old []) where
    abbrev p : ℕ
    p = r.order.receiver l.message

    homes : All (λ z. is_ours old.members (r.order.receiver z.message) ≡ true) (l ∷ rest)
    homes = subst (λ ls. All (λ z. is_ours old.members (r.order.receiver z.message) ≡ true) ls) a.tray g.tray_home

    times : All (λ z. r.order.time z.message ≤ x.until) (l ∷ rest)
    times = subst (λ ls. All (λ z. r.order.time z.message ≤ x.until) ls) a.tray g.tray_in_time

    pub ours : is_ours old.members (r.order.receiver l.message) ≡ true
    ours = All-head (λ z. is_ours old.members (r.order.receiver z.message) ≡ true) l rest homes

    pub at : (s : S) × (slice_get old.members (r.order.receiver l.message) ≡ Some (Some s))
    at = held-is (slice_get old.members (r.order.receiver l.message)) ours

    pub mine : IsMember r V (x.opening p) p (v.parts p) at.0 old
    mine = g.members p at.0 at.1

    pub within : r.order.receiver l.message < x.processes
    within = let i = slice_get_within old.members p (Some at.0) at.1 in let b = g.count in omega arith

    pub ours-same : (q : ℕ) → is_ours new.members q ≡ is_ours old.members q
    ours-same q = go (cases_eq q (r.order.receiver l.message))
      where
        go : (q ≡ r.order.receiver l.message) ⊎ (q ≡ r.order.receiver l.message → ⊥) → is_ours new.members q ≡ is_ours old.members q
        go (inl e) = ap (λ z. is_held (slice_get new.members z)) e ∙ (ap is_held (a.state at.0 at.1) ∙ (sym (ap is_held at.1) ∙ ap (λ z. is_held (slice_get old.members z)) (sym e)))
        go (inr n) = ap is_held (a.others q n)

    pub front-steps : AreDone (simulation_of r x) (Arrive (r.order.receiver l.message) ∷ Post (r.order.receiver l.message) ∷ []) v
    unfolding is_enabled step
    front-steps = (
      rw (lt-ltb (r.order.receiver l.message) x.processes within)
          (ap (λ z. nat_lt 0 (length z)) (tray-is r O V (x.opening p) (v.parts p) at.0 old new l rest late a g.beside mine) ∙
          lt-ltb 0 (length (l ∷ received_by r.order (r.order.receiver l.message) rest)) (omega arith)),
      (lt-ltb (r.order.receiver l.message) x.processes within, tt),
    )

    -- the receiver's part afterwards
    abbrev made : Part Message S
    made = after r O V (x.opening p) (v.parts p) at.0 old new l rest late a g.beside mine

    -- the world in which the receiver has this part, and has posted
    abbrev posting : Part Message S → World Message S
    posting part =
        record {
          parts = put p (emptied part) v.parts;
          mail = λ q. v.mail q ++ received_by r.order q part.outbox;
          floors = put p (floor_of r.order x.until (emptied part)) v.floors;
          gvt = v.gvt;
        }

    pub front-stands : StandsForSent r V x (done_by (simulation_of r x) (Arrive (r.order.receiver l.message) ∷ Post (r.order.receiver l.message) ∷ []) v) told (taken_back late)
    front-stands =
        subst (λ w. StandsForSent r V x w told (taken_back late)) (sym (arrives-posts (simulation_of r x) O p v))
        (subst (λ z. StandsForSent r V x (posting z) told (taken_back late)) (sym (arrives-so r O V (x.opening p) (v.parts p) at.0 old new l rest late a g.beside mine g.ascending)) stands)
      where
        counts : Adds r O V l rest late old new a g.beside
        counts = adds r O V l rest late old new a g.beside

        home-was : (y : Message) → (y ≡ l.message) ⊎ IsIn r.order y (old.flow.queue ++ messages_of old.done) → is_ours old.members (r.order.receiver y) ≡ true
        home-was y (inl e) = ap (λ z. is_ours old.members (r.order.receiver z)) e ∙ ours
        home-was y (inr n) = g.home y n

        time-was : (y : Message) → (y ≡ l.message) ⊎ IsIn r.order y (old.flow.queue ++ messages_of old.done) → r.order.time y ≤ x.until
        time-was y (inl e) = subst (λ z. r.order.time z ≤ x.until) (sym e) (All-head (λ z. r.order.time z.message ≤ x.until) l rest times)
        time-was y (inr n) = g.in_time y n

        stands : StandsForSent r V x (posting made) told (taken_back late)
        stands = record {
          count = a.count ∙ g.count;
          members = λ q t e. put_elim (λ z part. slice_get new.members z ≡ Some (Some t) → IsMember r V (x.opening z) z part t told) p (emptied made) v.parts
              (λ i. subst (λ u. IsMember r V (x.opening p) p (emptied made) u told) (let b = a.state at.0 at.1 in let w : undone_events r late at.0 ≡ t = cc (b, i) in w)
              (its g.beside g.ascending (x.opening p) (v.parts p) at.0 mine))
              (λ z n i. other g.beside (x.opening z) z (v.parts z) t n (g.members z t (sym (a.others z n) ∙ i))) q e;
          mail = λ q.
              ap (λ z. z ++ received_by r.order q (taken_back late)) (g.mail q) ∙
              (ap (λ z. received_by r.order q z ++ received_by r.order q (taken_back late)) (append-nil old.flow.abroad) ∙
              sym (received-append r.order q old.flow.abroad (taken_back late)));
          elsewhere = All-weaker (λ z. is_ours old.members (r.order.receiver z.message) ≡ false) (λ z. is_ours new.members (r.order.receiver z.message) ≡ false)
              (λ z e. ours-same (r.order.receiver z.message) ∙ e) old.flow.abroad g.elsewhere;
          tray_home = All-weaker (λ z. is_ours old.members (r.order.receiver z.message) ≡ true) (λ z. is_ours new.members (r.order.receiver z.message) ≡ true)
              (λ z e. ours-same (r.order.receiver z.message) ∙ e) rest (All-tail (λ z. is_ours old.members (r.order.receiver z.message) ≡ true) l rest homes);
          tray_in_time = All-tail (λ z. r.order.time z.message ≤ x.until) l rest times;
          home = λ y n. ours-same (r.order.receiver y) ∙ home-was y (counts.was_there y n);
          in_time = λ y n. time-was y (counts.was_there y n);
          beside = λ y. record { more = λ i. (counts.beside y).more i; less = λ i. (counts.beside y).less i };
          ascending = a.ascending g.ascending;
          settled = put_elim₂ (λ q c d. is_ours new.members q ≡ true → c ≡ floor_of r.order x.until d) p (floor_of r.order x.until (emptied made)) (emptied made) v.floors v.parts
              (λ i. refl) (λ q n i. g.settled q (sym (ours-same q) ∙ i));
        }
