-- A letter of the group is taken: it waits in the tray.
use Rattle.std.proofs.Common.{◌≡◌, ℕ, ◌≤◌, ◌<◌, min, true, false, List, [], ◌∷◌, ◌++◌, length, map, Some, All, nat_lt, remove, refl, sym, ap, ◌∙◌, subst, arith, slice_get, lt-ltb, append-nil}
use Rattle.std.specs.Bool.{⊤}
use Rattle.std.proofs.lemmas.Option.{slice_get_within}
use Rattle.std.proofs.lemmas.List.Elements.{All-push}
use Rattle.vlink.specs.declared.message.Message.{Message}
use Rattle.vlink.specs.declared.note.Note.{Note}
use Rattle.vlink.specs.Letters.{Letter}
use Rattle.virtual_time.specs.Law.{Rules, Simulation, World, Part, put, received_by, delivered, floor_of, taken, effect, is_enabled, AreDone, done_by, IsAscending, IsIn, minuses, plus_of, pluses, rows_at, times_in}
use Rattle.virtual_time.specs.declared.step.Step.TheVariants.{Take}
use Rattle.virtual_time.proofs.Kept.{put_elim, put_elim₂}
use Rattle.virtual_time.proofs.WellStep.{delivered-well}
use Rattle.virtual_time.proofs.Settled.{floor-delivered}
use Rattle.reverse.specs.Setting.{Setting, simulation_of}
use Rattle.virtual_time.specs.declared.letter.Letter.{Letter as AnyLetter}
use Rattle.antimessages.specs.Counting.{signed_count}
use Rattle.group_queues.specs.DoneEvents.{done_events_at, messages_of}
use Rattle.group_hand.specs.Hands.{Held, IsMember, StandsForSent, counted, is_ours}
use Rattle.group_hand.proofs.Going.{held-is, received-append, received-first, received-skip, received-sent, received-rest, received-other}

-- a letter came to the tray of its receiver from somewhere, and these letters are on their way to each process
abbrev pub with_tray : {S : Type 0} → (p : ℕ) → (t : ℕ) → Letter → (ℕ → List Letter) → World Message S → World Message S
with_tray p t l mail v =
    record {
      parts = put p (delivered l (v.parts p)) v.parts;
      mail = mail;
      floors = put p (min t (v.floors p)) v.floors;
      gvt = v.gvt;
    }

module _ {M S K N : Type 0} (f : Simulation M S K N) where
  takes : (p : ℕ) (l : AnyLetter M) (rest : List (AnyLetter M)) (v : World M S) → v.mail p ≡ l ∷ rest →
      effect f (Take p 0) v ≡ record { parts = put p (delivered l (v.parts p)) v.parts; mail = put p rest v.mail; floors = put p (min (f.rules.order.time l.message) (v.floors p)) v.floors; gvt = v.gvt }
  unfolding effect
  takes p l rest v m =
      ap (λ z. taken f p 0 v (slice_get z 0)) m ∙
      (λ j. record {
        parts = put p (delivered l (v.parts p)) v.parts;
        mail = put p (remove (m j) 0) v.mail;
        floors = put p (min (f.rules.order.time l.message) (v.floors p)) v.floors;
        gvt = v.gvt;
      })

  can-take : (p : ℕ) (l : AnyLetter M) (rest : List (AnyLetter M)) (v : World M S) → p < f.processes → v.mail p ≡ l ∷ rest → is_enabled f (Take p 0) v ≡ true
  unfolding is_enabled
  can-take p l rest v i m = rw (lt-ltb p f.processes i) (ap (λ z. nat_lt 0 (length z)) m ∙ lt-ltb 0 (length (l ∷ rest)) (omega arith))

module _ {S K : Type 0} (r : Rules Message S K Note) (V : S → Message → Type 0) (x : Setting S) (v : World Message S) (h new : Held S K) (l : Letter)
    (members : new.members ≡ h.members) (done : new.done ≡ h.done) (rows : new.rows ≡ h.rows) (queue : new.flow.queue ≡ h.flow.queue) (extra : new.flow.extra ≡ h.flow.extra)
    (tray : new.flow.tray ≡ h.flow.tray ++ l ∷ []) (ours : is_ours h.members (r.order.receiver l.message) ≡ true) (soon : r.order.time l.message ≤ x.until) where
  counted-same : counted new ≡ counted h
  counted-same = λ j. map plus_of (queue j) ++ (map plus_of (messages_of (done j)) ++ extra j)

  there-same : new.flow.queue ++ messages_of new.done ≡ h.flow.queue ++ messages_of h.done
  there-same = λ j. queue j ++ messages_of (done j)

  its : (p : ℕ) (part : Part Message S) (s : S) → r.order.receiver l.message ≡ p → IsMember r V (x.opening p) p part s h → IsMember r V (x.opening p) p (delivered l part) s new
  its p part s e k = record {
    state = k.state;
    done = ap (done_events_at r.order p) done ∙ k.done;
    values = k.values;
    counts = λ y. k.counts y ∙ ap (λ z. signed_count r.order y (received_by r.order p z)) (sym counted-same);
    tray = ap (λ z. z ++ l ∷ []) k.tray ∙ (ap (λ z. received_by r.order p h.flow.tray ++ z) (sym (received-first r.order p l [] e)) ∙
        (sym (received-append r.order p h.flow.tray (l ∷ [])) ∙ ap (received_by r.order p) (sym tray)));
    outbox = k.outbox;
    rows = ap (λ z. rows_at p z.all) rows ∙ k.rows;
    well = delivered-well r (λ z. ⊤) (x.opening p) l part k.well;
  }

  others : (p : ℕ) (part : Part Message S) (s : S) → (r.order.receiver l.message ≡ p → ⊥) → IsMember r V (x.opening p) p part s h → IsMember r V (x.opening p) p part s new
  others p part s n k = record {
    state = k.state;
    done = ap (done_events_at r.order p) done ∙ k.done;
    values = k.values;
    counts = λ y. k.counts y ∙ ap (λ z. signed_count r.order y (received_by r.order p z)) (sym counted-same);
    tray = k.tray ∙ (sym (append-nil (received_by r.order p h.flow.tray)) ∙ (ap (λ z. received_by r.order p h.flow.tray ++ z) (sym (received-skip r.order p l [] n)) ∙
        (sym (received-append r.order p h.flow.tray (l ∷ [])) ∙ ap (received_by r.order p) (sym tray))));
    outbox = k.outbox;
    rows = ap (λ z. rows_at p z.all) rows ∙ k.rows;
    well = k.well;
  }

  -- whatever is on its way now
  pub stands-taken : (sent left : List Letter) (mail : ℕ → List Letter) → ((q : ℕ) → mail q ≡ received_by r.order q (new.flow.abroad ++ left)) →
      All (λ m. is_ours h.members (r.order.receiver m.message) ≡ false) new.flow.abroad → StandsForSent r V x v h sent →
      StandsForSent r V x (with_tray (r.order.receiver l.message) (r.order.time l.message) l mail v) new left
  stands-taken sent left mail goes elsewhere g = record {
    count = ap length members ∙ g.count;
    members = λ q s e. put_elim (λ z part. slice_get new.members z ≡ Some (Some s) → IsMember r V (x.opening z) z part s new) (r.order.receiver l.message)
        (delivered l (v.parts (r.order.receiver l.message))) v.parts
        (λ i. its (r.order.receiver l.message) (v.parts (r.order.receiver l.message)) s refl (g.members (r.order.receiver l.message) s (there (r.order.receiver l.message) s i)))
        (λ z n i. others z (v.parts z) s (λ k. n (sym k)) (g.members z s (there z s i))) q e;
    mail = goes;
    elsewhere = subst (λ ms. All (λ m. is_ours ms (r.order.receiver m.message) ≡ false) new.flow.abroad) (sym members) elsewhere;
    tray_home = subst (λ ms. All (λ m. is_ours ms (r.order.receiver m.message) ≡ true) new.flow.tray) (sym members)
        (subst (λ ls. All (λ m. is_ours h.members (r.order.receiver m.message) ≡ true) ls) (sym tray)
        (All-push (λ m. is_ours h.members (r.order.receiver m.message) ≡ true) h.flow.tray l g.tray_home ours));
    tray_in_time = subst (λ ls. All (λ m. r.order.time m.message ≤ x.until) ls) (sym tray) (All-push (λ m. r.order.time m.message ≤ x.until) h.flow.tray l g.tray_in_time soon);
    home = λ m n. ap (λ z. is_ours z (r.order.receiver m)) members ∙ g.home m (subst (λ z. IsIn r.order m z) there-same n);
    in_time = λ m n. g.in_time m (subst (λ z. IsIn r.order m z) there-same n);
    beside = λ m. record {
      more = λ i. subst (λ qs. 0 < times_in r.order m (qs ++ messages_of new.done)) (sym queue)
          (subst (λ ds. 0 < times_in r.order m (h.flow.queue ++ messages_of ds)) (sym done)
          ((g.beside m).more (subst (λ es. minuses r.order m es < pluses r.order m es) extra i)));
      less = λ i. subst (λ qs. times_in r.order m (qs ++ messages_of new.done) ≡ 0) (sym queue)
          (subst (λ ds. times_in r.order m (h.flow.queue ++ messages_of ds) ≡ 0) (sym done)
          ((g.beside m).less (subst (λ es. pluses r.order m es < minuses r.order m es) extra i)));
    };
    ascending = subst (λ ds. IsAscending r.order (messages_of ds)) (sym done) g.ascending;
    settled = put_elim₂ (λ q a b. is_ours new.members q ≡ true → a ≡ floor_of r.order x.until b) (r.order.receiver l.message) (min (r.order.time l.message) (v.floors (r.order.receiver l.message)))
        (delivered l (v.parts (r.order.receiver l.message))) v.floors v.parts
        (λ i. ap (λ n. min (r.order.time l.message) n) (g.settled (r.order.receiver l.message) ours) ∙ sym (floor-delivered r.order x.until l (v.parts (r.order.receiver l.message))))
        (λ q n i. g.settled q (ap (λ z. is_ours z q) (sym members) ∙ i));
  }
    where
      there : (q : ℕ) (s : S) → slice_get new.members q ≡ Some (Some s) → slice_get h.members q ≡ Some (Some s)
      there q s e = ap (λ z. slice_get z q) (sym members) ∙ e

  -- the first letter that was posted
  module _ (abroad : new.flow.abroad ≡ h.flow.abroad) (rest : List Letter) (g : StandsForSent r V x v h (l ∷ rest)) where
    mail-at : v.mail (r.order.receiver l.message) ≡ l ∷ received_by r.order (r.order.receiver l.message) rest
    mail-at = g.mail (r.order.receiver l.message) ∙ received-sent r.order h.members h.flow.abroad rest l ours g.elsewhere

    pub taken-steps : AreDone (simulation_of r x) (Take (r.order.receiver l.message) 0 ∷ []) v
    taken-steps =
        let at = held-is (slice_get h.members (r.order.receiver l.message)) ours in
        let i = slice_get_within h.members (r.order.receiver l.message) (Some at.0) at.1 in
        let c = g.count in
        (can-take (simulation_of r x) (r.order.receiver l.message) l (received_by r.order (r.order.receiver l.message) rest) v (omega arith) mail-at, tt)

    pub was-taken : StandsForSent r V x (done_by (simulation_of r x) (Take (r.order.receiver l.message) 0 ∷ []) v) new rest
    was-taken = subst (λ w. StandsForSent r V x w new rest) (sym (takes (simulation_of r x) (r.order.receiver l.message) l (received_by r.order (r.order.receiver l.message) rest) v mail-at))
        (stands-taken (l ∷ rest) rest (put (r.order.receiver l.message) (received_by r.order (r.order.receiver l.message) rest) v.mail)
        (put_elim (λ z ls. ls ≡ received_by r.order z (new.flow.abroad ++ rest)) (r.order.receiver l.message) (received_by r.order (r.order.receiver l.message) rest) v.mail
        (received-rest r.order h.members (r.order.receiver l.message) h.flow.abroad rest ours g.elsewhere ∙ ap (λ z. received_by r.order (r.order.receiver l.message) (z ++ rest)) (sym abroad))
        (λ q n. g.mail q ∙ (received-other r.order q h.flow.abroad rest l (λ k. n (sym k)) ∙ ap (λ z. received_by r.order q (z ++ rest)) (sym abroad))))
        (subst (λ ls. All (λ m. is_ours h.members (r.order.receiver m.message) ≡ false) ls) (sym abroad) g.elsewhere) g)
