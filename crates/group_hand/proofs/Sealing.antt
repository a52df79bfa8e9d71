-- The oldest done event of a group is committed.
use Rattle.std.proofs.Common.{◌≡◌, ℕ, ◌+◌, ◌<◌, ◌≤◌, ◌⊎◌, inl, inr, true, false, cond, List, [], ◌∷◌, ◌++◌, length, Some, All, pos, ◌&&◌, refl, sym, ap, ◌∙◌, subst, arith, slice_get, append-nil, lt-ltb, eq-eqb, ne_eqb}
use Rattle.std.specs.Bool.{⊤}
use Rattle.std.proofs.lemmas.Int.{ints}
use Rattle.std.proofs.lemmas.Option.{slice_get_within}
use Rattle.std.proofs.lemmas.List.Elements.{filter-append}
use Rattle.vlink.specs.declared.message.Message.{Message}
use Rattle.vlink.specs.declared.note.Note.{Note}
use Rattle.vlink.specs.Letters.{Letter}
use Rattle.virtual_time.specs.Law.{Rules, IsOrder, World, IsIn, times_in, one_if, same, plus_of, minus_of, pluses, minuses, received_by, floor_of, reached, rowed, rows_of, rows_at, IsAscending, IsWell, commit_oldest, oldest_committed, can_commit, is_early, with_part, is_enabled, effect, AreDone, done_by}
use Rattle.virtual_time.specs.declared.step.Step.TheVariants.{Commit}
use Rattle.virtual_time.proofs.Kept.{put_elim}
use Rattle.virtual_time.proofs.Order.{same_cases}
use Rattle.virtual_time.proofs.Lists.{times-append, in-head}
use Rattle.virtual_time.proofs.Ascending.{ascending-once}
use Rattle.virtual_time.proofs.Letters.{received-mine}
use Rattle.virtual_time.proofs.Handling.{reached-append, rowed-append}
use Rattle.virtual_time.proofs.WellCommit.{commit-well}
use Rattle.virtual_time.proofs.Settled.{floor-committed}
use Rattle.reverse.specs.Setting.{Setting, simulation_of}
use Rattle.antimessages.specs.Counting.{HaveSameCounts, signed_count}
use Rattle.antimessages.proofs.Agreeing.{same_counts-cons}
use Rattle.reverse.specs.Rules.{AreValues}
use Rattle.group_queues.specs.DoneEvents.{DoneEvent, done_event_of, done_events_at, done_events_of, messages_of}
use Rattle.group_hand.specs.Hands.{Held, IsMember, StandsForSent, counted, is_ours}
use Rattle.group_hand.proofs.Member.{all-pluses, all-minuses}
use Rattle.group_hand.proofs.Running.{received-same}
use Rattle.group_hand.proofs.Going.{held-is, received-first, received-skip}

module _ {S K : Type 0} (r : Rules Message S K Note) (O : IsOrder r.order) (V : S → Message → Type 0) where
  -- a letter and its antimessage count nothing
  both-cancel : (y m : Message) (ls : List Letter) → signed_count r.order y (plus_of m ∷ minus_of m ∷ ls) ≡ signed_count r.order y ls
  both-cancel y m ls = omega (arith, ints)

  -- the first of the events of a member
  first-done : (base : S) (ds : List Message) (d : DoneEvent K) (es : List (DoneEvent K)) → d ∷ es ≡ done_events_of r base ds →
      (later : List Message) × (ds ≡ d.message ∷ later) × (d ≡ done_event_of r base d.message) × (es ≡ done_events_of r (r.after base d.message) later)
  first-done base [] d es e = cc
  first-done base (m ∷ ms) d es e =
      let a : d ≡ done_event_of r base m = cc in
      let b : es ≡ done_events_of r (r.after base m) ms = cc in
      let c : d.message ≡ m = ap (λ z. z.message) a in
      (ms, ap (λ z. z ∷ ms) (sym c), a ∙ ap (done_event_of r base) (sym c), b ∙ ap (λ z. done_events_of r (r.after base z) ms) (sym c))

  rows-mine : (p : ℕ) (m : Message) (notes : List Note) → r.order.receiver m ≡ p → rows_at p (rows_of r.order m notes) ≡ rows_of r.order m notes
  rows-mine p m [] e = refl
  rows-mine p m (n ∷ ns) e =
      ap (λ b. cond b (record { message = m; place = r.order.receiver m; note = n } ∷ rows_at p (rows_of r.order m ns)) (rows_at p (rows_of r.order m ns))) (eq-eqb (r.order.receiver m) p e) ∙
      ap (λ z. record { message = m; place = r.order.receiver m; note = n } ∷ z) (rows-mine p m ns e)

  rows-others : (p : ℕ) (m : Message) (notes : List Note) → (r.order.receiver m ≡ p → ⊥) → rows_at p (rows_of r.order m notes) ≡ []
  rows-others p m [] n = refl
  rows-others p m (k ∷ ks) n =
      ap (λ b. cond b (record { message = m; place = r.order.receiver m; note = k } ∷ rows_at p (rows_of r.order m ks)) (rows_at p (rows_of r.order m ks))) (ne_eqb (r.order.receiver m) p n) ∙
      rows-others p m ks n

  module _ (law : (s : S) (e : Message) → r.undo (r.after s e) e (r.kept s e) ≡ s) (x : Setting S) (v : World Message S) (h new : Held S K) (d : DoneEvent K) (rest : List (DoneEvent K))
      (members : new.members ≡ h.members) (done : h.done ≡ d ∷ rest) (left : new.done ≡ rest) (rows : new.rows.all ≡ h.rows.all ++ d.rows) (queue : new.flow.queue ≡ h.flow.queue)
      (extra : new.flow.extra ≡ h.flow.extra) (tray : new.flow.tray ≡ h.flow.tray) (abroad : new.flow.abroad ≡ h.flow.abroad)
      (none : times_in r.order d.message h.flow.queue ≡ 0) (zero : signed_count r.order d.message h.flow.extra ≡ pos 0) (early : r.order.time d.message < v.gvt)
      (g : StandsForSent r V x v h []) where
    done-first : times_in r.order d.message (messages_of h.done) ≡ 1
    done-first =
        let a = ap (λ z. times_in r.order d.message (messages_of z)) done in
        let b = in-head r.order O d.message (messages_of rest) in
        let c = ascending-once r.order O d.message (messages_of h.done) g.ascending in
        omega arith

    zero-counts : pluses r.order d.message h.flow.extra ≡ minuses r.order d.message h.flow.extra
    zero-counts = let z = zero in omega (arith, ints)

    is-there : IsIn r.order d.message (h.flow.queue ++ messages_of h.done)
    is-there =
        let b = times-append r.order O d.message h.flow.queue (messages_of h.done) in
        let c = done-first in
        omega arith

    pub is-ours : is_ours h.members (r.order.receiver d.message) ≡ true
    is-ours = g.home d.message is-there

    at : (s : S) × (slice_get h.members (r.order.receiver d.message) ≡ Some (Some s))
    at = held-is (slice_get h.members (r.order.receiver d.message)) is-ours

    its : IsMember r V (x.opening (r.order.receiver d.message)) (r.order.receiver d.message) (v.parts (r.order.receiver d.message)) at.0 h
    its = g.members (r.order.receiver d.message) at.0 at.1

    base : S
    base = reached r (x.opening (r.order.receiver d.message)) (v.parts (r.order.receiver d.message)).committed

    first : (later : List Message) × ((v.parts (r.order.receiver d.message)).done ≡ d.message ∷ later) × (d ≡ done_event_of r base d.message) × (done_events_at r.order (r.order.receiver d.message) rest ≡ done_events_of r (r.after base d.message) later)
    unfolding base
    first =
        first-done (reached r (x.opening (r.order.receiver d.message)) (v.parts (r.order.receiver d.message)).committed) (v.parts (r.order.receiver d.message)).done d (done_events_at r.order (r.order.receiver d.message) rest)
        (sym (ap (λ b. cond b (d ∷ done_events_at r.order (r.order.receiver d.message) rest) (done_events_at r.order (r.order.receiver d.message) rest)) (eq-eqb (r.order.receiver d.message) (r.order.receiver d.message) refl)) ∙
        (ap (done_events_at r.order (r.order.receiver d.message)) (sym done) ∙ its.done))

    once : pluses r.order d.message (v.parts (r.order.receiver d.message)).tally ≡ minuses r.order d.message (v.parts (r.order.receiver d.message)).tally + 1
    once =
        let a = its.counts d.message in
        let b = received-mine r.order O (r.order.receiver d.message) d.message refl (counted h) in
        let b0 = b.0 in let b1 = b.1 in
        let c = all-pluses r O V d.message h in
        let e = all-minuses r O V d.message h in
        let i = times-append r.order O d.message h.flow.queue (messages_of h.done) in
        let j = done-first in
        let k = zero-counts in
        omega (arith, ints)

    within : r.order.receiver d.message < x.processes
    within = let a = slice_get_within h.members (r.order.receiver d.message) (Some at.0) at.1 in let b = g.count in omega arith

    can : can_commit r.order (v.parts (r.order.receiver d.message)) (v.parts (r.order.receiver d.message)).done ≡ true
    can = ap (can_commit r.order (v.parts (r.order.receiver d.message))) first.1 ∙ eq-eqb _ _ once

    pub sealed-steps : AreDone (simulation_of r x) (Commit (r.order.receiver d.message) ∷ []) v
    unfolding is_enabled
    sealed-steps = (rw (lt-ltb (r.order.receiver d.message) x.processes within) (rw can (ap (λ b. b && true) (ap (is_early (simulation_of r x) v.gvt) first.1 ∙ lt-ltb (r.order.time d.message) v.gvt early))), tt)

    is-oldest : commit_oldest r (v.parts (r.order.receiver d.message)) ≡ oldest_committed r (v.parts (r.order.receiver d.message)) (d.message ∷ first.0)
    is-oldest =
        ap (λ b. cond b (oldest_committed r (v.parts (r.order.receiver d.message)) (v.parts (r.order.receiver d.message)).done) (v.parts (r.order.receiver d.message))) can ∙
        ap (oldest_committed r (v.parts (r.order.receiver d.message))) first.1

    plus-more : (y : Message) → pluses r.order y (counted h) ≡ one_if (same r.order y d.message) + pluses r.order y (counted new)
    plus-more y =
        let a = all-pluses r O V y h in
        let b = all-pluses r O V y new in
        let c = times-append r.order O y h.flow.queue (messages_of h.done) in
        let e = times-append r.order O y new.flow.queue (messages_of new.done) in
        let i = ap (λ z. times_in r.order y (messages_of z)) done in
        let j = ap (λ z. times_in r.order y (messages_of z)) left in
        let k = ap (times_in r.order y) queue in
        let l = ap (pluses r.order y) extra in
        omega arith

    minus-same : (y : Message) → minuses r.order y (counted h) ≡ minuses r.order y (counted new)
    minus-same y =
        let a = all-minuses r O V y h in
        let b = all-minuses r O V y new in
        let l = ap (minuses r.order y) extra in
        omega arith

    member : IsMember r V (x.opening (r.order.receiver d.message)) (r.order.receiver d.message) (oldest_committed r (v.parts (r.order.receiver d.message)) (d.message ∷ first.0)) at.0 new
    unfolding base
    member = record {
      state = its.state;
      done = ap (done_events_at r.order (r.order.receiver d.message)) left ∙ (first.3 ∙ ap (λ z. done_events_of r z first.0) (sym further));
      values = subst (λ z. AreValues r V z first.0) (sym further)
          (let a = subst (λ z. AreValues r V (reached r (x.opening (r.order.receiver d.message)) (v.parts (r.order.receiver d.message)).committed) z) first.1 its.values in a.1);
      counts = counts;
      tray = its.tray ∙ ap (received_by r.order (r.order.receiver d.message)) (sym tray);
      outbox = its.outbox;
      rows = ap (rows_at (r.order.receiver d.message)) rows ∙ (filter-append _ h.rows.all d.rows ∙
          (ap (λ z. z ++ rows_at (r.order.receiver d.message) d.rows) its.rows ∙
          (ap (λ z. rowed r (x.opening (r.order.receiver d.message)) (v.parts (r.order.receiver d.message)).committed ++ rows_at (r.order.receiver d.message) z) (ap (λ z. z.rows) first.2) ∙
          (ap (λ z. rowed r (x.opening (r.order.receiver d.message)) (v.parts (r.order.receiver d.message)).committed ++ z)
          (rows-mine (r.order.receiver d.message) d.message (r.notes (reached r (x.opening (r.order.receiver d.message)) (v.parts (r.order.receiver d.message)).committed) d.message) refl ∙ sym (append-nil _)) ∙
          sym (rowed-append r (x.opening (r.order.receiver d.message)) (v.parts (r.order.receiver d.message)).committed (d.message ∷ []))))));
      well = subst (IsWell r (λ z. ⊤) (x.opening (r.order.receiver d.message))) is-oldest
          (commit-well r O (λ z. ⊤) (λ z y i. law z y) (x.opening (r.order.receiver d.message)) (v.parts (r.order.receiver d.message)) its.well).well;
    }
      where
        further : reached r (x.opening (r.order.receiver d.message)) ((v.parts (r.order.receiver d.message)).committed ++ d.message ∷ [])
            ≡ r.after (reached r (x.opening (r.order.receiver d.message)) (v.parts (r.order.receiver d.message)).committed) d.message
        further = reached-append r (x.opening (r.order.receiver d.message)) (v.parts (r.order.receiver d.message)).committed (d.message ∷ [])

        counts : HaveSameCounts r.order (minus_of d.message ∷ (v.parts (r.order.receiver d.message)).tally) (received_by r.order (r.order.receiver d.message) (counted new))
        counts y =
            same_counts-cons r.order (minus_of d.message) (v.parts (r.order.receiver d.message)).tally (received_by r.order (r.order.receiver d.message) (counted h)) its.counts y ∙
            (ap (signed_count r.order y) (sym (received-first r.order (r.order.receiver d.message) (minus_of d.message) (counted h) refl)) ∙
            (received-same r O V (r.order.receiver d.message) (minus_of d.message ∷ counted h) (plus_of d.message ∷ minus_of d.message ∷ counted new)
            (λ z. let a = plus-more z in omega arith) (λ z. let a = minus-same z in omega arith) y ∙
            (ap (signed_count r.order y) (received-first r.order (r.order.receiver d.message) (plus_of d.message) (minus_of d.message ∷ counted new) refl ∙
            ap (λ z. plus_of d.message ∷ z) (received-first r.order (r.order.receiver d.message) (minus_of d.message) (counted new) refl)) ∙
            both-cancel y d.message (received_by r.order (r.order.receiver d.message) (counted new)))))

    other : (q : ℕ) (s : S) → (r.order.receiver d.message ≡ q → ⊥) → IsMember r V (x.opening q) q (v.parts q) s h → IsMember r V (x.opening q) q (v.parts q) s new
    unfolding base
    other q s n k = record {
      state = k.state;
      done = ap (done_events_at r.order q) left ∙ (sym (ap (done_events_at r.order q) done ∙
          ap (λ b. cond b (d ∷ done_events_at r.order q rest) (done_events_at r.order q rest)) (ne_eqb (r.order.receiver d.message) q n)) ∙ k.done);
      values = k.values;
      counts = λ y. k.counts y ∙ (received-same r O V q (counted h) (plus_of d.message ∷ counted new) (λ z. let a = plus-more z in omega arith) (λ z. let a = minus-same z in omega arith) y ∙
          ap (signed_count r.order y) (received-skip r.order q (plus_of d.message) (counted new) n));
      tray = k.tray ∙ ap (received_by r.order q) (sym tray);
      outbox = k.outbox;
      rows = ap (rows_at q) rows ∙ (filter-append _ h.rows.all d.rows ∙
          (ap (λ z. rows_at q h.rows.all ++ rows_at q z) (ap (λ z. z.rows) first.2) ∙
          (ap (λ z. rows_at q h.rows.all ++ z) (rows-others q d.message (r.notes (reached r (x.opening (r.order.receiver d.message)) (v.parts (r.order.receiver d.message)).committed) d.message) n) ∙
          (append-nil (rows_at q h.rows.all) ∙ k.rows))));
      well = k.well;
    }

    pub sealed : StandsForSent r V x (done_by (simulation_of r x) (Commit (r.order.receiver d.message) ∷ []) v) new []
    unfolding effect
    sealed = subst (λ part. StandsForSent r V x (with_part (simulation_of r x) (r.order.receiver d.message) part v) new []) (sym is-oldest) stands
      where
        there : (q : ℕ) (s : S) → slice_get new.members q ≡ Some (Some s) → slice_get h.members q ≡ Some (Some s)
        there q s e = ap (λ z. slice_get z q) (sym members) ∙ e

        there-was : (y : Message) → IsIn r.order y (new.flow.queue ++ messages_of new.done) → IsIn r.order y (h.flow.queue ++ messages_of h.done)
        there-was y n =
            let c = times-append r.order O y h.flow.queue (messages_of h.done) in let e = times-append r.order O y new.flow.queue (messages_of new.done) in
            let j = ap (λ z. times_in r.order y (messages_of z)) done in let k = ap (λ z. times_in r.order y (messages_of z)) left in
            let q = ap (times_in r.order y) queue in omega arith

        stands : StandsForSent r V x (with_part (simulation_of r x) (r.order.receiver d.message) (oldest_committed r (v.parts (r.order.receiver d.message)) (d.message ∷ first.0)) v) new []
        stands = record {
          count = ap length members ∙ g.count;
          members = λ q s e. put_elim (λ z part. slice_get new.members z ≡ Some (Some s) → IsMember r V (x.opening z) z part s new) (r.order.receiver d.message)
              (oldest_committed r (v.parts (r.order.receiver d.message)) (d.message ∷ first.0)) v.parts
              (λ i. subst (λ u. IsMember r V (x.opening (r.order.receiver d.message)) (r.order.receiver d.message) (oldest_committed r (v.parts (r.order.receiver d.message)) (d.message ∷ first.0)) u new)
              (let a = at.1 in let b = there (r.order.receiver d.message) s i in let w : at.0 ≡ s = cc in w) member)
              (λ z n i. other z s (λ k. n (sym k)) (g.members z s (there z s i))) q e;
          mail = λ q. g.mail q ∙ ap (λ z. received_by r.order q (z ++ [])) (sym abroad);
          elsewhere = subst (λ ms. All (λ l. is_ours ms (r.order.receiver l.message) ≡ false) new.flow.abroad) (sym members)
              (subst (λ ls. All (λ l. is_ours h.members (r.order.receiver l.message) ≡ false) ls) (sym abroad) g.elsewhere);
          tray_home = subst (λ ms. All (λ l. is_ours ms (r.order.receiver l.message) ≡ true) new.flow.tray) (sym members)
              (subst (λ ls. All (λ l. is_ours h.members (r.order.receiver l.message) ≡ true) ls) (sym tray) g.tray_home);
          tray_in_time = subst (λ ls. All (λ l. r.order.time l.message ≤ x.until) ls) (sym tray) g.tray_in_time;
          home = λ y n. ap (λ z. is_ours z (r.order.receiver y)) members ∙ g.home y (there-was y n);
          in_time = λ y n. g.in_time y (there-was y n);
          beside = λ y. record { more = λ l. more y l (same_cases r.order O y d.message); less = λ l. less y l };
          ascending = subst (λ ds. IsAscending r.order (messages_of ds)) (sym left) (let a = subst (λ ds. IsAscending r.order (messages_of ds)) done g.ascending in a.1);
          settled = λ q t. g.settled q (ap (λ z. is_ours z q) (sym members) ∙ t) ∙
              put_elim (λ z part. floor_of r.order x.until (v.parts z) ≡ floor_of r.order x.until part) (r.order.receiver d.message) (oldest_committed r (v.parts (r.order.receiver d.message)) (d.message ∷ first.0)) v.parts
              (sym (floor-committed r.order O r refl x.until (v.parts (r.order.receiver d.message)) d.message first.0 first.1 once)) (λ z n. refl) q;
        }
          where
            more : (y : Message) → minuses r.order y new.flow.extra < pluses r.order y new.flow.extra → (y ≡ d.message) ⊎ (same r.order y d.message ≡ false) →
                0 < times_in r.order y (new.flow.queue ++ messages_of new.done)
            more y l (inl e) =
                absurd (let z : signed_count r.order y h.flow.extra ≡ pos 0 = subst (λ w. signed_count r.order w h.flow.extra ≡ pos 0) (sym e) zero in
                let a = ap (pluses r.order y) extra in let b = ap (minuses r.order y) extra in omega (arith, ints))
            more y l (inr n) =
                let a = ap (pluses r.order y) extra in let b = ap (minuses r.order y) extra in let i = (g.beside y).more (omega arith) in
                let c = times-append r.order O y h.flow.queue (messages_of h.done) in let e = times-append r.order O y new.flow.queue (messages_of new.done) in
                let j = ap (λ z. times_in r.order y (messages_of z)) done in let k = ap (λ z. times_in r.order y (messages_of z)) left in
                let q = ap (times_in r.order y) queue in let u = ap one_if n in omega arith

            less : (y : Message) → pluses r.order y new.flow.extra < minuses r.order y new.flow.extra → times_in r.order y (new.flow.queue ++ messages_of new.done) ≡ 0
            less y l =
                let a = ap (pluses r.order y) extra in let b = ap (minuses r.order y) extra in let i = (g.beside y).less (omega arith) in
                let c = times-append r.order O y h.flow.queue (messages_of h.done) in let e = times-append r.order O y new.flow.queue (messages_of new.done) in
                let j = ap (λ z. times_in r.order y (messages_of z)) done in let k = ap (λ z. times_in r.order y (messages_of z)) left in
                let q = ap (times_in r.order y) queue in omega arith
