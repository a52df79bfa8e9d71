-- A letter that was posted goes on: to the letters for others, to the queue at once, or to the tray.
use Rattle.std.proofs.Common.{◌≡◌, ℕ, ◌+◌, ◌<◌, ◌≤◌, ◌==◌, ◌⊎◌, inl, inr, min, Bool, true, false, cond, List, [], ◌∷◌, ◌++◌, length, Option, Some, None, All, pos, refl, sym, ap, ◌∙◌, subst, arith, eq-eqb, ne_eqb, slice_get}
use Rattle.std.proofs.lemmas.Bool.{cases_lt, both_ways}
use Rattle.std.proofs.lemmas.Int.{ints}
use Rattle.std.proofs.lemmas.Option.{slice_get_within}
use Rattle.std.proofs.lemmas.List.Elements.{All-head, All-tail}
use Rattle.vlink.specs.declared.message.Message.{Message}
use Rattle.vlink.specs.declared.note.Note.{Note}
use Rattle.vlink.specs.Letters.{Letter}
use Rattle.virtual_time.specs.Law.{Rules, Order, IsOrder, Laws, World, Part, IsIn, times_in, one_if, same, plus_of, pluses, minuses, received_by, floor_of, rows_at, IsAscending, tallied, AreDone, done_by}
use Rattle.virtual_time.specs.declared.step.Step.TheVariants.{Take, Arrive}
use Rattle.virtual_time.proofs.Kept.{put_elim, put_elim₂}
use Rattle.virtual_time.proofs.Order.{same_cases, less-irrefl}
use Rattle.virtual_time.proofs.Lists.{times-append, times-none}
use Rattle.virtual_time.proofs.Letters.{received-mine}
use Rattle.virtual_time.proofs.HomeLetters.{comes-home, home_after, plain-enabled, floor-tallied}
use Rattle.virtual_time.proofs.Settled.{floor-again}
use Rattle.reverse.specs.Setting.{Setting, simulation_of}
use Rattle.antimessages.specs.Counting.{signed_count}
use Rattle.group_queues.specs.DoneEvents.{DoneEvent, done_events_at, messages_of}
use Rattle.group_hand.specs.Hands.{Held, IsMember, StandsForSent, counted, is_held, is_ours}
use Rattle.group_hand.proofs.Member.{messages-of, present-here, all-pluses, all-minuses}
use Rattle.group_hand.proofs.Running.{received-same}
use Rattle.group_hand.proofs.Coming.{came-member, came-other}

pub held-is : {S : Type 0} (o : Option (Option S)) → is_held o ≡ true → (s : S) × (o ≡ Some (Some s))
held-is (Some (Some s)) e = (s, refl)
held-is (Some None) e = absurd (both_ways false refl e)
held-is None e = absurd (both_ways false refl e)

module _ (o : Order Message) where
  pub received-append : (q : ℕ) (xs ys : List Letter) → received_by o q (xs ++ ys) ≡ received_by o q xs ++ received_by o q ys
  received-append q [] ys = refl
  received-append q (l ∷ xs) ys = go (o.receiver l.message == q) (received-append q xs ys)
    where
      go : (b : Bool) → received_by o q (xs ++ ys) ≡ received_by o q xs ++ received_by o q ys →
          cond b (l ∷ received_by o q (xs ++ ys)) (received_by o q (xs ++ ys)) ≡ cond b (l ∷ received_by o q xs) (received_by o q xs) ++ received_by o q ys
      go true e = ap (λ z. l ∷ z) e
      go false e = e

  pub received-first : (q : ℕ) (l : Letter) (ls : List Letter) → o.receiver l.message ≡ q → received_by o q (l ∷ ls) ≡ l ∷ received_by o q ls
  received-first q l ls e = ap (λ b. cond b (l ∷ received_by o q ls) (received_by o q ls)) (eq-eqb (o.receiver l.message) q e)

  pub received-skip : (q : ℕ) (l : Letter) (ls : List Letter) → (o.receiver l.message ≡ q → ⊥) → received_by o q (l ∷ ls) ≡ received_by o q ls
  received-skip q l ls n = ap (λ b. cond b (l ∷ received_by o q ls) (received_by o q ls)) (ne_eqb (o.receiver l.message) q n)

  -- letters for others are not for a member
  pub received-none : {S : Type 0} (members : List (Option S)) (q : ℕ) (ls : List Letter) → is_ours members q ≡ true →
      All (λ l. is_ours members (o.receiver l.message) ≡ false) ls → received_by o q ls ≡ []
  received-none members q [] t a = refl
  received-none members q (l ∷ ls) t a =
      received-skip q l ls (λ e. both_ways (is_ours members q) (subst (λ z. is_ours members z ≡ false) e (All-head (λ l. is_ours members (o.receiver l.message) ≡ false) l ls a)) t) ∙
      received-none members q ls t (All-tail (λ l. is_ours members (o.receiver l.message) ≡ false) l ls a)

  -- the first letter that was posted, of those for its receiver
  pub received-sent : {S : Type 0} (members : List (Option S)) (abroad rest : List Letter) (l : Letter) → is_ours members (o.receiver l.message) ≡ true →
      All (λ l. is_ours members (o.receiver l.message) ≡ false) abroad →
      received_by o (o.receiver l.message) (abroad ++ l ∷ rest) ≡ l ∷ received_by o (o.receiver l.message) rest
  received-sent members abroad rest l t a =
      received-append (o.receiver l.message) abroad (l ∷ rest) ∙
      (ap (λ z. z ++ received_by o (o.receiver l.message) (l ∷ rest)) (received-none members (o.receiver l.message) abroad t a) ∙ received-first (o.receiver l.message) l rest refl)

  pub received-rest : {S : Type 0} (members : List (Option S)) (q : ℕ) (abroad rest : List Letter) → is_ours members q ≡ true →
      All (λ l. is_ours members (o.receiver l.message) ≡ false) abroad → received_by o q rest ≡ received_by o q (abroad ++ rest)
  received-rest members q abroad rest t a =
      sym (received-append q abroad rest ∙ ap (λ z. z ++ received_by o q rest) (received-none members q abroad t a))

  -- another process's letters
  pub received-other : (q : ℕ) (abroad rest : List Letter) (l : Letter) → (o.receiver l.message ≡ q → ⊥) → received_by o q (abroad ++ l ∷ rest) ≡ received_by o q (abroad ++ rest)
  received-other q abroad rest l n =
      received-append q abroad (l ∷ rest) ∙ (ap (λ z. received_by o q abroad ++ z) (received-skip q l rest n) ∙ sym (received-append q abroad rest))

module _ {S K : Type 0} (r : Rules Message S K Note) (O : IsOrder r.order) (V : S → Message → Type 0) where
  at-fewer : (p : ℕ) (y : Message) (ds : List (DoneEvent K)) → times_in r.order y (messages_of (done_events_at r.order p ds)) ≤ times_in r.order y (messages_of ds)
  at-fewer p y [] = omega arith
  at-fewer p y (d ∷ ds) = go (r.order.receiver d.message == p) (at-fewer p y ds)
    where
      go : (b : Bool) → times_in r.order y (messages_of (done_events_at r.order p ds)) ≤ times_in r.order y (messages_of ds) →
          times_in r.order y (messages_of (cond b (d ∷ done_events_at r.order p ds) (done_events_at r.order p ds))) ≤ one_if (same r.order y d.message) + times_in r.order y (messages_of ds)
      go true h = omega arith
      go false h = omega arith

  -- what a member has done the group has done
  pub done-in : (opening : S) (p : ℕ) (part : Part Message S) (s : S) (h : Held S K) → IsMember r V opening p part s h →
      (y : Message) → IsIn r.order y part.done → IsIn r.order y (messages_of h.done)
  done-in opening p part s h k y i =
      let a = ap (times_in r.order y) (sym (messages-of r O V _ part.done) ∙ ap messages_of (sym k.done)) in
      let b = at-fewer p y h.done in
      omega arith

  module _ (law : (s : S) (e : Message) → r.undo (r.after s e) e (r.kept s e) ≡ s) (x : Setting S) where
    -- the same messages wait, in whatever order and with whatever room, and other letters are for others
    pub stands-kept : (v : World Message S) (h new : Held S K) (sent left : List Letter) → new.members ≡ h.members → new.done ≡ h.done → new.rows.all ≡ h.rows.all →
        ((y : Message) → times_in r.order y new.flow.queue ≡ times_in r.order y h.flow.queue) → new.flow.extra ≡ h.flow.extra → new.flow.tray ≡ h.flow.tray →
        ((q : ℕ) → received_by r.order q (h.flow.abroad ++ sent) ≡ received_by r.order q (new.flow.abroad ++ left)) →
        All (λ l. is_ours h.members (r.order.receiver l.message) ≡ false) new.flow.abroad →
        StandsForSent r V x v h sent → StandsForSent r V x v new left
    stands-kept v h new sent left members done rows queue extra tray mail elsewhere g = record {
      count = ap length members ∙ g.count;
      members = λ p s e. let k = g.members p s (ap (λ z. slice_get z p) (sym members) ∙ e) in record {
        state = k.state;
        done = ap (done_events_at r.order p) done ∙ k.done;
        values = k.values;
        counts = λ y. k.counts y ∙ received-same r O V p (counted h) (counted new) (λ z. sym (plus-same z)) (λ z. sym (minus-same z)) y;
        tray = k.tray ∙ ap (received_by r.order p) (sym tray);
        outbox = k.outbox;
        rows = ap (λ z. rows_at p z) rows ∙ k.rows;
        well = k.well;
      };
      mail = λ q. g.mail q ∙ mail q;
      elsewhere = subst (λ ms. All (λ l. is_ours ms (r.order.receiver l.message) ≡ false) new.flow.abroad) (sym members) elsewhere;
      tray_home = subst (λ ms. All (λ l. is_ours ms (r.order.receiver l.message) ≡ true) new.flow.tray) (sym members)
          (subst (λ ls. All (λ l. is_ours h.members (r.order.receiver l.message) ≡ true) ls) (sym tray) g.tray_home);
      tray_in_time = subst (λ ls. All (λ l. r.order.time l.message ≤ x.until) ls) (sym tray) g.tray_in_time;
      home = λ m n. ap (λ z. is_ours z (r.order.receiver m)) members ∙ g.home m (let a = both-same m in omega arith);
      in_time = λ m n. g.in_time m (let a = both-same m in omega arith);
      beside = λ m. record {
        more = λ l. let a = both-same m in let e = extra-plus m in let k = extra-minus m in let i = (g.beside m).more (omega arith) in omega arith;
        less = λ l. let a = both-same m in let e = extra-plus m in let k = extra-minus m in let i = (g.beside m).less (omega arith) in omega arith;
      };
      ascending = subst (λ ds. IsAscending r.order (messages_of ds)) (sym done) g.ascending;
      settled = λ p t. g.settled p (ap (λ z. is_ours z p) (sym members) ∙ t);
    }
      where
        extra-plus : (m : Message) → pluses r.order m new.flow.extra ≡ pluses r.order m h.flow.extra
        extra-plus m = ap (pluses r.order m) extra

        extra-minus : (m : Message) → minuses r.order m new.flow.extra ≡ minuses r.order m h.flow.extra
        extra-minus m = ap (minuses r.order m) extra

        both-same : (m : Message) → times_in r.order m (new.flow.queue ++ messages_of new.done) ≡ times_in r.order m (h.flow.queue ++ messages_of h.done)
        both-same m =
            let a = times-append r.order O m new.flow.queue (messages_of new.done) in
            let b = times-append r.order O m h.flow.queue (messages_of h.done) in
            let c = queue m in
            let d = ap (λ z. times_in r.order m (messages_of z)) done in
            omega arith

        plus-same : (m : Message) → pluses r.order m (counted new) ≡ pluses r.order m (counted h)
        plus-same m = let a = all-pluses r O V m new in let b = all-pluses r O V m h in let c = both-same m in let e = extra-plus m in omega arith

        minus-same : (m : Message) → minuses r.order m (counted new) ≡ minuses r.order m (counted h)
        minus-same m = let a = all-minuses r O V m new in let b = all-minuses r O V m h in let e = extra-minus m in omega arith

    -- a message that was just sent to a member joins the queue, where no letter is to arrive before it, nothing of it counts beside, and it comes
    -- after all that the group has done
    module _ (L : Laws (simulation_of r x)) (v : World Message S) (h new : Held S K) (m : Message) (rest : List Letter)
        (members : new.members ≡ h.members) (done : new.done ≡ h.done) (rows : new.rows ≡ h.rows) (extra : new.flow.extra ≡ h.flow.extra) (tray : new.flow.tray ≡ h.flow.tray)
        (abroad : new.flow.abroad ≡ h.flow.abroad) (queue : (y : Message) → times_in r.order y new.flow.queue ≡ one_if (same r.order y m) + times_in r.order y h.flow.queue)
        (quiet : h.flow.tray ≡ []) (zero : signed_count r.order m h.flow.extra ≡ pos 0) (ours : is_ours h.members (r.order.receiver m) ≡ true)
        (before : (y : Message) → IsIn r.order y (messages_of h.done) → r.order.less y m ≡ true) (soon : r.order.time m ≤ x.until)
        (g : StandsForSent r V x v h (plus_of m ∷ rest)) where
      abbrev p : ℕ
      p = r.order.receiver m

      abbrev left : List Letter
      left = received_by r.order p rest

      at : (s : S) × (slice_get h.members p ≡ Some (Some s))
      at = held-is (slice_get h.members (r.order.receiver m)) ours

      its : IsMember r V (x.opening p) p (v.parts p) at.0 h
      its = g.members p at.0 at.1

      within : p < x.processes
      within = let a = slice_get_within h.members p (Some at.0) at.1 in let b = g.count in omega arith

      mail-at : v.mail p ≡ plus_of m ∷ left
      mail-at = g.mail (r.order.receiver m) ∙ received-sent r.order h.members h.flow.abroad rest (plus_of m) ours g.elsewhere

      tray-at : (v.parts p).tray ≡ []
      tray-at = its.tray ∙ ap (received_by r.order p) quiet

      before-at : (y : Message) → IsIn r.order y (v.parts p).done → r.order.less y m ≡ true
      before-at y i = before y (done-in (x.opening p) p (v.parts p) at.0 h its y i)

      not-done : times_in r.order m (v.parts p).done ≡ 0
      not-done = times-none r.order O m (v.parts p).done (λ i. less-irrefl r.order O m m (before-at m i) refl)

      after : World Message S
      after = home_after (simulation_of r x) O p (plus_of m) left v

      floor-at : min (r.order.time m) (v.floors p) ≡ floor_of r.order x.until (tallied r (plus_of m) [] (v.parts p))
      floor-at =
          ap (λ n. min (r.order.time m) n) (g.settled (r.order.receiver m) ours) ∙ sym (go (cases_lt 0 (times_in r.order m h.flow.queue)))
        where
          go : (0 < times_in r.order m h.flow.queue) ⊎ (times_in r.order m h.flow.queue ≤ 0) →
              floor_of r.order x.until (tallied r (plus_of m) [] (v.parts (r.order.receiver m))) ≡ min (r.order.time m) (floor_of r.order x.until (v.parts (r.order.receiver m)))
          go (inl some) =
              floor-again r.order O x.until m (v.parts (r.order.receiver m)) (tallied r (plus_of m) [] (v.parts (r.order.receiver m))) tray-at
              (present-here r O V (x.opening p) p (v.parts p) at.0 h g.beside its m refl (let a = times-append r.order O m h.flow.queue (messages_of h.done) in omega arith)) not-done refl refl refl
          go (inr none) =
              floor-tallied r.order O x.until m (v.parts (r.order.receiver m)) tray-at soon
              (let a = its.counts m in
              let b = received-mine r.order O (r.order.receiver m) m refl (counted h) in
              let b0 = b.0 in let b1 = b.1 in
              let c = all-pluses r O V m h in
              let d = all-minuses r O V m h in
              let e = times-append r.order O m h.flow.queue (messages_of h.done) in
              let i = times-none r.order O m (messages_of h.done) (λ j. less-irrefl r.order O m m (before m j) refl) in
              omega (arith, ints))
              not-done (tallied r (plus_of m) [] (v.parts (r.order.receiver m))) refl refl refl

      there-was : (y : Message) → IsIn r.order y (new.flow.queue ++ messages_of new.done) → (y ≡ m) ⊎ IsIn r.order y (h.flow.queue ++ messages_of h.done)
      there-was y n =
          elim (same_cases r.order O y m) [
            | inl e ↦ inl e
            | inr k ↦ inr (let a = times-append r.order O y h.flow.queue (messages_of h.done) in let b = times-append r.order O y new.flow.queue (messages_of new.done) in
                let c = queue y in let d = ap (λ z. times_in r.order y (messages_of z)) done in let e = ap one_if k in omega arith)
          ]

      pub came-steps : AreDone (simulation_of r x) (Take p 0 ∷ Arrive p ∷ []) v
      came-steps = plain-enabled (simulation_of r x) O p (plus_of m) left v within mail-at

      pub came-home : StandsForSent r V x (done_by (simulation_of r x) (Take p 0 ∷ Arrive p ∷ []) v) new rest
      came-home = subst (λ w. StandsForSent r V x w new rest) (sym (comes-home (simulation_of r x) O p (plus_of m) left v mail-at tray-at before-at)) stands
        where
          there : (q : ℕ) (s : S) → slice_get new.members q ≡ Some (Some s) → slice_get h.members q ≡ Some (Some s)
          there q s e = ap (λ z. slice_get z q) (sym members) ∙ e

          ours-then : (q : ℕ) → is_ours new.members q ≡ is_ours h.members q
          ours-then q = ap (λ z. is_ours z q) members

          stands : StandsForSent r V x (home_after (simulation_of r x) O p (plus_of m) left v) new rest
          stands = record {
            count = ap length members ∙ g.count;
            members = λ q s e. put_elim (λ z part. slice_get new.members z ≡ Some (Some s) → IsMember r V (x.opening z) z part s new) p (tallied r (plus_of m) [] (v.parts p)) v.parts
                (λ i. came-member r O V h new m queue done extra tray rows law (x.opening p) p (v.parts p) s refl tray-at before-at (g.members p s (there p s i)))
                (λ z n i. came-other r O V h new m queue done extra tray rows (x.opening z) z (v.parts z) s (λ k. n (sym k)) (g.members z s (there z s i))) q e;
            mail = put_elim (λ z ls. ls ≡ received_by r.order z (new.flow.abroad ++ rest)) p left v.mail
                (received-rest r.order h.members p h.flow.abroad rest ours g.elsewhere ∙ ap (λ z. received_by r.order p (z ++ rest)) (sym abroad))
                (λ q n. g.mail q ∙ (received-other r.order q h.flow.abroad rest (plus_of m) (λ k. n (sym k)) ∙ ap (λ z. received_by r.order q (z ++ rest)) (sym abroad)));
            elsewhere = subst (λ ms. All (λ l. is_ours ms (r.order.receiver l.message) ≡ false) new.flow.abroad) (sym members)
                (subst (λ ls. All (λ l. is_ours h.members (r.order.receiver l.message) ≡ false) ls) (sym abroad) g.elsewhere);
            tray_home = subst (λ ms. All (λ l. is_ours ms (r.order.receiver l.message) ≡ true) new.flow.tray) (sym members)
                (subst (λ ls. All (λ l. is_ours h.members (r.order.receiver l.message) ≡ true) ls) (sym tray) g.tray_home);
            tray_in_time = subst (λ ls. All (λ l. r.order.time l.message ≤ x.until) ls) (sym tray) g.tray_in_time;
            home = λ y n. ours-then (r.order.receiver y) ∙ home-was y (there-was y n);
            in_time = λ y n. time-was y (there-was y n);
            beside = λ y. record {
              more = λ l. let e = ap (pluses r.order y) extra in let k = ap (minuses r.order y) extra in let i = (g.beside y).more (omega arith) in
                  let a = times-append r.order O y h.flow.queue (messages_of h.done) in let b = times-append r.order O y new.flow.queue (messages_of new.done) in
                  let c = queue y in let d = ap (λ z. times_in r.order y (messages_of z)) done in omega arith;
              less = λ l. less-was y l (same_cases r.order O y m);
            };
            ascending = subst (λ ds. IsAscending r.order (messages_of ds)) (sym done) g.ascending;
            settled = put_elim₂ (λ q a b. is_ours new.members q ≡ true → a ≡ floor_of r.order x.until b) p (min (r.order.time m) (v.floors p)) (tallied r (plus_of m) [] (v.parts p)) v.floors v.parts
                (λ i. floor-at) (λ q n i. g.settled q (sym (ours-then q) ∙ i));
          }
            where
              home-was : (y : Message) → (y ≡ m) ⊎ IsIn r.order y (h.flow.queue ++ messages_of h.done) → is_ours h.members (r.order.receiver y) ≡ true
              home-was y (inl e) = ap (λ z. is_ours h.members (r.order.receiver z)) e ∙ ours
              home-was y (inr n) = g.home y n

              time-was : (y : Message) → (y ≡ m) ⊎ IsIn r.order y (h.flow.queue ++ messages_of h.done) → r.order.time y ≤ x.until
              time-was y (inl e) = subst (λ z. r.order.time z ≤ x.until) (sym e) soon
              time-was y (inr n) = g.in_time y n

              less-was : (y : Message) → pluses r.order y new.flow.extra < minuses r.order y new.flow.extra → (y ≡ m) ⊎ (same r.order y m ≡ false) →
                  times_in r.order y (new.flow.queue ++ messages_of new.done) ≡ 0
              less-was y l (inl e) =
                  absurd (let z : signed_count r.order y h.flow.extra ≡ pos 0 = subst (λ w. signed_count r.order w h.flow.extra ≡ pos 0) (sym e) zero in
                  let a = ap (pluses r.order y) extra in let b = ap (minuses r.order y) extra in omega (arith, ints))
              less-was y l (inr n) =
                  let a = ap (pluses r.order y) extra in let b = ap (minuses r.order y) extra in let i = (g.beside y).less (omega arith) in
                  let c = times-append r.order O y h.flow.queue (messages_of h.done) in let d = times-append r.order O y new.flow.queue (messages_of new.done) in
                  let e = queue y in let k = ap one_if n in let j = ap (λ z. times_in r.order y (messages_of z)) done in omega arith
