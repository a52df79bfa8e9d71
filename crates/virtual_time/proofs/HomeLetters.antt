-- What an event of a group does where nothing comes late: it is handled and posted, and each letter home is taken and tallied, and undoes nothing.
-- The floor of each process stays what it has in hand.
use Rattle.std.proofs.Common.{◌≡◌, ℕ, suc, ◌+◌, ◌<◌, ◌≤◌, ◌⊎◌, inl, inr, min, Bool, true, false, cond, nat_lt, List, [], ◌∷◌, ◌++◌, map, remove, Some, refl, sym, ap, ◌∙◌, subst, arith, slice_get, lt-ltb, length, length-append}
use Rattle.virtual_time.specs.Law.{Simulation, Rules, Order, IsOrder, put, same, IsIn, times_in, lowest, times_of, plus_of, pluses, minuses, IsPresent, received_by, Part, delivered, emptied, floor_of, unhandled, arrive, arrived, tallied, rolled_back, is_toggled, handled, next_of, World, taken, with_part, effect, done_by, is_enabled, step, AreDone}
use Rattle.virtual_time.specs.declared.letter.Letter.{Letter}
use Rattle.virtual_time.specs.declared.step.Step.TheVariants.{Take, Arrive, Run, Post}
use Rattle.virtual_time.proofs.Journal.{put_here, put_twice}
use Rattle.virtual_time.proofs.Lowest.{lowest-top, lowest-message, lowest-messages}
use Rattle.virtual_time.proofs.Order.{same_cases, same-refl}
use Rattle.virtual_time.proofs.Letters.{counts-other}
use Rattle.virtual_time.proofs.Presence.{unhandled-is, unhandled-from}
use Rattle.virtual_time.proofs.Rolling.{roll-none}

module _ {M S K N : Type 0} (r : Rules M S K N) (O : IsOrder r.order) (opening : S) where
  -- a letter that comes after all done events arrives and undoes nothing
  pub arrives-plain : (l : Letter M) (part : Part M S) → part.tray ≡ l ∷ [] →
      ((x : M) → IsIn r.order x part.done → r.order.less x l.message ≡ true) → arrive r opening part ≡ tallied r l [] part
  arrives-plain l part t h = ap (arrived r opening part) t ∙ go (is_toggled r.order l part.tally)
    where
      go : (b : Bool) → cond b (rolled_back r opening l.message (tallied r l [] part)) (tallied r l [] part) ≡ tallied r l [] part
      go true = roll-none r O opening (tallied r l [] part) l.message h
      go false = refl

module _ {M S K N : Type 0} (f : Simulation M S K N) (O : IsOrder f.rules.order) where
  -- the world in which q has tallied a letter of the group
  abbrev pub home_after : ℕ → Letter M → List (Letter M) → World M S → World M S
  home_after q l rest v =
      record {
        parts = put q (tallied f.rules l [] (v.parts q)) v.parts;
        mail = put q rest v.mail;
        floors = put q (min (f.rules.order.time l.message) (v.floors q)) v.floors;
        gvt = v.gvt;
      }

  abbrev took-home : ℕ → Letter M → List (Letter M) → World M S → World M S
  took-home q l rest v =
      record {
        parts = put q (delivered l (v.parts q)) v.parts;
        mail = put q rest v.mail;
        floors = put q (min (f.rules.order.time l.message) (v.floors q)) v.floors;
        gvt = v.gvt;
      }

  takes-home : (q : ℕ) (l : Letter M) (rest : List (Letter M)) (v : World M S) → v.mail q ≡ l ∷ rest → effect f (Take q 0) v ≡ took-home q l rest v
  unfolding effect
  takes-home q l rest v m =
      ap (λ z. taken f q 0 v (slice_get z 0)) m ∙
      (λ j. record {
        parts = put q (delivered l (v.parts q)) v.parts;
        mail = put q (remove (m j) 0) v.mail;
        floors = put q (min (f.rules.order.time l.message) (v.floors q)) v.floors;
        gvt = v.gvt;
      })

  -- a letter home that comes after all that its receiver has done: it is taken and tallied, and all else stays
  pub comes-home : (q : ℕ) (l : Letter M) (rest : List (Letter M)) (v : World M S) → v.mail q ≡ l ∷ rest → (v.parts q).tray ≡ [] →
      ((x : M) → IsIn f.rules.order x (v.parts q).done → f.rules.order.less x l.message ≡ true) →
      done_by f (Take q 0 ∷ Arrive q ∷ []) v ≡ home_after q l rest v
  unfolding effect
  comes-home q l rest v m t h =
      let taken-part : (took-home q l rest v).parts q ≡ delivered l (v.parts q) = put_here q (delivered l (v.parts q)) v.parts in
      let arrived-part : arrive f.rules (f.opening q) (delivered l (v.parts q)) ≡ tallied f.rules l [] (v.parts q) =
      arrives-plain f.rules O (f.opening q) l (delivered l (v.parts q)) (ap (λ z. z ++ l ∷ []) t) h in
      ap (effect f (Arrive q)) (takes-home q l rest v m) ∙
      (λ j. record {
        parts = (ap (λ z. put q (arrive f.rules (f.opening q) z) (took-home q l rest v).parts) taken-part ∙
            (put_twice q (delivered l (v.parts q)) (arrive f.rules (f.opening q) (delivered l (v.parts q))) v.parts ∙
            ap (λ z. put q z v.parts) arrived-part)) j;
        mail = put q rest v.mail;
        floors = put q (min (f.rules.order.time l.message) (v.floors q)) v.floors;
        gvt = v.gvt;
      })

  -- an event with its post: what was sent is in the mail, and the floor is what is left
  abbrev pub run_after : ℕ → M → World M S → World M S
  run_after q m v =
      record {
        parts = put q (emptied (handled f.rules (v.parts q) (Some m))) v.parts;
        mail = λ p. v.mail p ++ received_by f.rules.order p ((v.parts q).outbox ++ map plus_of (f.rules.sends (v.parts q).state m));
        floors = put q (floor_of f.rules.order f.until (emptied (handled f.rules (v.parts q) (Some m)))) v.floors;
        gvt = v.gvt;
      }

  pub runs-plain : (q : ℕ) (m : M) (v : World M S) → next_of f.rules.order (v.parts q) ≡ Some m → done_by f (Run q ∷ Post q ∷ []) v ≡ run_after q m v
  unfolding effect
  runs-plain q m v e =
      let part = handled f.rules (v.parts q) (Some m) in
      let here : put q part v.parts q ≡ part = put_here q part v.parts in
      ap (λ o. effect f (Post q) (with_part f q (handled f.rules (v.parts q) o) v)) e ∙
      (λ j. record {
        parts = (ap (λ z. put q (emptied z) (put q part v.parts)) here ∙ put_twice q part (emptied part) v.parts) j;
        mail = λ p. v.mail p ++ received_by f.rules.order p (here j).outbox;
        floors = put q (floor_of f.rules.order f.until (here j)) v.floors;
        gvt = v.gvt;
      })

module _ {M : Type 0} (order : Order M) (O : IsOrder order) where
  -- a message that was neither present nor done, and comes by one letter: what is in hand is as early as it, or as before
  pub floor-tallied : {S : Type 0} (until : ℕ) (m : M) (part : Part M S) → part.tray ≡ [] → order.time m ≤ until →
      pluses order m part.tally ≡ minuses order m part.tally → times_in order m part.done ≡ 0 →
      (new : Part M S) → new.tally ≡ plus_of m ∷ part.tally → new.done ≡ part.done → new.tray ≡ [] →
      floor_of order until new ≡ min (order.time m) (floor_of order until part)
  floor-tallied until m part t le c z new nt nd nr =
      ap (λ ls. lowest (lowest (suc until) (map order.time (unhandled order new.tally new.done))) (times_of order ls)) nr ∙
      (ap (λ ls. lowest (suc until) (map order.time (unhandled order ls new.done))) nt ∙
      (ap (λ ds. lowest (suc until) (map order.time (unhandled order (plus_of m ∷ part.tally) ds))) nd ∙
      (both ∙ sym (ap (λ ls. min (order.time m) (lowest (lowest (suc until) (map order.time (unhandled order part.tally part.done))) (times_of order ls))) t))))
    where
      same-self : same order m m ≡ true
      same-self = same-refl order O m

      counted : (x : M) → (x ≡ m) ⊎ ((pluses order x (plus_of m ∷ part.tally) ≡ pluses order x part.tally) × (minuses order x (plus_of m ∷ part.tally) ≡ minuses order x part.tally))
      counted x = go (same_cases order O x m)
        where
          go : (x ≡ m) ⊎ (same order x m ≡ false) → (x ≡ m) ⊎ ((pluses order x (plus_of m ∷ part.tally) ≡ pluses order x part.tally) × (minuses order x (plus_of m ∷ part.tally) ≡ minuses order x part.tally))
          go (inl e) = inl e
          go (inr n) = inr (counts-other order O x (plus_of m) part.tally n)

      still : (x : M) → IsIn order x (unhandled order part.tally part.done) → IsIn order x (unhandled order (plus_of m ∷ part.tally) part.done)
      still x i =
          let a = unhandled-is order O part.tally part.done x i in
          go a (counted x)
        where
          go : (IsPresent order part.tally x) × (times_in order x part.done ≡ 0) →
              (x ≡ m) ⊎ ((pluses order x (plus_of m ∷ part.tally) ≡ pluses order x part.tally) × (minuses order x (plus_of m ∷ part.tally) ≡ minuses order x part.tally)) → IsIn order x (unhandled order (plus_of m ∷ part.tally) part.done)
          go a (inl e) = absurd (let b = a.0 in let d = subst (λ y. pluses order y part.tally ≡ minuses order y part.tally) (sym e) c in omega arith)
          go a (inr k) = unhandled-from order O (plus_of m ∷ part.tally) part.done x (let b = a.0 in let p = k.0 in let n = k.1 in omega arith) a.1

      new-one : IsIn order m (unhandled order (plus_of m ∷ part.tally) part.done)
      new-one = unhandled-from order O (plus_of m ∷ part.tally) part.done m (rw same-self (omega (arith, c))) z

      one-of : (x : M) → IsIn order x (unhandled order (plus_of m ∷ part.tally) part.done) → (x ≡ m) ⊎ IsIn order x (unhandled order part.tally part.done)
      one-of x i = go (unhandled-is order O (plus_of m ∷ part.tally) part.done x i) (counted x)
        where
          go : (IsPresent order (plus_of m ∷ part.tally) x) × (times_in order x part.done ≡ 0) →
              (x ≡ m) ⊎ ((pluses order x (plus_of m ∷ part.tally) ≡ pluses order x part.tally) × (minuses order x (plus_of m ∷ part.tally) ≡ minuses order x part.tally)) → (x ≡ m) ⊎ IsIn order x (unhandled order part.tally part.done)
          go a (inl e) = inl e
          go a (inr k) = inr (unhandled-from order O part.tally part.done x (let b = a.0 in let p = k.0 in let n = k.1 in omega arith) a.1)

      low : lowest (suc until) (map order.time (unhandled order (plus_of m ∷ part.tally) part.done)) ≤ min (order.time m) (lowest (suc until) (map order.time (unhandled order part.tally part.done)))
      low =
          let a = lowest-message order O (suc until) (unhandled order (plus_of m ∷ part.tally) part.done) m new-one in
          let b = lowest-messages order O (lowest (suc until) (map order.time (unhandled order (plus_of m ∷ part.tally) part.done))) (suc until) (unhandled order part.tally part.done) (lowest-top order O (suc until) (map order.time (unhandled order (plus_of m ∷ part.tally) part.done)))
          (λ x i. lowest-message order O (suc until) (unhandled order (plus_of m ∷ part.tally) part.done) x (still x i)) in
          omega arith

      high : min (order.time m) (lowest (suc until) (map order.time (unhandled order part.tally part.done))) ≤ lowest (suc until) (map order.time (unhandled order (plus_of m ∷ part.tally) part.done))
      high =
          lowest-messages order O (min (order.time m) (lowest (suc until) (map order.time (unhandled order part.tally part.done)))) (suc until) (unhandled order (plus_of m ∷ part.tally) part.done) (omega (arith, le))
          (λ x i. go x (one-of x i))
        where
          go : (x : M) → (x ≡ m) ⊎ IsIn order x (unhandled order part.tally part.done) → min (order.time m) (lowest (suc until) (map order.time (unhandled order part.tally part.done))) ≤ order.time x
          go x (inl e) = let a = ap order.time e in omega arith
          go x (inr i) = let a = lowest-message order O (suc until) (unhandled order part.tally part.done) x i in omega arith

      both : lowest (suc until) (map order.time (unhandled order (plus_of m ∷ part.tally) part.done)) ≡ min (order.time m) (lowest (suc until) (map order.time (unhandled order part.tally part.done)))
      both = let a = low in let b = high in omega arith

module _ {M S K N : Type 0} (f : Simulation M S K N) (O : IsOrder f.rules.order) where
  -- each step of a plain event can be done when it comes
  pub plain-enabled : (q : ℕ) (l : Letter M) (rest : List (Letter M)) (v : World M S) → q < f.processes → v.mail q ≡ l ∷ rest →
      AreDone f (Take q 0 ∷ Arrive q ∷ []) v
  unfolding is_enabled step effect
  plain-enabled q l rest v i m =
      let a : is_enabled f (Take q 0) v ≡ true = rw (lt-ltb q f.processes i) (ap (λ z. nat_lt 0 (length z)) m ∙ lt-ltb 0 (length (l ∷ rest)) (omega arith)) in
      let moved : step f (Take q 0) v ≡ took-home f O q l rest v =
      ap (λ b. cond b (effect f (Take q 0) v) v) a ∙ takes-home f O q l rest v m in
      let b : is_enabled f (Arrive q) (took-home f O q l rest v) ≡ true =
      rw (lt-ltb q f.processes i) (ap (λ z. nat_lt 0 (length z.tray)) (put_here q (delivered l (v.parts q)) v.parts) ∙
      lt-ltb 0 (length ((v.parts q).tray ++ l ∷ [])) (let k = length-append (v.parts q).tray (l ∷ []) in omega (arith, k))) in
      (a, (ap (is_enabled f (Arrive q)) moved ∙ b, tt))
