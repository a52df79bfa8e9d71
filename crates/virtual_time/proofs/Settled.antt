-- What keeps the floor of a process what it has in hand, so that the least floor of a group is the moment of its first message.
use Rattle.std.proofs.Common.{◌≡◌, ℕ, suc, ◌+◌, ◌⊎◌, inl, inr, min, true, false, List, [], ◌∷◌, ◌++◌, map, refl, sym, ap, ◌∙◌, subst, arith}
use Rattle.virtual_time.specs.Law.{Simulation, Rules, Order, IsOrder, put, same, one_if, IsIn, times_in, lowest, times_of, plus_of, minus_of, pluses, minuses, IsPresent, received_by, Part, delivered, emptied, floor_of, unhandled, arrive, oldest_committed, World, effect, done_by}
use Rattle.virtual_time.specs.declared.letter.Letter.{Letter}
use Rattle.virtual_time.specs.declared.step.Step.TheVariants.{Arrive, Post}
use Rattle.virtual_time.proofs.Journal.{put_here, put_twice}
use Rattle.virtual_time.proofs.Lowest.{lowest-top, lowest-message, lowest-messages}
use Rattle.virtual_time.proofs.Order.{same_cases, same-refl}
use Rattle.virtual_time.proofs.Letters.{counts-other}
use Rattle.virtual_time.proofs.Presence.{unhandled-is, unhandled-from, present-taken_back}

lowest-behind : {M : Type 0} (order : Order M) (d : ℕ) (ls : List (Letter M)) (l : Letter M) →
    lowest d (times_of order (ls ++ l ∷ [])) ≡ min (order.time l.message) (lowest d (times_of order ls))
lowest-behind order d [] l = refl
lowest-behind order d (x ∷ xs) l = let a = lowest-behind order d xs l in omega arith

-- a letter more in the tray
pub floor-delivered : {M S : Type 0} (order : Order M) (until : ℕ) (l : Letter M) (part : Part M S) →
    floor_of order until (delivered l part) ≡ min (order.time l.message) (floor_of order until part)
floor-delivered order until l part = lowest-behind order _ part.tray l

module _ {M : Type 0} (order : Order M) (O : IsOrder order) where
  -- the same messages, however often and in whatever order
  lowest-same : (d : ℕ) (xs ys : List M) → ((m : M) → IsIn order m xs → IsIn order m ys) → ((m : M) → IsIn order m ys → IsIn order m xs) →
      lowest d (map order.time xs) ≡ lowest d (map order.time ys)
  lowest-same d xs ys h k =
      let a = lowest-messages order O (lowest d (map order.time ys)) d xs (lowest-top order O d (map order.time ys)) (λ m i. lowest-message order O d ys m (h m i)) in
      let b = lowest-messages order O (lowest d (map order.time xs)) d ys (lowest-top order O d (map order.time xs)) (λ m i. lowest-message order O d xs m (k m i)) in
      omega arith

  -- the commit of the oldest done event, which counts once: what is unhandled stays
  pub floor-committed : {S K N : Type 0} (r : Rules M S K N) → r.order ≡ order → (until : ℕ) (part : Part M S) (m : M) (rest : List M) →
      part.done ≡ m ∷ rest → pluses order m part.tally ≡ minuses order m part.tally + 1 →
      floor_of order until (oldest_committed r part (m ∷ rest)) ≡ floor_of order until part
  floor-committed r e until part m rest d c =
      ap (λ x. lowest x (times_of order part.tray))
      (lowest-same (suc until) (unhandled order (minus_of m ∷ part.tally) rest) (unhandled order part.tally part.done) into out)
    where
      into : (x : M) → IsIn order x (unhandled order (minus_of m ∷ part.tally) rest) → IsIn order x (unhandled order part.tally part.done)
      into x i =
          let a = unhandled-is order O (minus_of m ∷ part.tally) rest x i in
          let b = present-taken_back order O x m part.tally c a.0 in
          unhandled-from order O part.tally part.done x b.1
          (subst (λ ds. times_in order x ds ≡ 0) (sym d) (let z = a.1 in let n = ap one_if b.0 in omega arith))

      out : (x : M) → IsIn order x (unhandled order part.tally part.done) → IsIn order x (unhandled order (minus_of m ∷ part.tally) rest)
      out x i =
          let a = unhandled-is order O part.tally part.done x i in
          let z : times_in order x (m ∷ rest) ≡ 0 = subst (λ ds. times_in order x ds ≡ 0) d a.1 in
          go a.0 z (same_cases order O x m)
        where
          go : IsPresent order part.tally x → times_in order x (m ∷ rest) ≡ 0 → (x ≡ m) ⊎ (same order x m ≡ false) →
              IsIn order x (unhandled order (minus_of m ∷ part.tally) rest)
          go p z (inl k) = absurd (let s = subst (λ y. same order y m ≡ true) (sym k) (same-refl order O m) in let n = ap one_if s in omega arith)
          go p z (inr n) =
              let o = counts-other order O x (minus_of m) part.tally n in
              unhandled-from order O (minus_of m ∷ part.tally) rest x (let g = o.0 in let h = o.1 in omega arith) (let q = ap one_if n in omega arith)

  -- a letter more of a message that is unhandled already
  pub floor-again : {S : Type 0} (until : ℕ) (m : M) (part new : Part M S) → part.tray ≡ [] → IsPresent order part.tally m → times_in order m part.done ≡ 0 →
      new.tally ≡ plus_of m ∷ part.tally → new.done ≡ part.done → new.tray ≡ [] →
      floor_of order until new ≡ min (order.time m) (floor_of order until part)
  floor-again until m part new t p z nt nd nr =
      ap (λ ls. lowest (lowest (suc until) (map order.time (unhandled order new.tally new.done))) (times_of order ls)) nr ∙
      (ap (λ ls. lowest (suc until) (map order.time (unhandled order ls new.done))) nt ∙
      (ap (λ ds. lowest (suc until) (map order.time (unhandled order (plus_of m ∷ part.tally) ds))) nd ∙
      (lowest-same (suc until) (unhandled order (plus_of m ∷ part.tally) part.done) (unhandled order part.tally part.done) into out ∙
      (below ∙ sym (ap (λ ls. min (order.time m) (lowest (lowest (suc until) (map order.time (unhandled order part.tally part.done))) (times_of order ls))) t)))))
    where
      below : lowest (suc until) (map order.time (unhandled order part.tally part.done)) ≡ min (order.time m) (lowest (suc until) (map order.time (unhandled order part.tally part.done)))
      below = let a = lowest-message order O (suc until) (unhandled order part.tally part.done) m (unhandled-from order O part.tally part.done m p z) in omega arith

      into : (x : M) → IsIn order x (unhandled order (plus_of m ∷ part.tally) part.done) → IsIn order x (unhandled order part.tally part.done)
      into x i =
          let a = unhandled-is order O (plus_of m ∷ part.tally) part.done x i in
          go a.0 a.1 (same_cases order O x m)
        where
          go : IsPresent order (plus_of m ∷ part.tally) x → times_in order x part.done ≡ 0 → (x ≡ m) ⊎ (same order x m ≡ false) → IsIn order x (unhandled order part.tally part.done)
          go q e (inl k) = subst (λ y. IsIn order y (unhandled order part.tally part.done)) (sym k) (unhandled-from order O part.tally part.done m p z)
          go q e (inr n) =
              let o = counts-other order O x (plus_of m) part.tally n in
              unhandled-from order O part.tally part.done x (let g = o.0 in let h = o.1 in omega arith) e

      out : (x : M) → IsIn order x (unhandled order part.tally part.done) → IsIn order x (unhandled order (plus_of m ∷ part.tally) part.done)
      out x i =
          let a = unhandled-is order O part.tally part.done x i in
          go a.0 a.1 (same_cases order O x m)
        where
          go : IsPresent order part.tally x → times_in order x part.done ≡ 0 → (x ≡ m) ⊎ (same order x m ≡ false) → IsIn order x (unhandled order (plus_of m ∷ part.tally) part.done)
          go q e (inl k) =
              unhandled-from order O (plus_of m ∷ part.tally) part.done x
              (let s = subst (λ y. same order y m ≡ true) (sym k) (same-refl order O m) in let n = ap one_if s in rw s (omega (arith, q))) e
          go q e (inr n) =
              let o = counts-other order O x (plus_of m) part.tally n in
              unhandled-from order O (plus_of m ∷ part.tally) part.done x (let g = o.0 in let h = o.1 in omega arith) e

module _ {M S K N : Type 0} (f : Simulation M S K N) (O : IsOrder f.rules.order) where
  -- Arrive and Post: the letter is tallied, what is undone goes to the mail as antimessages, and the floor is what is left
  abbrev pub arrive_after : ℕ → World M S → World M S
  arrive_after p v =
      record {
        parts = put p (emptied (arrive f.rules (f.opening p) (v.parts p))) v.parts;
        mail = λ q. v.mail q ++ received_by f.rules.order q (arrive f.rules (f.opening p) (v.parts p)).outbox;
        floors = put p (floor_of f.rules.order f.until (emptied (arrive f.rules (f.opening p) (v.parts p)))) v.floors;
        gvt = v.gvt;
      }

  pub arrives-posts : (p : ℕ) (v : World M S) → done_by f (Arrive p ∷ Post p ∷ []) v ≡ arrive_after p v
  unfolding effect
  arrives-posts p v =
      let part = arrive f.rules (f.opening p) (v.parts p) in
      let here : put p part v.parts p ≡ part = put_here p part v.parts in
      λ j. record {
        parts = (ap (λ z. put p (emptied z) (put p part v.parts)) here ∙ put_twice p part (emptied part) v.parts) j;
        mail = λ q. v.mail q ++ received_by f.rules.order q (here j).outbox;
        floors = put p (floor_of f.rules.order f.until (here j)) v.floors;
        gvt = v.gvt;
      }
