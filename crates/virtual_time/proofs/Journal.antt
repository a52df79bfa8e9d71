-- What the entries of a journal make of the world.
use Rattle.std.proofs.Common.{◌≡◌, ℕ, ◌<◌, ◌≤◌, ◌==◌, ◌⊎◌, inl, inr, min, Bool, true, false, cond, nat_lt, List, [], ◌∷◌, ◌++◌, map, length, replicate, remove, Some, refl, sym, ap, ◌∙◌, subst, arith, append_assoc, append-nil, slice_get, eq-eqb, ne_eqb, eqb-true, lt-ltb, ltb-true}
use Rattle.std.proofs.lemmas.Bool.{cases_eq, and_parts}
use Rattle.virtual_time.specs.Law.{Simulation, put, lowest, times_of, received_by, Part, opened, delivered, emptied, floor_of, arrive, run_one, commit_oldest, World, start, taken, with_part, gvt_over, is_early, is_enabled, effect, step, run, Act, acted, local, after_moves, Deliver, Emptying, Moves, Posted, Published, Entry, step_by, steps_of, steps, own_in, reach, after_own, can_move, AreEnabled, fetched, delivered_block}
use Rattle.virtual_time.specs.declared.letter.Letter.{Letter}
use Rattle.virtual_time.specs.declared.step.Step.{Step}
use Rattle.virtual_time.specs.declared.step.Step.TheVariants.{Take, Post}
use Rattle.virtual_time.specs.Journal.{acts_of}
use Rattle.virtual_time.specs.declared.moved.Move.{Move}
use Rattle.virtual_time.specs.declared.moved.Move.TheVariants.{Arrived, Ran, Committed}

-- one place of a function
pub put_here : {X : Type 0} (p : ℕ) (x : X) (g : ℕ → X) → put p x g p ≡ x
put_here p x g = ap (λ b. cond b x (g p)) (eq-eqb p p refl)

put_kept_at : {X : Type 0} (p q : ℕ) (g : ℕ → X) (b : Bool) → (q == p) ≡ b → cond b (g p) (g q) ≡ g q
put_kept_at p q g true e = ap g (sym (eqb-true q p e))
put_kept_at p q g false e = refl

pub put_kept : {X : Type 0} (p : ℕ) (g : ℕ → X) → put p (g p) g ≡ g
put_kept p g = λ i q. put_kept_at p q g (q == p) refl i

put_twice_at : {X : Type 0} (b : Bool) (x y z : X) → cond b y (cond b x z) ≡ cond b y z
put_twice_at true x y z = refl
put_twice_at false x y z = refl

pub put_twice : {X : Type 0} (p : ℕ) (x y : X) (g : ℕ → X) → put p y (put p x g) ≡ put p y g
put_twice p x y g = λ i q. put_twice_at (q == p) x y (g q) i

pub local-append : {M S K N : Type 0} (f : Simulation M S K N) (s : S) (xs ys : List (Act M)) (part : Part M S) →
    local f.rules s (xs ++ ys) part ≡ local f.rules s ys (local f.rules s xs part)
local-append f s [] ys part = refl
local-append f s (x ∷ xs) ys part = local-append f s xs ys (acted f.rules s x part)

pub steps-append : {M : Type 0} (xs ys : List (Entry M)) → steps (xs ++ ys) ≡ steps xs ++ steps ys
steps-append [] ys = refl
steps-append (x ∷ xs) ys = ap (λ z. steps_of x.process x.deed ++ z) (steps-append xs ys) ∙ sym (append_assoc (steps_of x.process x.deed) (steps xs) (steps ys))

pub own-append : {M : Type 0} (p : ℕ) (xs ys : List (Entry M)) → own_in p (xs ++ ys) ≡ own_in p xs ++ own_in p ys
own-append p [] ys = refl
own-append p (x ∷ xs) ys = ap (λ z. cond (p == x.process) (acts_of x.deed) [] ++ z) (own-append p xs ys) ∙ sym (append_assoc (cond (p == x.process) (acts_of x.deed) []) (own_in p xs) (own_in p ys))

lowest-min : (t d : ℕ) (xs : List ℕ) → lowest (min t d) xs ≡ min t (lowest d xs)
lowest-min t d [] = refl
lowest-min t d (x ∷ xs) = let a = lowest-min t d xs in omega arith

module _ {M S K N : Type 0} (f : Simulation M S K N) where
  pub run-then : (xs ys : List Step) (w : World M S) → run f (xs ++ ys) w ≡ run f ys (run f xs w)
  unfolding run
  run-then [] ys w = refl
  run-then (x ∷ xs) ys w = run-then xs ys (step f x w)

  pub reach-push : (ls : List (Entry M)) (l : Entry M) → reach f (ls ++ l ∷ []) ≡ run f (steps_of l.process l.deed) (reach f ls)
  reach-push ls l =
      ap (λ z. run f z (start f)) (steps-append ls (l ∷ []) ∙ ap (λ z. steps ls ++ z) (append-nil (steps_of l.process l.deed))) ∙
      run-then (steps ls) (steps_of l.process l.deed) (start f)

  -- Take of the first letter
  take-first : (p : ℕ) → p < f.processes → (x : Letter M) (rest : List (Letter M)) (w : World M S) → w.mail p ≡ x ∷ rest →
      step f (Take p 0) w ≡ fetched f p (x ∷ []) rest w
  unfolding step is_enabled effect
  take-first p i x rest w e =
      rw (lt-ltb p f.processes i)
      (ap (λ z. cond (nat_lt 0 (length z)) (taken f p 0 w (slice_get z 0)) w) e ∙
      (ap (λ b. cond b (taken f p 0 w (Some x)) w) (lt-ltb 0 (length (x ∷ rest)) (omega arith)) ∙
      (λ j. record {
        parts = put p (delivered x (w.parts p)) w.parts;
        mail = put p (remove (e j) 0) w.mail;
        floors = put p (min (f.rules.order.time x.message) (w.floors p)) w.floors;
        gvt = w.gvt;
      })))

  pub takes : (p : ℕ) → p < f.processes → (xs rest : List (Letter M)) (w : World M S) → w.mail p ≡ xs ++ rest →
      run f (replicate (length xs) (Take p 0)) w ≡ fetched f p xs rest w
  unfolding run
  takes p i [] rest w e = λ j. record {
    parts = sym (put_kept p w.parts) j;
    mail = (sym (put_kept p w.mail) ∙ ap (λ z. put p z w.mail) e) j;
    floors = sym (put_kept p w.floors) j;
    gvt = w.gvt;
  }
  takes p i (x ∷ xs) rest w e =
      let v = fetched f p (x ∷ []) (xs ++ rest) w in
      let part : v.parts p ≡ delivered x (w.parts p) = put_here p (delivered x (w.parts p)) w.parts in
      let floor : v.floors p ≡ min (f.rules.order.time x.message) (w.floors p) = put_here p (min (f.rules.order.time x.message) (w.floors p)) w.floors in
      ap (run f (replicate (length xs) (Take p 0))) (take-first p i x (xs ++ rest) w e) ∙
      (takes p i xs rest v (put_here p (xs ++ rest) w.mail) ∙
      (λ j. record {
        parts = (ap (λ z. put p (local f.rules (f.opening p) (map (λ l. Deliver l) xs) z) v.parts) part ∙ put_twice p (delivered x (w.parts p)) (local f.rules (f.opening p) (map (λ l. Deliver l) (x ∷ xs)) (w.parts p)) w.parts) j;
        mail = put_twice p (xs ++ rest) rest w.mail j;
        floors = (ap (λ z. put p (lowest z (times_of f.rules.order xs)) v.floors) floor ∙
            (put_twice p (min (f.rules.order.time x.message) (w.floors p)) (lowest (min (f.rules.order.time x.message) (w.floors p)) (times_of f.rules.order xs)) w.floors ∙
            ap (λ z. put p z w.floors) (lowest-min (f.rules.order.time x.message) (w.floors p) (times_of f.rules.order xs)))) j;
        gvt = w.gvt;
      }))

  -- one step of a process alone
  move-does : (p : ℕ) → p < f.processes → (m : Move) (w : World M S) → can_move f w.gvt m (w.parts p) ≡ true →
      step f (step_by p m) w ≡ with_part f p (acted f.rules (f.opening p) (Moves m) (w.parts p)) w
  unfolding step is_enabled effect
  move-does p i Arrived w e = rw (lt-ltb p f.processes i) (ap (λ b. cond b (with_part f p (arrive f.rules (f.opening p) (w.parts p)) w) w) e)
  move-does p i Ran w e = rw (lt-ltb p f.processes i) (ap (λ b. cond b (with_part f p (run_one f.rules (w.parts p)) w) w) e)
  move-does p i Committed w e = rw (lt-ltb p f.processes i) (ap (λ b. cond b (with_part f p (commit_oldest f.rules (w.parts p)) w) w) e)

  pub moves : (p : ℕ) → p < f.processes → (ms : List Move) (w : World M S) → AreEnabled f (f.opening p) w.gvt ms (w.parts p) →
      run f (map (step_by p) ms) w ≡ with_part f p (after_moves f.rules (f.opening p) ms (w.parts p)) w
  unfolding run
  moves p i [] w h = λ j. record { parts = sym (put_kept p w.parts) j; mail = w.mail; floors = w.floors; gvt = w.gvt }
  moves p i (m ∷ ms) w h =
      let part' = acted f.rules (f.opening p) (Moves m) (w.parts p) in
      let v = with_part f p part' w in
      let here : v.parts p ≡ part' = put_here p part' w.parts in
      ap (run f (map (step_by p) ms)) (move-does p i m w h.0) ∙
      (moves p i ms v (subst (λ z. AreEnabled f (f.opening p) w.gvt ms z) (sym here) h.1) ∙
      (λ j. record {
        parts = (ap (λ z. put p (after_moves f.rules (f.opening p) ms z) v.parts) here ∙ put_twice p part' (after_moves f.rules (f.opening p) ms part') w.parts) j;
        mail = w.mail;
        floors = w.floors;
        gvt = w.gvt;
      }))

  pub posts : (p : ℕ) → p < f.processes → (ms : List Move) (w : World M S) → AreEnabled f (f.opening p) w.gvt ms (w.parts p) →
      run f (steps_of {M = M} p (Posted ms)) w ≡ delivered_block f p ms w
  unfolding run step is_enabled effect
  posts p i ms w h =
      let part = after_moves f.rules (f.opening p) ms (w.parts p) in
      let v = with_part f p part w in
      let here : v.parts p ≡ part = put_here p part w.parts in
      run-then (map (step_by p) ms) (Post p ∷ []) w ∙
      (ap (λ z. run f (Post p ∷ []) z) (moves p i ms w h) ∙
      (rw (lt-ltb p f.processes i)
      (λ j. record {
        parts = (ap (λ z. put p (emptied z) v.parts) here ∙ put_twice p part (emptied part) w.parts) j;
        mail = λ q. w.mail q ++ received_by f.rules.order q (here j).outbox;
        floors = put p (floor_of f.rules.order f.until (here j)) w.floors;
        gvt = w.gvt;
      })))

  pub publishes : (w : World M S) → run f (steps_of {M = M} 0 Published) w ≡ record { parts = w.parts; mail = w.mail; floors = w.floors; gvt = gvt_over f f.processes w }
  unfolding run step is_enabled effect
  publishes w = refl

  -- what can be done at one GVT can be done at a later one
  pub early-later : (g h : ℕ) → g ≤ h → (ds : List M) → is_early f g ds ≡ true → is_early f h ds ≡ true
  early-later g h l [] e = e
  early-later g h l (d ∷ ds) e = lt-ltb _ _ (let a = ltb-true _ _ e in omega arith)

  pub enabled-later : (o : S) (g h : ℕ) → g ≤ h → (ms : List Move) (part : Part M S) → AreEnabled f o g ms part → AreEnabled f o h ms part
  enabled-later o g h l [] part a = tt
  enabled-later o g h l (Arrived ∷ ms) part a = (a.0, enabled-later o g h l ms _ a.1)
  enabled-later o g h l (Ran ∷ ms) part a = (a.0, enabled-later o g h l ms _ a.1)
  enabled-later o g h l (Committed ∷ ms) part a =
      let b = and_parts _ _ a.0 in
      (rw (early-later g h l part.done b.0) b.1, enabled-later o g h l ms _ a.1)

  pub own-push : (q : ℕ) (ls : List (Entry M)) (l : Entry M) → own_in q (ls ++ l ∷ []) ≡ own_in q ls ++ cond (q == l.process) (acts_of l.deed) []
  own-push q ls l = own-append q ls (l ∷ []) ∙ ap (λ z. own_in q ls ++ z) (append-nil (cond (q == l.process) (acts_of l.deed) []))

  at_put : (p q : ℕ) (as' : List (Act M)) (w : World M S) →
      put p (local f.rules (f.opening p) as' (w.parts p)) w.parts q ≡ local f.rules (f.opening q) (cond (q == p) as' []) (w.parts q)
  at_put p q as' w = go (cases_eq q p)
    where
      go : (q ≡ p) ⊎ (q ≡ p → ⊥) → put p (local f.rules (f.opening p) as' (w.parts p)) w.parts q ≡ local f.rules (f.opening q) (cond (q == p) as' []) (w.parts q)
      go (inl e) = rw (eq-eqb q p e) (ap (λ z. local f.rules (f.opening z) as' (w.parts z)) (sym e))
      go (inr n) = rw (ne_eqb q p n) refl

  -- one entry more: each process is what its own entries alone make of it
  pub parts-push : (ls : List (Entry M)) (l : Entry M) → (reach f (ls ++ l ∷ [])).parts ≡ put l.process (local f.rules (f.opening l.process) (acts_of l.deed) ((reach f ls).parts l.process)) (reach f ls).parts →
      ((q : ℕ) → (reach f ls).parts q ≡ after_own f q (own_in q ls)) → (q : ℕ) → (reach f (ls ++ l ∷ [])).parts q ≡ after_own f q (own_in q (ls ++ l ∷ []))
  parts-push ls l e h q =
      ap (λ z. z q) e ∙
      (at_put l.process q (acts_of l.deed) (reach f ls) ∙
      (ap (λ z. local f.rules (f.opening q) (cond (q == l.process) (acts_of l.deed) []) z) (h q) ∙
      (sym (local-append f (f.opening q) (own_in q ls) (cond (q == l.process) (acts_of l.deed) []) (opened (f.opening q))) ∙
      ap (after_own f q) (sym (own-push q ls l)))))

  pub emptied-last : (o : S) (ms : List Move) (part : Part M S) → local f.rules o (acts_of (Posted ms)) part ≡ emptied (after_moves f.rules o ms part)
  emptied-last o ms part = local-append f o (map (λ m. Moves m) ms) (Emptying ∷ []) part
