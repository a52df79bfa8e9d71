-- A group's steps in hand are the same steps in the world.
use Rattle.std.proofs.Common.{◌≡◌, ℕ, suc, ◌+◌, ◌-◌, ◌≤◌, ◌==◌, min, Bool, true, false, cond, nat_lt, ◌&&◌, List, [], ◌∷◌, ◌++◌, map, length, remove, Option, Some, None, refl, sym, ap, ◌∙◌, arith, append_assoc, append-nil, length-append, slice_get, eqb-true, lt-ltb, ltb-true}
use Rattle.std.proofs.lemmas.Bool.{and_parts, both_ways}
use Rattle.std.proofs.lemmas.List.Edits.{remove-append_right}
use Rattle.virtual_time.specs.Law.{Simulation, put, received_by, Part, delivered, emptied, floor_of, arrive, run_one, commit_oldest, can_commit, World, taken, with_part, is_early, is_enabled, effect, step, run, AreBy, AreDone, behind, in_hand, is_by, joined, waiting_in}
use Rattle.virtual_time.specs.declared.letter.Letter.{Letter}
use Rattle.virtual_time.specs.declared.step.Step.{Step}
use Rattle.virtual_time.specs.declared.step.Step.TheVariants.{Take, Arrive, Run, Post, Gvt, Commit}
use Rattle.virtual_time.proofs.Journal.{early-later}

-- behind the first list
slice-behind : {X : Type 0} (xs ys : List X) (i : ℕ) → slice_get (xs ++ ys) (length xs + i) ≡ slice_get ys i
slice-behind [] ys i = ap (slice_get ys) (let e : 0 + i ≡ i = omega arith in e)
slice-behind (x ∷ xs) ys i =
    ap (slice_get ((x ∷ xs) ++ ys)) (let e : suc (length xs) + i ≡ suc (length xs + i) = omega arith in e) ∙ slice-behind xs ys i

remove-behind : {X : Type 0} (xs ys : List X) (i : ℕ) → remove (xs ++ ys) (length xs + i) ≡ xs ++ remove ys i
remove-behind xs ys i =
    remove-append_right xs ys (length xs) (length xs + i) refl (omega arith) ∙
    ap (λ k. xs ++ remove ys k) (let e : length xs + i - length xs ≡ i = omega arith in e)

-- a new value at a process of the group
join-put : {X : Type 0} (ours : ℕ → Bool) (p : ℕ) (x : X) (g h : ℕ → X) → ours p ≡ true →
    put p x (λ q. cond (ours q) (g q) (h q)) ≡ (λ q. cond (ours q) (put p x g q) (h q))
join-put ours p x g h o = λ j q. at q (q == p) refl j
  where
    at : (q : ℕ) (b : Bool) → (q == p) ≡ b → cond b x (cond (ours q) (g q) (h q)) ≡ cond (ours q) (cond b x (g q)) (h q)
    at q true e = sym (ap (λ b. cond b x (h q)) (ap ours (eqb-true q p e) ∙ o))
    at q false e = refl

join-at : {X : Type 0} (ours : ℕ → Bool) (p : ℕ) (g h : ℕ → X) → ours p ≡ true → cond (ours p) (g p) (h p) ≡ g p
join-at ours p g h o = ap (λ b. cond b (g p) (h p)) o

put-append : {X : Type 0} (p : ℕ) (x : List X) (g h : ℕ → List X) → put p (g p ++ x) (λ q. g q ++ h q) ≡ (λ q. g q ++ put p x h q)
put-append p x g h = λ j q. at q (q == p) refl j
  where
    at : (q : ℕ) (b : Bool) → (q == p) ≡ b → cond b (g p ++ x) (g q ++ h q) ≡ g q ++ cond b x (h q)
    at q true e = ap (λ z. g z ++ x) (sym (eqb-true q p e))
    at q false e = refl

module _ {M S K N : Type 0} (f : Simulation M S K N) (ours : ℕ → Bool) where
  module _ (v w : World M S) where
    -- process p alone
    with-joined : (p : ℕ) → ours p ≡ true → (change : Part M S → Part M S) →
        with_part f p (change ((joined f ours v w).parts p)) (joined f ours v w) ≡ joined f ours (with_part f p (change (v.parts p)) v) w
    with-joined p o change =
        ap (λ z. with_part f p (change z) (joined f ours v w)) (join-at ours p v.parts w.parts o) ∙
        (λ j. record {
          parts = join-put ours p (change (v.parts p)) v.parts w.parts o j;
          mail = λ q. w.mail q ++ v.mail q;
          floors = λ q. cond (ours q) (v.floors q) (w.floors q);
          gvt = w.gvt;
        })

    enabled-behind : (x : Step) → v.gvt ≤ w.gvt → is_by ours x ≡ true → is_enabled f x v ≡ true → is_enabled f (behind (waiting_in f w) x) (joined f ours v w) ≡ true
    unfolding is_enabled
    enabled-behind (Take p i) l o e =
        let a = and_parts (nat_lt p f.processes) (nat_lt i (length (v.mail p))) e in
        let b = ltb-true i (length (v.mail p)) a.1 in
        let c = length-append (w.mail p) (v.mail p) in
        rw a.0 (lt-ltb (length (w.mail p) + i) (length (w.mail p ++ v.mail p)) (omega arith))
    enabled-behind (Arrive p) l o e = rw (join-at ours p v.parts w.parts o) e
    enabled-behind (Run p) l o e = rw (join-at ours p v.parts w.parts o) e
    enabled-behind (Post p) l o e = e
    enabled-behind Gvt l o e = absurd (both_ways false refl o)
    enabled-behind (Commit p) l o e =
        let a = and_parts (nat_lt p f.processes) (is_early f v.gvt (v.parts p).done && can_commit f.rules.order (v.parts p) (v.parts p).done) e in
        let b = and_parts (is_early f v.gvt (v.parts p).done) (can_commit f.rules.order (v.parts p) (v.parts p).done) a.1 in
        rw (join-at ours p v.parts w.parts o) (rw a.0 (rw (early-later f v.gvt w.gvt l (v.parts p).done b.0) b.1))

    effect-joins : (x : Step) → is_by ours x ≡ true → effect f (behind (waiting_in f w) x) (joined f ours v w) ≡ joined f ours (effect f x v) w
    unfolding effect
    effect-joins (Take p i) o =
        ap (taken f p (length (w.mail p) + i) (joined f ours v w)) (slice-behind (w.mail p) (v.mail p) i) ∙ go (slice_get (v.mail p) i)
      where
        go : (l : Option (Letter M)) → taken f p (length (w.mail p) + i) (joined f ours v w) l ≡ joined f ours (taken f p i v l) w
        go None = refl
        go (Some l) = λ j. record {
          parts = (ap (λ z. put p (delivered l z) (joined f ours v w).parts) (join-at ours p v.parts w.parts o) ∙ join-put ours p (delivered l (v.parts p)) v.parts w.parts o) j;
          mail = (ap (λ z. put p z (joined f ours v w).mail) (remove-behind (w.mail p) (v.mail p) i) ∙ put-append p (remove (v.mail p) i) w.mail v.mail) j;
          floors = (ap (λ z. put p (min (f.rules.order.time l.message) z) (joined f ours v w).floors) (join-at ours p v.floors w.floors o) ∙ join-put ours p (min (f.rules.order.time l.message) (v.floors p)) v.floors w.floors o) j;
          gvt = w.gvt;
        }
    effect-joins (Arrive p) o = with-joined p o (arrive f.rules (f.opening p))
    effect-joins (Run p) o = with-joined p o (run_one f.rules)
    effect-joins (Post p) o =
        ap (λ z. record {
          parts = put p (emptied z) (joined f ours v w).parts;
          mail = λ q. (w.mail q ++ v.mail q) ++ received_by f.rules.order q z.outbox;
          floors = put p (floor_of f.rules.order f.until z) (joined f ours v w).floors;
          gvt = w.gvt;
        }) (join-at ours p v.parts w.parts o) ∙
        (λ j. record {
          parts = join-put ours p (emptied (v.parts p)) v.parts w.parts o j;
          mail = λ q. append_assoc (w.mail q) (v.mail q) (received_by f.rules.order q (v.parts p).outbox) j;
          floors = join-put ours p (floor_of f.rules.order f.until (v.parts p)) v.floors w.floors o j;
          gvt = w.gvt;
        })
    effect-joins Gvt o = absurd (both_ways false refl o)
    effect-joins (Commit p) o = with-joined p o (commit_oldest f.rules)

  -- an enabled step
  pub step-does : (x : Step) (v : World M S) → is_enabled f x v ≡ true → step f x v ≡ effect f x v
  unfolding step
  step-does x v e = ap (λ b. cond b (effect f x v) v) e

  pub effect-gvt : (x : Step) (v : World M S) → is_by ours x ≡ true → (effect f x v).gvt ≡ v.gvt
  unfolding effect
  effect-gvt (Take p i) v o = go (slice_get (v.mail p) i)
    where
      go : (l : Option (Letter M)) → (taken f p i v l).gvt ≡ v.gvt
      go None = refl
      go (Some l) = refl
  effect-gvt (Arrive p) v o = refl
  effect-gvt (Run p) v o = refl
  effect-gvt (Post p) v o = refl
  effect-gvt Gvt v o = absurd (both_ways false refl o)
  effect-gvt (Commit p) v o = refl

  step-gvt : (x : Step) (v : World M S) → is_by ours x ≡ true → is_enabled f x v ≡ true → (step f x v).gvt ≡ v.gvt
  step-gvt x v o e = ap (λ z. z.gvt) (step-does x v e) ∙ effect-gvt x v o

  -- steps that can be done in hand do the same in the world
  pub joins : (xs : List Step) (v w : World M S) → v.gvt ≤ w.gvt → AreBy ours xs → AreDone f xs v →
      run f (map (behind (waiting_in f w)) xs) (joined f ours v w) ≡ joined f ours (run f xs v) w
  unfolding run
  joins [] v w l o d = refl
  joins (x ∷ xs) v w l o d =
      ap (run f (map (behind (waiting_in f w)) xs))
      (step-does (behind (waiting_in f w) x) (joined f ours v w) (enabled-behind v w x l o.0 d.0) ∙
      (effect-joins v w x o.0 ∙ ap (λ z. joined f ours z w) (sym (step-does x v d.0)))) ∙
      joins xs (step f x v) w (let a = step-gvt x v o.0 d.0 in omega arith) o.1 d.1

  -- before its block a group in hand is that of the world
  hand-joined : (g : ℕ) (w : World M S) → joined f ours (in_hand f g w) w ≡ w
  hand-joined g w = λ j. record {
    parts = λ q. same (ours q) (w.parts q) j;
    mail = λ q. append-nil (w.mail q) j;
    floors = λ q. same (ours q) (w.floors q) j;
    gvt = w.gvt;
  }
    where
      same : {X : Type 0} (b : Bool) (x : X) → cond b x x ≡ x
      same true x = refl
      same false x = refl

  -- a block of a group
  pub blocks : (g : ℕ) (xs : List Step) (w : World M S) → g ≤ w.gvt → AreBy ours xs → AreDone f xs (in_hand f g w) →
      run f (map (behind (waiting_in f w)) xs) w ≡ joined f ours (run f xs (in_hand f g w)) w
  blocks g xs w l o d =
      ap (run f (map (behind (waiting_in f w)) xs)) (sym (hand-joined g w)) ∙ joins xs (in_hand f g w) w l o d
