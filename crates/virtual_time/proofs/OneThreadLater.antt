-- The one-thread run comes beyond every moment, and what it has handled stays. So first, left and below are told by any cut.
use Rattle.std.proofs.Common.{◌≡◌, ℕ, zero, suc, ◌+◌, ◌<◌, ◌≤◌, ◌==◌, ◌⊎◌, inl, inr, Bool, true, false, not, cond, nat_lt, List, [], ◌∷◌, ◌++◌, filter, length, take, Option, Some, None, refl, sym, ap, ◌∙◌, subst, arith, append_assoc, append-nil, length-append, ltb-true, lt-ltb, le-ltb}
use Rattle.std.proofs.lemmas.Bool.{cases_lt, cases_eq, both_ways}
use Rattle.std.proofs.lemmas.List.Elements.{filter-append}
use Rattle.std.proofs.lemmas.List.{take-append-le}
use Rattle.std.proofs.Math.Seq.{take-append_seam, take-length}
use Rattle.virtual_time.specs.Law.{reached, one_if, same, times_in, IsIn, least, earlier, without, events_at, Simulation, Laws, handle, one, events, NoneWaits, IsFirst, IsLeft, IsBelow}
use Rattle.virtual_time.proofs.Order.{same-true, not_less-time, less-time}
use Rattle.virtual_time.proofs.Lists.{in-append, in-filter, filter-none}
use Rattle.virtual_time.proofs.Ascending.{ascending-split}
use Rattle.virtual_time.proofs.Least.{least-none, least-some, IsLeast}
use Rattle.virtual_time.proofs.Cut.{IsClosed, one_cut}
use Rattle.virtual_time.proofs.OneThread.{IsRight, right, closed}

module _ {M S K N : Type 0} (f : Simulation M S K N) (L : Laws f) where
  -- a list without m has one fewer that pass
  fewer : (q : M → Bool) (m : M) → q m ≡ true → (xs : List M) →
      (length (filter q (without f.rules.order m xs)) ≤ length (filter q xs)) × (IsIn f.rules.order m xs → length (filter q (without f.rules.order m xs)) < length (filter q xs))
  fewer q m h [] = (omega arith, λ i. absurd (omega arith))
  fewer q m h (x ∷ xs) = go (same f.rules.order m x) refl (q x) refl (fewer q m h xs)
    where
      go : (b : Bool) → same f.rules.order m x ≡ b → (c : Bool) → q x ≡ c →
          (length (filter q (without f.rules.order m xs)) ≤ length (filter q xs)) × (IsIn f.rules.order m xs → length (filter q (without f.rules.order m xs)) < length (filter q xs)) →
          (length (filter q (cond (not b) (x ∷ without f.rules.order m xs) (without f.rules.order m xs))) ≤ length (cond c (x ∷ filter q xs) (filter q xs)))
          × (0 < one_if b + times_in f.rules.order m xs → length (filter q (cond (not b) (x ∷ without f.rules.order m xs) (without f.rules.order m xs))) < length (cond c (x ∷ filter q xs) (filter q xs)))
      go true e true d r = (let a = r.0 in omega arith, λ i. let a = r.0 in omega arith)
      go true e false d r = absurd (both_ways _ d (subst (λ z. q z ≡ true) (same-true f.rules.order L.order m x e) h))
      go false e true d r = rw d (let a = r.0 in omega arith, λ i. let a = r.1 (omega arith) in omega arith)
      go false e false d r = rw d (r.0, λ i. r.1 (omega arith))

  -- one more event, where the least that waits is at g
  next_event : (g n : ℕ) (m : M) → NoneWaits f g n → least f.rules.order (one f n).waiting ≡ Some m → f.rules.order.time m < suc g →
      NoneWaits f g (suc n) × (length (earlier f.rules.order (suc g) (one f (suc n)).waiting) < length (earlier f.rules.order (suc g) (one f n).waiting))
  unfolding one
  next_event g n m h e i = rw e (waits, shorter)
    where
      I : IsRight f L (one f n)
      I = right f L n

      l : IsLeast f.rules.order L.order m (one f n).waiting
      l = least-some f.rules.order L.order (one f n).waiting m e

      late : (b : M) → IsIn f.rules.order b (f.rules.sends ((one f n).states (f.rules.order.receiver m)) m) → suc g ≤ f.rules.order.time b
      late b j =
          let a = L.later (f.rules.order.receiver m) (I.waiting_here m l.inside) ((one f n).states (f.rules.order.receiver m)) (events_at f.rules.order (f.rules.order.receiver m) (one f n).handled, I.states_are (f.rules.order.receiver m)) m b j in
          let c = h m l.inside in
          omega arith

      waits : (b : M) → IsIn f.rules.order b (without f.rules.order m (one f n).waiting ++ f.rules.sends ((one f n).states (f.rules.order.receiver m)) m) → g ≤ f.rules.order.time b
      waits b j = elim (in-append f.rules.order L.order b (without f.rules.order m (one f n).waiting) (f.rules.sends ((one f n).states (f.rules.order.receiver m)) m) j) [
        | inl k ↦ h b (in-filter f.rules.order L.order (λ y. not (same f.rules.order m y)) b (one f n).waiting k).1
        | inr k ↦ (let a = late b k in omega arith)
      ]

      shorter : length (earlier f.rules.order (suc g) (without f.rules.order m (one f n).waiting ++ f.rules.sends ((one f n).states (f.rules.order.receiver m)) m)) < length (earlier f.rules.order (suc g) (one f n).waiting)
      shorter =
          let none : earlier f.rules.order (suc g) (f.rules.sends ((one f n).states (f.rules.order.receiver m)) m) ≡ [] =
          filter-none f.rules.order L.order (λ y. nat_lt (f.rules.order.time y) (suc g)) _ (λ b j. le-ltb _ _ (late b j)) in
          let a : earlier f.rules.order (suc g) (without f.rules.order m (one f n).waiting ++ f.rules.sends ((one f n).states (f.rules.order.receiver m)) m) ≡ earlier f.rules.order (suc g) (without f.rules.order m (one f n).waiting) =
          filter-append (λ y. nat_lt (f.rules.order.time y) (suc g)) (without f.rules.order m (one f n).waiting) _ ∙ (ap (λ z. earlier f.rules.order (suc g) (without f.rules.order m (one f n).waiting) ++ z) none ∙ append-nil _) in
          let b = (fewer (λ y. nat_lt (f.rules.order.time y) (suc g)) m (lt-ltb _ _ i) (one f n).waiting).1 l.inside in
          rw a b

  done_at : (g n : ℕ) (m : M) → least f.rules.order (one f n).waiting ≡ Some m → suc g ≤ f.rules.order.time m → NoneWaits f (suc g) n
  done_at g n m e i b j =
      let l = least-some f.rules.order L.order (one f n).waiting m e in
      let a = not_less-time f.rules.order L.order b m (l.lowest b j) in
      omega arith

  none_at : (g n : ℕ) → least f.rules.order (one f n).waiting ≡ None → NoneWaits f (suc g) n
  none_at g n e b j = absurd (let a = ap (times_in f.rules.order b) (least-none f.rules.order L.order (one f n).waiting e) in omega arith)

  some_event : (g k n : ℕ) → NoneWaits f g n → length (earlier f.rules.order (suc g) (one f n).waiting) ≤ k → (n' : ℕ) × NoneWaits f (suc g) n'
  some_event g zero n h k = go (least f.rules.order (one f n).waiting) refl
    where
      go : (o : Option M) → least f.rules.order (one f n).waiting ≡ o → (n' : ℕ) × NoneWaits f (suc g) n'
      go None e = (n, none_at g n e)
      go (Some m) e = elim (cases_lt (f.rules.order.time m) (suc g)) [
        | inl i ↦ absurd (let a = (next_event g n m h e i).1 in omega arith)
        | inr i ↦ (n, done_at g n m e i)
      ]
  some_event g (suc k) n h j = go (least f.rules.order (one f n).waiting) refl (λ i a. some_event g k (suc n) i a)
    where
      go : (o : Option M) → least f.rules.order (one f n).waiting ≡ o →
          (NoneWaits f g (suc n) → length (earlier f.rules.order (suc g) (one f (suc n)).waiting) ≤ k → (n' : ℕ) × NoneWaits f (suc g) n') → (n' : ℕ) × NoneWaits f (suc g) n'
      go None e r = (n, none_at g n e)
      go (Some m) e r = elim (cases_lt (f.rules.order.time m) (suc g)) [
        | inl i ↦ (let a = next_event g n m h e i in let b = a.1 in r a.0 (omega arith))
        | inr i ↦ (n, done_at g n m e i)
      ]

  -- there is an event from which nothing earlier than g waits
  pub none_waits_from : (g : ℕ) → (n : ℕ) × NoneWaits f g n
  none_waits_from zero = (0, λ m i. omega arith)
  none_waits_from (suc g) = let t = none_waits_from g in some_event g (length (earlier f.rules.order (suc g) (one f t.0).waiting)) t.0 t.1 (omega arith)

  -- what was handled stays
  stays : (n : ℕ) → (rest : List M) × ((one f (suc n)).handled ≡ (one f n).handled ++ rest)
  unfolding one
  stays n = go (least f.rules.order (one f n).waiting)
    where
      go : (o : Option M) → (rest : List M) × ((handle f (one f n) o).handled ≡ (one f n).handled ++ rest)
      go None = ([], sym (append-nil _))
      go (Some m) = (m ∷ [], refl)

  pub stays_all : (n n' : ℕ) → n ≤ n' → (rest : List M) × ((one f n').handled ≡ (one f n).handled ++ rest)
  stays_all n zero h = ([], let e : n ≡ 0 = omega arith in rw e (sym (append-nil _)))
  stays_all n (suc k) h = go (cases_eq n (suc k)) (λ i. stays_all n k i)
    where
      go : (n ≡ suc k) ⊎ (n ≡ suc k → ⊥) → (n ≤ k → (rest : List M) × ((one f k).handled ≡ (one f n).handled ++ rest)) →
          (rest : List M) × ((one f (suc k)).handled ≡ (one f n).handled ++ rest)
      go (inl e) r = ([], rw e (sym (append-nil _)))
      go (inr d) r =
          let a = r (omega arith) in
          let b = stays k in
          (a.0 ++ b.0, b.1 ∙ (ap (λ z. z ++ b.0) a.1 ∙ append_assoc (one f n).handled a.0 b.0))

  events_stay : (n n' p : ℕ) → n ≤ n' → (rest : List M) × (events f n' p ≡ events f n p ++ rest)
  events_stay n n' p h =
      let a = stays_all n n' h in
      (events_at f.rules.order p a.0, ap (events_at f.rules.order p) a.1 ∙ filter-append (λ x. f.rules.order.receiver x == p) (one f n).handled a.0)

  -- the first events of a process are the same in every run that has so many
  pub same_first : (n n' p c : ℕ) → c ≤ length (events f n p) → c ≤ length (events f n' p) → take c (events f n p) ≡ take c (events f n' p)
  same_first n n' p c h k = go (cases_lt n n')
    where
      go : (n < n') ⊎ (n' ≤ n) → take c (events f n p) ≡ take c (events f n' p)
      go (inl i) = let a = events_stay n n' p (omega arith) in sym (ap (take c) a.1 ∙ take-append-le c (events f n p) a.0 h)
      go (inr i) = let a = events_stay n' n p i in ap (take c) a.1 ∙ take-append-le c (events f n' p) a.0 k

  -- events closed below g are those of one thread

  pub is_below : (g : ℕ) (A : ℕ → List M) → IsClosed f L g A → (p : ℕ) → IsBelow f p g (earlier f.rules.order g (A p))
  is_below g A a p = record {
    some = none_waits_from g;
    each = λ n h. one_cut f L g (events f n) A (closed f L g n h) a g (omega arith) p;
  }

  -- a beginning of them is a beginning of the run
  pub is_first : (g : ℕ) (A : ℕ → List M) → IsClosed f L g A → (p : ℕ) (ms rest : List M) → earlier f.rules.order g (A p) ≡ ms ++ rest →
      IsFirst f p (length ms) ms
  is_first g A a p ms rest e = record {
    some = (t.0, enough);
    each = λ n h. same_first n t.0 p (length ms) h enough ∙ first_ones;
  }
    where
      t : (n : ℕ) × NoneWaits f g n
      t = none_waits_from g

      all : events f t.0 p ≡ ms ++ (rest ++ filter (λ x. not (nat_lt (f.rules.order.time x) g)) (events f t.0 p))
      all =
          let c = closed f L g t.0 t.1 in
          let s = ascending-split f.rules.order L.order (λ x. nat_lt (f.rules.order.time x) g) (λ x y l q. lt-ltb _ _ (let b = less-time f.rules.order L.order x y l in let d = ltb-true _ _ q in omega arith)) (events f t.0 p) (c.ascending p) in
          let b : earlier f.rules.order g (events f t.0 p) ≡ ms ++ rest = one_cut f L g (events f t.0) A c a g (omega arith) p ∙ e in
          sym s ∙ (ap (λ z. z ++ filter (λ x. not (nat_lt (f.rules.order.time x) g)) (events f t.0 p)) b ∙ append_assoc ms rest _)

      enough : length ms ≤ length (events f t.0 p)
      enough = let b = ap length all in let c = length-append ms (rest ++ filter (λ x. not (nat_lt (f.rules.order.time x) g)) (events f t.0 p)) in omega arith

      first_ones : take (length ms) (events f t.0 p) ≡ ms
      first_ones = ap (take (length ms)) all ∙ take-append_seam ms _

  pub is_left : (p : ℕ) (ms : List M) (s : S) → IsFirst f p (length ms) ms → s ≡ reached f.rules (f.opening p) ms → IsLeft f p (length ms) s
  is_left p ms s h e = record {
    some = h.some;
    each = λ n k. ap (reached f.rules (f.opening p)) (h.each n k) ∙ sym e;
    there = λ n k.
        let a : events f n p ≡ ms = sym (take-length (events f n p)) ∙ (ap (λ c. take c (events f n p)) (sym k) ∙ h.each n (omega arith)) in
        (right f L n).states_are p ∙ (ap (reached f.rules (f.opening p)) a ∙ sym e);
  }

  -- once nothing waits, the run stays as it is: so all runs of one thread that are over are one
  event-over : (n : ℕ) → (one f n).waiting ≡ [] → one f (suc n) ≡ one f n
  unfolding one
  event-over n h = go (one f n).waiting h refl
    where
      go : (ws : List M) → ws ≡ [] → (one f n).waiting ≡ ws → handle f (one f n) (least f.rules.order ws) ≡ one f n
      go [] e d = refl
      go (w ∷ ws) e d = cc

  pub over-same : (n k : ℕ) → (one f n).waiting ≡ [] → n ≤ k → one f k ≡ one f n
  over-same n zero h i = ap (one f) (let e : 0 ≡ n = omega arith in e)
  over-same n (suc k) h i = go (cases_eq n (suc k)) (λ j. over-same n k h j)
    where
      go : (n ≡ suc k) ⊎ (n ≡ suc k → ⊥) → (n ≤ k → one f k ≡ one f n) → one f (suc k) ≡ one f n
      go (inl e) r = ap (one f) (sym e)
      go (inr d) r =
          let a : one f k ≡ one f n = r (omega arith) in
          let b : (one f k).waiting ≡ [] = ap (λ t. t.waiting) a ∙ h in
          event-over k b ∙ a
