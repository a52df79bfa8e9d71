-- The one-thread run: its events ascend, and with what waits they are just what was offered and sent.
use Rattle.std.proofs.Common.{◌≡◌, ℕ, zero, suc, ◌+◌, ◌<◌, ◌≤◌, ◌==◌, ◌⊎◌, inl, inr, true, false, not, cond, List, [], ◌∷◌, ◌++◌, Option, Some, None, refl, sym, ap, ◌∙◌, subst, arith, append-nil, eqb-true, eq-eqb, ne_eqb}
use Rattle.std.proofs.lemmas.Bool.{cases_eq, both_ways, not-true, not_from_true, not_from_false}
use Rattle.std.proofs.lemmas.List.Elements.{filter-append}
use Rattle.virtual_time.specs.Law.{Order, reached, sent, rowed, rows_of, rows_at, one_if, same, times_in, IsIn, IsAscending, least, without, events_at, Simulation, Laws, put, IsReached, made, OneThread, handle, one, events, NoneWaits}
use Rattle.virtual_time.proofs.Order.{same-refl, same_cases, different, not_less-cases}
use Rattle.virtual_time.proofs.Lists.{in-append, in-push, times-none, times-append, times-filter, times-filter_out, in-filter, filter-none}
use Rattle.virtual_time.proofs.Ascending.{ascending-filter, ascending-push}
use Rattle.virtual_time.proofs.Least.{least-some, IsLeast}
use Rattle.virtual_time.proofs.Sends.{made-once}
use Rattle.virtual_time.proofs.Handling.{reached-append, sent-append, rowed-append}
use Rattle.virtual_time.proofs.Cut.{IsClosed}

pub put_same : {X : Type 0} (p q : ℕ) (x : X) (g : ℕ → X) → q ≡ p → put p x g q ≡ x
put_same p q x g e = rw (eq-eqb q p e) refl

pub put_other : {X : Type 0} (p q : ℕ) (x : X) (g : ℕ → X) → (q ≡ p → ⊥) → put p x g q ≡ g q
put_other p q x g n = rw (ne_eqb q p n) refl

-- the rows of one event are at its receiver
pub rows-mine : {M N : Type 0} (o : Order M) (q : ℕ) (m : M) → o.receiver m ≡ q → (ns : List N) → rows_at q (rows_of o m ns) ≡ rows_of o m ns
rows-mine o q m e [] = refl
rows-mine o q m e (n ∷ ns) = rw (eq-eqb (o.receiver m) q e) (ap (λ z. record { message = m; place = o.receiver m; note = n } ∷ z) (rows-mine o q m e ns))

-- and none at another process
pub rows-other : {M N : Type 0} (o : Order M) (q : ℕ) (m : M) → (o.receiver m ≡ q → ⊥) → (ns : List N) → rows_at q (rows_of o m ns) ≡ []
rows-other o q m d [] = refl
rows-other o q m d (n ∷ ns) = rw (ne_eqb (o.receiver m) q d) (rows-other o q m d ns)

module _ {M S K N : Type 0} (f : Simulation M S K N) (L : Laws f) where
  -- what holds after each event
  pub record IsRight (t : OneThread M S N) : Type 0 where
    pub states_are : (p : ℕ) → t.states p ≡ reached f.rules (f.opening p) (events_at f.rules.order p t.handled)
    pub ascending : IsAscending f.rules.order t.handled
    -- each message handled comes before each that waits
    pub above : (a b : M) → IsIn f.rules.order a t.handled → IsIn f.rules.order b t.waiting → f.rules.order.less a b ≡ true
    -- each message made was handled or waits
    pub balance : (m : M) → times_in f.rules.order m t.handled + times_in f.rules.order m t.waiting ≡ made f (λ p. events_at f.rules.order p t.handled) m
    pub handled_here : (m : M) → IsIn f.rules.order m t.handled → f.rules.order.receiver m < f.processes
    pub waiting_here : (m : M) → IsIn f.rules.order m t.waiting → f.rules.order.receiver m < f.processes
    pub in_time : (m : M) → IsIn f.rules.order m t.waiting → f.rules.order.time m ≤ f.until
    pub handled_in_time : (m : M) → IsIn f.rules.order m t.handled → f.rules.order.time m ≤ f.until
    pub rows_are : (p : ℕ) → rows_at p t.rows ≡ rowed f.rules (f.opening p) (events_at f.rules.order p t.handled)

  pub nothing_outside : (ms : List M) → ((m : M) → IsIn f.rules.order m ms → f.rules.order.receiver m < f.processes) →
      (p : ℕ) → f.processes ≤ p → events_at f.rules.order p ms ≡ []
  nothing_outside ms h p i =
      filter-none f.rules.order L.order (λ m. f.rules.order.receiver m == p) ms (λ m j. ne_eqb _ _ (λ e. let k = h m j in absurd (omega arith)))

  -- the events at q after one more
  pub events-push : (q : ℕ) (ms : List M) (m : M) → f.rules.order.receiver m ≡ q → events_at f.rules.order q (ms ++ m ∷ []) ≡ events_at f.rules.order q ms ++ m ∷ []
  events-push q ms m e =
      filter-append (λ x. f.rules.order.receiver x == q) ms (m ∷ []) ∙ ap (λ b. events_at f.rules.order q ms ++ cond b (m ∷ []) []) (eq-eqb _ _ e)

  pub events-push_other : (q : ℕ) (ms : List M) (m : M) → (f.rules.order.receiver m ≡ q → ⊥) → events_at f.rules.order q (ms ++ m ∷ []) ≡ events_at f.rules.order q ms
  events-push_other q ms m n =
      filter-append (λ x. f.rules.order.receiver x == q) ms (m ∷ []) ∙ (ap (λ b. events_at f.rules.order q ms ++ cond b (m ∷ []) []) (ne_eqb _ _ n) ∙ append-nil _)

  -- what is made after one more event of p
  pub sent-push : (p : ℕ) (ms : List M) (m x : M) →
      times_in f.rules.order x (sent f.rules (f.opening p) (ms ++ m ∷ [])) ≡ times_in f.rules.order x (sent f.rules (f.opening p) ms) + times_in f.rules.order x (f.rules.sends (reached f.rules (f.opening p) ms) m)
  sent-push p ms m x =
      let e : sent f.rules (f.opening p) (ms ++ m ∷ []) ≡ sent f.rules (f.opening p) ms ++ (f.rules.sends (reached f.rules (f.opening p) ms) m ++ []) = sent-append f.rules (f.opening p) ms (m ∷ []) in
      let a = ap (times_in f.rules.order x) e in
      let b = times-append f.rules.order L.order x (sent f.rules (f.opening p) ms) (f.rules.sends (reached f.rules (f.opening p) ms) m ++ []) in
      let c = times-append f.rules.order L.order x (f.rules.sends (reached f.rules (f.opening p) ms) m) [] in
      omega arith

  module _ (t : OneThread M S N) (I : IsRight t) (m : M) (l : IsLeast f.rules.order L.order m t.waiting) where
    p : ℕ
    p = f.rules.order.receiver m

    abbrev now : S
    now = t.states (f.rules.order.receiver m)

    now_is : now ≡ reached f.rules (f.opening (f.rules.order.receiver m)) (events_at f.rules.order (f.rules.order.receiver m) t.handled)
    now_is = I.states_are (f.rules.order.receiver m)

    inside : f.rules.order.receiver m < f.processes
    inside = I.waiting_here m l.inside

    now_reached : IsReached f (f.rules.order.receiver m) now
    now_reached = (events_at f.rules.order (f.rules.order.receiver m) t.handled, now_is)

    abbrev next : OneThread M S N
    next = handle f t (Some m)

    waits-once : times_in f.rules.order m t.waiting ≡ 1
    waits-once =
        let a = made-once f L (λ q. events_at f.rules.order q t.handled) (nothing_outside t.handled I.handled_here) m in
        let b = I.balance m in
        let c = l.inside in
        omega arith

    pub times-without : (x : M) → times_in f.rules.order x (without f.rules.order m t.waiting) + one_if (same f.rules.order x m) ≡ times_in f.rules.order x t.waiting
    times-without x = go (same_cases f.rules.order L.order x m)
      where
        go : (x ≡ m) ⊎ (same f.rules.order x m ≡ false) → times_in f.rules.order x (without f.rules.order m t.waiting) + one_if (same f.rules.order x m) ≡ times_in f.rules.order x t.waiting
        go (inl e) =
            let a = times-filter_out f.rules.order L.order (λ y. not (same f.rules.order m y)) m t.waiting (not_from_true _ (same-refl f.rules.order L.order m)) in
            let b = ap one_if (same-refl f.rules.order L.order m) in
            let c : times_in f.rules.order m (without f.rules.order m t.waiting) + one_if (same f.rules.order m m) ≡ times_in f.rules.order m t.waiting = let d = waits-once in omega arith in
            subst (λ y. times_in f.rules.order y (without f.rules.order m t.waiting) + one_if (same f.rules.order y m) ≡ times_in f.rules.order y t.waiting) (sym e) c
        go (inr n) =
            let n' : same f.rules.order m x ≡ false = different f.rules.order L.order m x (λ e. both_ways _ n (subst (λ y. same f.rules.order x y ≡ true) (sym e) (same-refl f.rules.order L.order x))) in
            let a = times-filter f.rules.order L.order (λ y. not (same f.rules.order m y)) x t.waiting (not_from_false _ n') in
            let b = ap one_if n in
            omega arith

    -- what waits next waited before, and is not m, or is sent now
    waits-cases : (b : M) → IsIn f.rules.order b next.waiting → ((same f.rules.order m b ≡ false) × IsIn f.rules.order b t.waiting) ⊎ IsIn f.rules.order b (f.rules.sends now m)
    waits-cases b j = go (in-append f.rules.order L.order b (without f.rules.order m t.waiting) (f.rules.sends now m) j)
      where
        go : IsIn f.rules.order b (without f.rules.order m t.waiting) ⊎ IsIn f.rules.order b (f.rules.sends now m) → ((same f.rules.order m b ≡ false) × IsIn f.rules.order b t.waiting) ⊎ IsIn f.rules.order b (f.rules.sends now m)
        go (inl k) = let q = in-filter f.rules.order L.order (λ y. not (same f.rules.order m y)) b t.waiting k in inl (not-true _ q.0, q.1)
        go (inr k) = inr k

    handled-cases : (a : M) → IsIn f.rules.order a (t.handled ++ m ∷ []) → IsIn f.rules.order a t.handled ⊎ (a ≡ m)
    handled-cases a j = in-push f.rules.order L.order a m t.handled j

    m-below : (b : M) → IsIn f.rules.order b next.waiting → f.rules.order.less m b ≡ true
    m-below b j = go (waits-cases b j)
      where
        go : ((same f.rules.order m b ≡ false) × IsIn f.rules.order b t.waiting) ⊎ IsIn f.rules.order b (f.rules.sends now m) → f.rules.order.less m b ≡ true
        go (inl k) = elim (not_less-cases f.rules.order L.order b m (l.lowest b k.1)) [ inl e ↦ absurd (both_ways _ k.0 (subst (λ y. same f.rules.order m y ≡ true) e (same-refl f.rules.order L.order m))) | inr h ↦ h ]
        go (inr k) = L.order.by_time m b (L.later (f.rules.order.receiver m) inside now now_reached m b k)

    made-next : (x : M) → made f (λ q. events_at f.rules.order q next.handled) x ≡ made f (λ q. events_at f.rules.order q t.handled) x + times_in f.rules.order x (f.rules.sends now m)
    made-next x = go (cases_eq (f.rules.order.receiver m) (f.rules.order.sender x))
      where
        go : (f.rules.order.receiver m ≡ f.rules.order.sender x) ⊎ (f.rules.order.receiver m ≡ f.rules.order.sender x → ⊥) →
            made f (λ q. events_at f.rules.order q next.handled) x ≡ made f (λ q. events_at f.rules.order q t.handled) x + times_in f.rules.order x (f.rules.sends now m)
        go (inl e) =
            let a = ap (λ ms. times_in f.rules.order x (sent f.rules (f.opening (f.rules.order.sender x)) ms)) (events-push (f.rules.order.sender x) t.handled m e) in
            let b = sent-push (f.rules.order.sender x) (events_at f.rules.order (f.rules.order.sender x) t.handled) m x in
            let c : times_in f.rules.order x (f.rules.sends now m) ≡ times_in f.rules.order x (f.rules.sends (reached f.rules (f.opening (f.rules.order.sender x)) (events_at f.rules.order (f.rules.order.sender x) t.handled)) m) =
            ap (λ s. times_in f.rules.order x (f.rules.sends s m)) now_is ∙ ap (λ q. times_in f.rules.order x (f.rules.sends (reached f.rules (f.opening q) (events_at f.rules.order q t.handled)) m)) e in
            omega arith
        go (inr n) =
            let a = ap (λ ms. times_in f.rules.order x (sent f.rules (f.opening (f.rules.order.sender x)) ms)) (events-push_other (f.rules.order.sender x) t.handled m n) in
            let b : times_in f.rules.order x (f.rules.sends now m) ≡ 0 =
            times-none f.rules.order L.order x (f.rules.sends now m) (λ k. n (sym (L.sender_is (f.rules.order.receiver m) inside now now_reached m x k))) in
            omega arith

    rows : (q : ℕ) → rows_at q next.rows ≡ rowed f.rules (f.opening q) (events_at f.rules.order q next.handled)
    rows q = elim (cases_eq (f.rules.order.receiver m) q) [ inl e ↦ here e | inr n ↦ there n ]
      where
        split : rows_at q next.rows ≡ rows_at q t.rows ++ rows_at q (rows_of f.rules.order m (f.rules.notes now m))
        split = filter-append (λ x. x.place == q) t.rows (rows_of f.rules.order m (f.rules.notes now m))

        here : f.rules.order.receiver m ≡ q → rows_at q next.rows ≡ rowed f.rules (f.opening q) (events_at f.rules.order q next.handled)
        here e =
            let a = ap (λ z. rows_at q t.rows ++ z) (rows-mine f.rules.order q m e (f.rules.notes now m)) in
            let b = ap (λ z. z ++ rows_of f.rules.order m (f.rules.notes now m)) (I.rows_are q) in
            let c : rowed f.rules (f.opening q) (events_at f.rules.order q next.handled) ≡ rowed f.rules (f.opening q) (events_at f.rules.order q t.handled) ++ (rows_of f.rules.order m (f.rules.notes (reached f.rules (f.opening q) (events_at f.rules.order q t.handled)) m) ++ []) =
            ap (rowed f.rules (f.opening q)) (events-push q t.handled m e) ∙ rowed-append f.rules (f.opening q) (events_at f.rules.order q t.handled) (m ∷ []) in
            let d : reached f.rules (f.opening q) (events_at f.rules.order q t.handled) ≡ now =
            sym (I.states_are q) ∙ ap t.states (sym e) in
            let g : rows_of f.rules.order m (f.rules.notes (reached f.rules (f.opening q) (events_at f.rules.order q t.handled)) m) ++ [] ≡ rows_of f.rules.order m (f.rules.notes now m) =
            append-nil _ ∙ ap (λ z. rows_of f.rules.order m (f.rules.notes z m)) d in
            split ∙ (a ∙ (b ∙ (sym (ap (λ z. rowed f.rules (f.opening q) (events_at f.rules.order q t.handled) ++ z) g) ∙ sym c)))

        there : (f.rules.order.receiver m ≡ q → ⊥) → rows_at q next.rows ≡ rowed f.rules (f.opening q) (events_at f.rules.order q next.handled)
        there n =
            split ∙ (ap (λ z. rows_at q t.rows ++ z) (rows-other f.rules.order q m n (f.rules.notes now m)) ∙
            (append-nil _ ∙ (I.rows_are q ∙ sym (ap (rowed f.rules (f.opening q)) (events-push_other q t.handled m n)))))

    pub right-next : IsRight next
    right-next = record {
      states_are = states;
      ascending = ascending-push f.rules.order L.order t.handled m I.ascending (λ a i. I.above a m i l.inside);
      above = λ a b i j. elim (handled-cases a i) [ inl k ↦ old a b k (waits-cases b j) | inr e ↦ subst (λ y. f.rules.order.less y b ≡ true) (sym e) (m-below b j) ];
      balance = λ x. balanced x;
      handled_here = λ x i. elim (handled-cases x i) [ inl k ↦ I.handled_here x k | inr e ↦ subst (λ y. f.rules.order.receiver y < f.processes) (sym e) inside ];
      waiting_here = λ x i. elim (waits-cases x i) [ inl k ↦ I.waiting_here x k.1 | inr k ↦ L.receiver_in (f.rules.order.receiver m) inside now now_reached m x k ];
      handled_in_time = λ x i. elim (handled-cases x i) [ inl k ↦ I.handled_in_time x k | inr e ↦ subst (λ y. f.rules.order.time y ≤ f.until) (sym e) (I.in_time m l.inside) ];
      rows_are = rows;
      in_time = λ x i. elim (waits-cases x i) [ inl k ↦ I.in_time x k.1 | inr k ↦ L.in_time (f.rules.order.receiver m) inside now now_reached m x k ];
    }
      where
        states : (q : ℕ) → next.states q ≡ reached f.rules (f.opening q) (events_at f.rules.order q next.handled)
        states q = elim (cases_eq (f.rules.order.receiver m) q) [ inl e ↦ here e | inr n ↦ there n ]
          where
            here : f.rules.order.receiver m ≡ q → next.states q ≡ reached f.rules (f.opening q) (events_at f.rules.order q next.handled)
            here e =
                let a : next.states q ≡ f.rules.after now m = put_same (f.rules.order.receiver m) q _ t.states (sym e) in
                let b : f.rules.after now m ≡ f.rules.after (reached f.rules (f.opening q) (events_at f.rules.order q t.handled)) m =
                ap (λ s. f.rules.after s m) now_is ∙ ap (λ r. f.rules.after (reached f.rules (f.opening r) (events_at f.rules.order r t.handled)) m) e in
                let c : reached f.rules (f.opening q) (events_at f.rules.order q next.handled) ≡ f.rules.after (reached f.rules (f.opening q) (events_at f.rules.order q t.handled)) m =
                ap (reached f.rules (f.opening q)) (events-push q t.handled m e) ∙ reached-append f.rules (f.opening q) (events_at f.rules.order q t.handled) (m ∷ []) in
                a ∙ (b ∙ sym c)

            there : (f.rules.order.receiver m ≡ q → ⊥) → next.states q ≡ reached f.rules (f.opening q) (events_at f.rules.order q next.handled)
            there n =
                put_other (f.rules.order.receiver m) q _ t.states (λ e. n (sym e)) ∙ (I.states_are q ∙ sym (ap (reached f.rules (f.opening q)) (events-push_other q t.handled m n)))

        old : (a b : M) → IsIn f.rules.order a t.handled → ((same f.rules.order m b ≡ false) × IsIn f.rules.order b t.waiting) ⊎ IsIn f.rules.order b (f.rules.sends now m) → f.rules.order.less a b ≡ true
        old a b k (inl j) = I.above a b k j.1
        old a b k (inr j) = L.order.transitive a m b (I.above a m k l.inside) (L.order.by_time m b (L.later (f.rules.order.receiver m) inside now now_reached m b j))

        balanced : (x : M) → times_in f.rules.order x next.handled + times_in f.rules.order x next.waiting ≡ made f (λ q. events_at f.rules.order q next.handled) x
        balanced x =
            let a = times-append f.rules.order L.order x t.handled (m ∷ []) in
            let b = times-append f.rules.order L.order x (without f.rules.order m t.waiting) (f.rules.sends now m) in
            let c = times-without x in
            let d = I.balance x in
            let e = made-next x in
            omega arith

  pub right : (n : ℕ) → IsRight (one f n)
  unfolding one
  right zero = record {
    states_are = λ p. refl;
    ascending = tt;
    above = λ a b i j. absurd (omega arith);
    balance = λ m. omega arith;
    handled_here = λ m i. absurd (omega arith);
    waiting_here = L.offered_to;
    in_time = L.offered_in_time;
    handled_in_time = λ m i. absurd (omega arith);
    rows_are = λ p. refl;
  }
  right (suc n) = go (least f.rules.order (one f n).waiting) refl (right n)
    where
      go : (o : Option M) → least f.rules.order (one f n).waiting ≡ o → IsRight (one f n) → IsRight (handle f (one f n) o)
      go None e h = h
      go (Some m) e h = right-next (one f n) h m (least-some f.rules.order L.order (one f n).waiting m e)

  -- where nothing that waits is earlier than g, the events are closed below g
  pub closed : (g n : ℕ) → NoneWaits f g n → IsClosed f L g (events f n)
  closed g n h = record {
    ascending = λ p. ascending-filter f.rules.order L.order (λ m. f.rules.order.receiver m == p) (one f n).handled (right n).ascending;
    here = λ p m i. eqb-true _ _ (in-filter f.rules.order L.order (λ x. f.rules.order.receiver x == p) m (one f n).handled i).0;
    outside = nothing_outside (one f n).handled (right n).handled_here;
    just_made = λ m i.
        let a = (right n).balance m in
        let b : times_in f.rules.order m (one f n).waiting ≡ 0 = times-none f.rules.order L.order m (one f n).waiting (λ k. let c = h m k in absurd (omega arith)) in
        let c = times-filter f.rules.order L.order (λ x. f.rules.order.receiver x == f.rules.order.receiver m) m (one f n).handled (eq-eqb _ _ refl) in
        omega arith;
  }
