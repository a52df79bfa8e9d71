-- Each event keeps it that the run with processes ahead stands for the plain run.
use Rattle.std.proofs.Common.{◌≡◌, ℕ, ◌+◌, ◌<◌, ◌≤◌, ◌⊎◌, inl, inr, Bool, true, false, not, List, [], ◌∷◌, ◌++◌, filter, Some, refl, sym, ap, ◌∙◌, subst, arith, append-nil}
use Rattle.std.proofs.lemmas.Bool.{cases_eq, cases_Bool, cases_lt, both_ways, not_from_true, not_from_false}
use Rattle.std.proofs.lemmas.List.Elements.{filter-append}
use Rattle.virtual_time.specs.Law.{Order, IsOrder, IsIn, IsReached, Laws, OneThread, Simulation, events_at, handle, made, one_if, reached, rows_of, same, sent, times_in, without}
use Rattle.virtual_time.proofs.Order.{different, less-asym, not_less-time, same-refl, same_cases}
use Rattle.virtual_time.proofs.Lists.{filter-all, in-append, in-cons, in-filter, times-append, times-filter, times-filter_out, times-none}
use Rattle.virtual_time.proofs.Handling.{reached-append, sent-append}
use Rattle.virtual_time.proofs.Least.{IsLeast}
use Rattle.virtual_time.proofs.Sends.{IsReached-after, made-once, sends-later, sends-sender}
use Rattle.virtual_time.proofs.OneThread.{IsRight, events-push, events-push_other, nothing_outside, put_same, put_other, sent-push}
use Rattle.runs_ahead.specs.Ahead.{handle_ahead, in_place_of, is_ahead, next_states, passed_all}
use Rattle.runs_ahead.specs.Standing.{RunAhead, StandsFor, events_ahead, is_to, sent_to}
use Rattle.runs_ahead.proofs.Passing.{AllReached, answer-all, not-its, place-behind, plain-all, passed_all-ahead, passed_all-behind}

module _ {M : Type 0} (o : Order M) (O : IsOrder o) where
  -- a message that is in a list once, taken out
  pub times-taken : (m : M) (ws : List M) → times_in o m ws ≡ 1 → (x : M) → times_in o x (without o m ws) + one_if (same o x m) ≡ times_in o x ws
  times-taken m ws once x = go (same_cases o O x m)
    where
      go : (x ≡ m) ⊎ (same o x m ≡ false) → times_in o x (without o m ws) + one_if (same o x m) ≡ times_in o x ws
      go (inl e) =
          let a = times-filter_out o O (λ y. not (same o m y)) m ws (not_from_true _ (same-refl o O m)) in
          let b = ap one_if (same-refl o O m) in
          let c : times_in o m (without o m ws) + one_if (same o m m) ≡ times_in o m ws = omega arith in
          subst (λ y. times_in o y (without o m ws) + one_if (same o y m) ≡ times_in o y ws) (sym e) c
      go (inr n) =
          let n' : same o m x ≡ false = different o O m x (λ e. both_ways _ n (subst (λ y. same o x y ≡ true) (sym e) (same-refl o O x))) in
          let a = times-filter o O (λ y. not (same o m y)) x ws (not_from_false _ n') in
          let b = ap one_if n in
          omega arith

module _ {M S K N : Type 0} (f : Simulation M S K N) (L : Laws f) (ahead : ℕ → Bool) (from : ℕ → ℕ) (R : RunAhead f ahead from) where
  -- ---- a state of the plain run

  module _ (T : OneThread M S N) (I : IsRight f L T) where
    abbrev events : ℕ → List M
    events q = events_at f.rules.order q T.handled

    pub behind-is : (q : ℕ) → ahead q ≡ false → events_ahead f ahead from T q ≡ events q
    behind-is q h = rw h refl

    pub ahead-is : (k : ℕ) → ahead k ≡ true → events_ahead f ahead from T k ≡ sent_to f ahead from T k
    ahead-is k h = rw h refl

    outside : (q : ℕ) → f.processes ≤ q → events_ahead f ahead from T q ≡ []
    outside q i = elim (cases_Bool (ahead q)) [
      | inl h ↦ absurd (let a = R.inside q h in omega arith)
      | inr h ↦ behind-is q h ∙ nothing_outside f L T.handled I.handled_here q i
    ]

    -- what process k has still to handle in the plain run
    pub record Rest (k : ℕ) : Type 0 where
      pub rest : List M
      pub split : sent_to f ahead from T k ≡ events k ++ rest
      pub waits : (e : M) → IsIn f.rules.order e rest → IsIn f.rules.order e T.waiting

    pub rest-of : (k : ℕ) → ahead k ≡ true → (rest : List M) → sent_to f ahead from T k ≡ filter (is_to f k) (events k) ++ rest → Rest k
    rest-of k h rest e = record { rest = rest; split = split; waits = waits }
      where
        split : sent_to f ahead from T k ≡ events k ++ rest
        split = e ∙ ap (λ z. z ++ rest) (filter-all f.rules.order L.order (is_to f k) (events k) (λ m i. (in-filter f.rules.order L.order (is_to f k) m T.handled i).0))

        waits : (e : M) → IsIn f.rules.order e rest → IsIn f.rules.order e T.waiting
        waits e i =
            let a : times_in f.rules.order e (sent_to f ahead from T k) ≡ times_in f.rules.order e (events k) + times_in f.rules.order e rest = ap (times_in f.rules.order e) split ∙ times-append f.rules.order L.order e (events k) rest in
            let all = sent f.rules (f.opening (from k)) (events (from k)) in
            let b : (is_to f k e ≡ true) × IsIn f.rules.order e all = in-filter f.rules.order L.order (is_to f k) e all (omega arith) in
            let c : times_in f.rules.order e (sent_to f ahead from T k) ≡ times_in f.rules.order e all = times-filter f.rules.order L.order (is_to f k) e all b.0 in
            let s : f.rules.order.sender e ≡ from k = sends-sender f L (from k) (R.from_inside k h) (f.opening (from k)) ([], refl) (events (from k)) e b.1 in
            let d : made f events e ≡ times_in f.rules.order e f.offers + times_in f.rules.order e all = ap (λ q. times_in f.rules.order e f.offers + times_in f.rules.order e (sent f.rules (f.opening q) (events q))) s in
            let u : times_in f.rules.order e (events k) ≡ times_in f.rules.order e T.handled = times-filter f.rules.order L.order (is_to f k) e T.handled b.0 in
            let v = I.balance e in
            omega arith

    module _ (rests : (k : ℕ) → ahead k ≡ true → Rest k) where
      -- what is made by the events ahead: of a process that runs ahead, also what the rest makes
      made-behind : (x : M) → ahead (f.rules.order.sender x) ≡ false → made f (events_ahead f ahead from T) x ≡ made f events x
      made-behind x h = ap (λ ms. times_in f.rules.order x f.offers + times_in f.rules.order x (sent f.rules (f.opening (f.rules.order.sender x)) ms)) (behind-is (f.rules.order.sender x) h)

      made-ahead : (x : M) (h : ahead (f.rules.order.sender x) ≡ true) → made f (events_ahead f ahead from T) x
          ≡ made f events x + times_in f.rules.order x (sent f.rules (reached f.rules (f.opening (f.rules.order.sender x)) (events (f.rules.order.sender x))) (rests (f.rules.order.sender x) h).rest)
      made-ahead x h =
          let k = f.rules.order.sender x in
          let r = rests k h in
          let a : events_ahead f ahead from T k ≡ events k ++ r.rest = ahead-is k h ∙ r.split in
          let b = ap (λ ms. times_in f.rules.order x (sent f.rules (f.opening k) ms)) a in
          let c = ap (times_in f.rules.order x) (sent-append f.rules (f.opening k) (events k) r.rest) in
          let d = times-append f.rules.order L.order x (sent f.rules (f.opening k) (events k)) (sent f.rules (reached f.rules (f.opening k) (events k)) r.rest) in
          omega arith

      -- ---- its next event is that of m

      module _ (t : OneThread M S N) (Z : StandsFor f ahead from T t) where
        -- what waits there waits in the plain run, or is later than something that waits in the plain run
        waits-there : (y : M) → IsIn f.rules.order y t.waiting → IsIn f.rules.order y T.waiting ⊎ ((u : ℕ) → ((e : M) → IsIn f.rules.order e T.waiting → u ≤ f.rules.order.time e) → u < f.rules.order.time y)
        waits-there y i = elim (cases_Bool (ahead (f.rules.order.sender y))) [ inl h ↦ by_ahead h (cases_lt 0 (times_in f.rules.order y T.waiting)) | inr h ↦ inl (let a = made-behind y h in let b = Z.waits y (Z.none_ahead y i) in let c = I.balance y in omega arith) ]
          where
            by_ahead : ahead (f.rules.order.sender y) ≡ true → (0 < times_in f.rules.order y T.waiting) ⊎ (times_in f.rules.order y T.waiting ≤ 0) →
                IsIn f.rules.order y T.waiting ⊎ ((u : ℕ) → ((e : M) → IsIn f.rules.order e T.waiting → u ≤ f.rules.order.time e) → u < f.rules.order.time y)
            by_ahead h (inl j) = inl j
            by_ahead h (inr j) = inr (λ u c.
                let k = f.rules.order.sender y in
                sends-later f L k (R.inside k h) u (reached f.rules (f.opening k) (events k)) (events k, refl) (rests k h).rest (λ e l. c e ((rests k h).waits e l)) y
                (let a = made-ahead y h in let b = Z.waits y (Z.none_ahead y i) in let d = I.balance y in omega arith))

        pub none-there : T.waiting ≡ [] → (y : M) → IsIn f.rules.order y t.waiting → ⊥
        none-there e y i = elim (waits-there y i) [
          | inl j ↦ (let a = ap (times_in f.rules.order y) e in absurd (omega arith))
          | inr c ↦ (let a = c (f.rules.order.time y) (λ x j. absurd (let b = ap (times_in f.rules.order x) e in omega arith)) in absurd (omega arith))
        ]

        module _ (m : M) (l : IsLeast f.rules.order L.order m T.waiting) where
          -- m is for a process that runs ahead: nothing changes
          module _ (h : is_ahead f ahead m ≡ true) where
            pub quiet-events : (q : ℕ) → events_ahead f ahead from (handle f T (Some m)) q ≡ events_ahead f ahead from T q
            quiet-events q = elim (cases_Bool (ahead q)) [
              | inl k ↦ rw k (ap (λ ms. filter (is_to f q) (sent f.rules (f.opening (from q)) ms)) (events-push_other f L (from q) T.handled m (λ e. both_ways _ (R.from_behind q k) (ap ahead (sym e) ∙ h))))
              | inr k ↦ rw k (events-push_other f L q T.handled m (λ e. both_ways _ k (ap ahead (sym e) ∙ h)))
            ]

            pub quiet : StandsFor f ahead from (handle f T (Some m)) t
            quiet = record {
              states_are = λ q. Z.states_are q ∙ ap (reached f.rules (f.opening q)) (sym (quiet-events q));
              waits = λ x b.
                  let a = times-append f.rules.order L.order x T.handled (m ∷ []) in
                  let c = times-none f.rules.order L.order x (m ∷ []) (λ i. elim (in-cons f.rules.order L.order x m [] i) [ inl e ↦ both_ways _ b (ap (λ z. ahead (f.rules.order.receiver z)) e ∙ h) | inr none ↦ absurd (omega arith) ]) in
                  let d = Z.waits x b in
                  let e = ap (λ ms. times_in f.rules.order x f.offers + times_in f.rules.order x (sent f.rules (f.opening (f.rules.order.sender x)) ms)) (quiet-events (f.rules.order.sender x)) in
                  omega arith;
              none_ahead = Z.none_ahead;
              rows_are =
                  let p = f.rules.order.receiver m in
                  let n : f.rules.notes (T.states p) m ≡ [] = R.notes_nothing p h (T.states p) (events p, I.states_are p) m in
                  Z.rows_are ∙ sym (ap (λ ns. T.rows ++ rows_of f.rules.order m ns) n ∙ append-nil T.rows);
            }

          -- m is for a process that does not run ahead: it is the first that waits there as well
          module _ (h : is_ahead f ahead m ≡ false) where
            abbrev p : ℕ
            p = f.rules.order.receiver m

            abbrev next : OneThread M S N
            next = handle f T (Some m)

            abbrev out : List M
            out = f.rules.sends (t.states (f.rules.order.receiver m)) m

            abbrev g : ℕ → S
            g = next_states f ahead t.states m

            more : made f events m ≤ made f (events_ahead f ahead from T) m
            more = elim (cases_Bool (ahead (f.rules.order.sender m))) [ inl k ↦ (let a = made-ahead m k in omega arith) | inr k ↦ (let a = made-behind m k in omega arith) ]

            pub waits-once : times_in f.rules.order m t.waiting ≡ 1
            waits-once =
                let a = made-once f L (events_ahead f ahead from T) outside m in
                let b = Z.waits m h in
                let c = I.balance m in
                let d = more in
                let e = l.inside in
                omega arith

            pub first-there : IsLeast f.rules.order L.order m t.waiting
            first-there = record {
              inside = let a = waits-once in omega arith;
              lowest = λ y i. elim (waits-there y i) [
                | inl j ↦ l.lowest y j
                | inr c ↦ less-asym f.rules.order L.order m y (L.order.by_time m y (c (f.rules.order.time m) (λ e j. not_less-time f.rules.order L.order e m (l.lowest e j))))
              ];
            }

            pub same-state : t.states (f.rules.order.receiver m) ≡ T.states (f.rules.order.receiver m)
            same-state = Z.states_are p ∙ (ap (reached f.rules (f.opening p)) (behind-is p h) ∙ sym (I.states_are p))

            pub state-is : t.states (f.rules.order.receiver m) ≡ reached f.rules (f.opening (f.rules.order.receiver m)) (events (f.rules.order.receiver m))
            state-is = Z.states_are p ∙ ap (reached f.rules (f.opening p)) (behind-is p h)

            is-reached : (q : ℕ) → IsReached f q (t.states q)
            is-reached q = (events_ahead f ahead from T q, Z.states_are q)

            pub g-other : (q : ℕ) → ahead q ≡ true → g q ≡ t.states q
            g-other q k = put_other p q _ t.states (λ e. both_ways _ h (ap ahead (sym e) ∙ k))

            pub all-reached : AllReached f ahead g
            all-reached q = elim (cases_eq p q) [
              | inl e ↦ subst (IsReached f q) (sym (put_same p q _ t.states (sym e) ∙ ap (λ r. f.rules.after (t.states r) m) e)) (IsReached-after f L q (t.states q) m (is-reached q))
              | inr n ↦ subst (IsReached f q) (sym (put_other p q _ t.states (λ e. n (sym e)))) (is-reached q)
            ]

            -- the events ahead after this one
            pub grown-ahead : (k : ℕ) → ahead k ≡ true → events_ahead f ahead from next k ≡ events_ahead f ahead from T k ++ filter (is_to f k) out
            grown-ahead k hk = elim (cases_eq p (from k)) [ inl e ↦ rw hk (here e) | inr n ↦ rw hk (there n) ]
              where
                here : p ≡ from k → sent_to f ahead from next k ≡ sent_to f ahead from T k ++ filter (is_to f k) out
                here e =
                    let a = ap (λ ms. filter (is_to f k) (sent f.rules (f.opening (from k)) ms)) (events-push f L (from k) T.handled m e) in
                    let b = ap (filter (is_to f k)) (sent-append f.rules (f.opening (from k)) (events (from k)) (m ∷ [])) in
                    let c = filter-append (is_to f k) (sent f.rules (f.opening (from k)) (events (from k))) (f.rules.sends (reached f.rules (f.opening (from k)) (events (from k))) m ++ []) in
                    let s : reached f.rules (f.opening (from k)) (events (from k)) ≡ t.states p = sym (state-is ∙ ap (λ q. reached f.rules (f.opening q) (events q)) e) in
                    a ∙ (b ∙ (c ∙ ap (λ z. sent_to f ahead from T k ++ filter (is_to f k) z) (append-nil _ ∙ ap (λ z. f.rules.sends z m) s)))

                there : (p ≡ from k → ⊥) → sent_to f ahead from next k ≡ sent_to f ahead from T k ++ filter (is_to f k) out
                there n =
                    let a = ap (λ ms. filter (is_to f k) (sent f.rules (f.opening (from k)) ms)) (events-push_other f L (from k) T.handled m n) in
                    let none : filter (is_to f k) out ≡ [] = (R.channel k hk).by_none p (I.waiting_here m l.inside) n (t.states p) (is-reached p) m in
                    a ∙ (sym (append-nil _) ∙ ap (λ z. sent_to f ahead from T k ++ z) (sym none))

            pub grown-own : (q : ℕ) → ahead q ≡ false → p ≡ q → events_ahead f ahead from next q ≡ events q ++ m ∷ []
            grown-own q hq e = rw hq (events-push f L q T.handled m e)

            pub grown-other : (q : ℕ) → ahead q ≡ false → (p ≡ q → ⊥) → events_ahead f ahead from next q ≡ events q
            grown-other q hq n = rw hq (events-push_other f L q T.handled m n)

            states-next : (q : ℕ) → passed_all f ahead g out q ≡ reached f.rules (f.opening q) (events_ahead f ahead from next q)
            states-next q = elim (cases_Bool (ahead q)) [ inl k ↦ by_ahead k | inr k ↦ passed_all-behind f ahead g out q k ∙ elim (cases_eq p q) [ inl e ↦ own k e | inr n ↦ other k n ] ]
              where
                by_ahead : ahead q ≡ true → passed_all f ahead g out q ≡ reached f.rules (f.opening q) (events_ahead f ahead from next q)
                by_ahead k =
                    passed_all-ahead f ahead g out q k ∙ (ap (λ s. reached f.rules s (filter (is_to f q) out)) (g-other q k ∙ Z.states_are q) ∙
                    (sym (reached-append f.rules (f.opening q) (events_ahead f ahead from T q) (filter (is_to f q) out)) ∙ sym (ap (reached f.rules (f.opening q)) (grown-ahead q k))))

                own : ahead q ≡ false → p ≡ q → g q ≡ reached f.rules (f.opening q) (events_ahead f ahead from next q)
                own k e =
                    put_same p q _ t.states (sym e) ∙ (ap (λ s. f.rules.after s m) state-is ∙ (ap (λ r. f.rules.after (reached f.rules (f.opening r) (events r)) m) e ∙
                    (sym (reached-append f.rules (f.opening q) (events q) (m ∷ [])) ∙ sym (ap (reached f.rules (f.opening q)) (grown-own q k e)))))

                other : ahead q ≡ false → (p ≡ q → ⊥) → g q ≡ reached f.rules (f.opening q) (events_ahead f ahead from next q)
                other k n = put_other p q _ t.states (λ e. n (sym e)) ∙ (Z.states_are q ∙ ap (reached f.rules (f.opening q)) (behind-is q k ∙ sym (grown-other q k n)))

            abbrev made-of : M → List M → ℕ
            made-of x ms = times_in f.rules.order x f.offers + times_in f.rules.order x (sent f.rules (f.opening (f.rules.order.sender x)) ms)

            -- what is made by the events ahead and by the answers to what is sent now
            made-next : (x : M) → is_ahead f ahead x ≡ false → made f (events_ahead f ahead from next) x ≡ made f (events_ahead f ahead from T) x + times_in f.rules.order x (in_place_of f ahead g out)
            made-next x b = elim (cases_Bool (ahead (f.rules.order.sender x))) [ inl k ↦ by_ahead k | inr k ↦ elim (cases_eq p (f.rules.order.sender x)) [ inl e ↦ own k e | inr n ↦ other k n ] ]
              where
                by_ahead : ahead (f.rules.order.sender x) ≡ true → made f (events_ahead f ahead from next) x ≡ made f (events_ahead f ahead from T) x + times_in f.rules.order x (in_place_of f ahead g out)
                by_ahead k =
                    let s = f.rules.order.sender x in
                    let now = events_ahead f ahead from T s in
                    let new = filter (is_to f s) out in
                    let u = answer-all f ahead L R.inside x b k g all-reached out in
                    let v = not-its f ahead L p (I.waiting_here m l.inside) (t.states p) (is-reached p) m x (λ e. both_ways _ h (ap ahead (sym e) ∙ k)) in
                    let a = ap (made-of x) (grown-ahead s k) in
                    let c = ap (times_in f.rules.order x) (sent-append f.rules (f.opening s) now new) in
                    let d = times-append f.rules.order L.order x (sent f.rules (f.opening s) now) (sent f.rules (reached f.rules (f.opening s) now) new) in
                    let e = ap (λ z. times_in f.rules.order x (sent f.rules z new)) (g-other s k ∙ Z.states_are s) in
                    omega arith

                own : ahead (f.rules.order.sender x) ≡ false → p ≡ f.rules.order.sender x →
                    made f (events_ahead f ahead from next) x ≡ made f (events_ahead f ahead from T) x + times_in f.rules.order x (in_place_of f ahead g out)
                own k e =
                    let s = f.rules.order.sender x in
                    let u = plain-all f ahead L R.inside x b k g all-reached out in
                    let a = ap (made-of x) (grown-own s k e) in
                    let c = ap (made-of x) (behind-is s k) in
                    let d = sent-push f L s (events s) m x in
                    let v = ap (λ z. times_in f.rules.order x (f.rules.sends z m)) (state-is ∙ ap (λ r. reached f.rules (f.opening r) (events r)) e) in
                    omega arith

                other : ahead (f.rules.order.sender x) ≡ false → (p ≡ f.rules.order.sender x → ⊥) →
                    made f (events_ahead f ahead from next) x ≡ made f (events_ahead f ahead from T) x + times_in f.rules.order x (in_place_of f ahead g out)
                other k n =
                    let s = f.rules.order.sender x in
                    let u = plain-all f ahead L R.inside x b k g all-reached out in
                    let v = not-its f ahead L p (I.waiting_here m l.inside) (t.states p) (is-reached p) m x (λ e. n (sym e)) in
                    let a = ap (made-of x) (grown-other s k n) in
                    let c = ap (made-of x) (behind-is s k) in
                    omega arith

            pub common : StandsFor f ahead from (handle f T (Some m)) (handle_ahead f ahead t (Some m))
            common = record {
              states_are = states-next;
              waits = λ x b.
                  let a = times-append f.rules.order L.order x (without f.rules.order m t.waiting) (in_place_of f ahead g out) in
                  let c = times-append f.rules.order L.order x T.handled (m ∷ []) in
                  let w = times-taken f.rules.order L.order m t.waiting waits-once x in
                  let d = Z.waits x b in
                  let e = made-next x b in
                  omega arith;
              none_ahead = λ x i. elim (in-append f.rules.order L.order x (without f.rules.order m t.waiting) (in_place_of f ahead g out) i) [
                | inl j ↦ Z.none_ahead x (in-filter f.rules.order L.order (λ y. not (same f.rules.order m y)) x t.waiting j).1
                | inr j ↦ place-behind f ahead L R.sends_behind g all-reached out x j
              ];
              rows_are = ap (λ z. z ++ rows_of f.rules.order m (f.rules.notes (t.states p) m)) Z.rows_are ∙ ap (λ s. T.rows ++ rows_of f.rules.order m (f.rules.notes s m)) same-state;
            }
