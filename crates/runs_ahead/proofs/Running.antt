-- The run with processes ahead, from its opening to its end: for which states of the plain run it stands.
use Rattle.std.proofs.Common.{◌≡◌, ℕ, zero, suc, ◌+◌, ◌≤◌, ◌⊎◌, inl, inr, Bool, true, false, cond, List, [], ◌∷◌, ◌++◌, Option, Some, None, refl, sym, ap, ◌∙◌, subst, arith, append-nil, eq-eqb}
use Rattle.std.proofs.lemmas.Bool.{cases_Bool}
use Rattle.virtual_time.specs.Law.{IsIn, Laws, OneThread, Order, IsOrder, Simulation, events, handle, least, one, reached, sent, times_in}
use Rattle.virtual_time.proofs.Lists.{in-filter_from, in-head}
use Rattle.virtual_time.proofs.Least.{IsLeast, least-from, least-none, least-some}
use Rattle.virtual_time.proofs.OneThread.{right}
use Rattle.virtual_time.proofs.OneThreadLater.{none_waits_from, over-same}
use Rattle.timers.proofs.ChannelLemmas.{are_received}
use Rattle.runs_ahead.specs.Ahead.{handle_ahead, is_ahead, one_ahead}
use Rattle.runs_ahead.specs.Standing.{IsOverAt, RunAhead, StandsFor, events_ahead, is_to}
use Rattle.runs_ahead.specs.Laws.{IsSameEvent}
use Rattle.runs_ahead.proofs.Standing.{Rest, ahead-is, behind-is, common, first-there, none-there, quiet, quiet-events, rest-of, same-state}

list-none : {M : Type 0} (o : Order M) (O : IsOrder o) (ms : List M) → ((x : M) → IsIn o x ms → ⊥) → ms ≡ []
list-none o O [] h = refl
list-none o O (x ∷ xs) h = absurd (h x (in-head o O x xs))

module _ {M S K N : Type 0} (f : Simulation M S K N) (L : Laws f) (ahead : ℕ → Bool) (from : ℕ → ℕ) (R : RunAhead f ahead from) where
  pub rests : (n k : ℕ) → ahead k ≡ true → Rest f L ahead from R (one f n) (right f L n) k
  rests n k h = let got = are_received f L (from k) k (is_to f k) (R.channel k h) n in rest-of f L ahead from R (one f n) (right f L n) k h got.0 got.1

  -- ---- the opening

  pub none-yet : (q : ℕ) → events_ahead f ahead from (one f 0) q ≡ []
  unfolding one
  none-yet q = go (ahead q)
    where
      go : (b : Bool) → cond {A = List M} b [] [] ≡ []
      go true = refl
      go false = refl

  pub opens : StandsFor f ahead from (one f 0) (one_ahead f ahead 0)
  unfolding one one_ahead
  opens = record {
    states_are = λ q. ap (reached f.rules (f.opening q)) (sym (none-yet q));
    waits = λ x b. let a = ap (λ ms. times_in f.rules.order x (sent f.rules (f.opening (f.rules.order.sender x)) ms)) (none-yet (f.rules.order.sender x)) in omega arith;
    none_ahead = λ x i. elim (cases_Bool (is_ahead f ahead x)) [
      | inl h ↦ absurd (let a = ap (times_in f.rules.order x) (R.channel (f.rules.order.receiver x) h).not_offered in let b = in-filter_from f.rules.order L.order (is_to f (f.rules.order.receiver x)) x f.offers (eq-eqb _ _ refl) i in omega arith)
      | inr h ↦ h
    ];
    rows_are = refl;
  }

  -- ---- the events of the plain run that come before the next one

  pub step-is : (n : ℕ) (m : M) → least f.rules.order (one f n).waiting ≡ Some m → one f (suc n) ≡ handle f (one f n) (Some m)
  unfolding one
  step-is n m e = ap (handle f (one f n)) e

  pub step-ahead : (n : ℕ) (o : Option M) → least f.rules.order (one_ahead f ahead n).waiting ≡ o → one_ahead f ahead (suc n) ≡ handle_ahead f ahead (one_ahead f ahead n) o
  unfolding one_ahead
  step-ahead n o e = ap (handle_ahead f ahead (one_ahead f ahead n)) e

  -- the plain run has come from n to j events: nothing waits there, or the next event is of a process that does not run ahead
  pub record HasCome (t : OneThread M S N) (n j : ℕ) : Type 0 where
    pub stands : StandsFor f ahead from (one f j) t
    pub same : (q : ℕ) → events_ahead f ahead from (one f j) q ≡ events_ahead f ahead from (one f n) q
    pub next : ((one f j).waiting ≡ []) ⊎ ((m : M) × (least f.rules.order (one f j).waiting ≡ Some m) × (is_ahead f ahead m ≡ false))

  come : (d n e : ℕ) → (one f e).waiting ≡ [] → e ≤ n + d → (t : OneThread M S N) → StandsFor f ahead from (one f n) t → (j : ℕ) × HasCome t n j
  come zero n e over i t Z = (n, record { stands = Z; same = λ q. refl; next = inl (ap (λ (z : OneThread M S N). z.waiting) (over-same f L e n over (omega arith)) ∙ over) })
  come (suc d) n e over i t Z = go (least f.rules.order (one f n).waiting) refl (λ (z : StandsFor f ahead from (one f (suc n)) t). come d (suc n) e over (omega arith) t z)
    where
      go : (o : Option M) → least f.rules.order (one f n).waiting ≡ o → (StandsFor f ahead from (one f (suc n)) t → (j : ℕ) × HasCome t (suc n) j) → (j : ℕ) × HasCome t n j
      go None k r = (n, record { stands = Z; same = λ q. refl; next = inl (least-none f.rules.order L.order (one f n).waiting k) })
      go (Some m) k r = elim (cases_Bool (is_ahead f ahead m)) [ inl h ↦ on h | inr h ↦ (n, record { stands = Z; same = λ q. refl; next = inr (m, k, h) }) ]
        where
          l : IsLeast f.rules.order L.order m (one f n).waiting
          l = least-some f.rules.order L.order (one f n).waiting m k

          on : is_ahead f ahead m ≡ true → (j : ℕ) × HasCome t n j
          on h =
              let c = r (subst (λ T. StandsFor f ahead from T t) (sym (step-is n m k)) (quiet f L ahead from R (one f n) (right f L n) (rests n) t Z m l h)) in (
                c.0,
                record {
                  stands = c.1.stands;
                  same = λ q. c.1.same q ∙ (ap (λ T. events_ahead f ahead from T q) (step-is n m k) ∙ quiet-events f L ahead from R (one f n) (right f L n) (rests n) t Z m l h q);
                  next = c.1.next;
                },
              )

  -- the plain run comes to an end
  ends-at : (e : ℕ) × ((one f e).waiting ≡ [])
  ends-at =
      let t = none_waits_from f L (suc f.until) in
      (t.0, list-none f.rules.order L.order (one f t.0).waiting (λ x i. let a = t.1 x i in let b = (right f L t.0).in_time x i in absurd (omega arith)))

  pub ends-after : (n : ℕ) → (e : ℕ) × (n ≤ e) × ((one f e).waiting ≡ [])
  ends-after n = let e = ends-at.0 in (n + e, omega arith, ap (λ (z : OneThread M S N). z.waiting) (over-same f L e (n + e) ends-at.1 (omega arith)) ∙ ends-at.1)

  pub come-to : (n : ℕ) (t : OneThread M S N) → StandsFor f ahead from (one f n) t → (j : ℕ) × HasCome t n j
  come-to n t Z = come ends-at.0 n ends-at.0 ends-at.1 (omega arith) t Z

  -- ---- each event

  pub same-event : (n : ℕ) (m : M) → least f.rules.order (one_ahead f ahead n).waiting ≡ Some m → (i j : ℕ) → HasCome (one_ahead f ahead n) i j → (is_ahead f ahead m ≡ false) × IsSameEvent f ahead from n m j
  same-event n m e i j C = go C.next
    where
      go : ((one f j).waiting ≡ []) ⊎ ((m' : M) × (least f.rules.order (one f j).waiting ≡ Some m') × (is_ahead f ahead m' ≡ false)) → (is_ahead f ahead m ≡ false) × IsSameEvent f ahead from n m j
      go (inl over) = absurd (none-there f L ahead from R (one f j) (right f L j) (rests j) (one_ahead f ahead n) C.stands over m (least-some f.rules.order L.order (one_ahead f ahead n).waiting m e).inside)
      go (inr (m', e', h')) =
          let l' = least-some f.rules.order L.order (one f j).waiting m' e' in
          let first = first-there f L ahead from R (one f j) (right f L j) (rests j) (one_ahead f ahead n) C.stands m' l' h' in
          let both : Some m' ≡ Some m = sym (least-from f.rules.order L.order (one_ahead f ahead n).waiting m' first) ∙ e in
          let one_message : m' ≡ m = cc in
          at (e' ∙ both) (subst (λ z. is_ahead f ahead z ≡ false) one_message h')
        where
          at : least f.rules.order (one f j).waiting ≡ Some m → is_ahead f ahead m ≡ false → (is_ahead f ahead m ≡ false) × IsSameEvent f ahead from n m j
          at k h =
              let l = least-some f.rules.order L.order (one f j).waiting m k in (
                h,
                record {
                  stands = C.stands;
                  next_at = record { first = k; state = sym (same-state f L ahead from R (one f j) (right f L j) (rests j) (one_ahead f ahead n) C.stands m l h) };
                  stands_next = subst (λ T. StandsFor f ahead from T (one_ahead f ahead (suc n))) (sym (step-is j m k))
                      (subst (λ z. StandsFor f ahead from (handle f (one f j) (Some m)) z) (sym (step-ahead n (Some m) e)) (common f L ahead from R (one f j) (right f L j) (rests j) (one_ahead f ahead n) C.stands m l h));
                },
              )

  pub stands : (n : ℕ) → (j : ℕ) × StandsFor f ahead from (one f j) (one_ahead f ahead n)
  stands zero = (0, opens)
  stands (suc n) = go (least f.rules.order (one_ahead f ahead n).waiting) refl (stands n)
    where
      go : (o : Option M) → least f.rules.order (one_ahead f ahead n).waiting ≡ o → (j : ℕ) × StandsFor f ahead from (one f j) (one_ahead f ahead n) → (j : ℕ) × StandsFor f ahead from (one f j) (one_ahead f ahead (suc n))
      go None e z = (z.0, subst (λ t. StandsFor f ahead from (one f z.0) t) (sym (step-ahead n None e)) z.1)
      go (Some m) e z = let c = come-to z.0 (one_ahead f ahead n) z.1 in (suc c.0, (same-event n m e z.0 c.0 c.1).1.stands_next)

  pub same-events : (n : ℕ) (m : M) → least f.rules.order (one_ahead f ahead n).waiting ≡ Some m → (j : ℕ) × IsSameEvent f ahead from n m j
  same-events n m e = let z = stands n in let c = come-to z.0 (one_ahead f ahead n) z.1 in (c.0, (same-event n m e z.0 c.0 c.1).1)

  -- ---- the end

  -- where nothing waits in the plain run, all processes have handled what was sent to them
  pub events-over : (j : ℕ) → (one f j).waiting ≡ [] → (q : ℕ) → events_ahead f ahead from (one f j) q ≡ events f j q
  events-over j over q = elim (cases_Bool (ahead q)) [
    | inl h ↦ (let r = rests j q h in
        let none : r.rest ≡ [] = list-none f.rules.order L.order r.rest (λ x i. let a = r.waits x i in let b = ap (times_in f.rules.order x) over in absurd (omega arith)) in
        ahead-is f L ahead from R (one f j) (right f L j) q h ∙ (r.split ∙ (ap (λ z. events f j q ++ z) none ∙ append-nil _)))
    | inr h ↦ behind-is f L ahead from R (one f j) (right f L j) q h
  ]

  pub over-at : (n i j : ℕ) → (one_ahead f ahead n).waiting ≡ [] → HasCome (one_ahead f ahead n) i j → (one f j).waiting ≡ []
  over-at n i j over C = go C.next
    where
      go : ((one f j).waiting ≡ []) ⊎ ((m : M) × (least f.rules.order (one f j).waiting ≡ Some m) × (is_ahead f ahead m ≡ false)) → (one f j).waiting ≡ []
      go (inl e) = e
      go (inr (m, e, h)) = absurd (
          let l = least-some f.rules.order L.order (one f j).waiting m e in
          let a = (first-there f L ahead from R (one f j) (right f L j) (rests j) (one_ahead f ahead n) C.stands m l h).inside in
          let b = ap (times_in f.rules.order m) over in
          omega arith)

  pub ends-alike : (n : ℕ) → (one_ahead f ahead n).waiting ≡ [] → (j : ℕ) × IsOverAt f j (one_ahead f ahead n)
  ends-alike n over =
      let z = stands n in
      let c = come-to z.0 (one_ahead f ahead n) z.1 in
      let e = over-at n z.0 c.0 over c.1 in (
        c.0,
        record {
          plain_over = e;
          states_same = λ q. c.1.stands.states_are q ∙ (ap (reached f.rules (f.opening q)) (events-over c.0 e q) ∙ sym ((right f L c.0).states_are q));
          rows_same = c.1.stands.rows_are;
        },
      )
