-- Each answer of a process that runs ahead is an event of the plain run. And if all events of the run were in good states, so were those of
-- the plain run.
use Rattle.std.proofs.Common.{◌≡◌, ℕ, zero, suc, ◌+◌, ◌<◌, ◌==◌, ◌⊎◌, inl, inr, Bool, true, false, cond, List, [], ◌∷◌, ◌++◌, filter, Option, Some, None, refl, sym, ap, ◌∙◌, subst, arith, eq-eqb}
use Rattle.std.proofs.lemmas.Bool.{cases_eq, cases_Bool}
use Rattle.std.proofs.lemmas.List.Elements.{filter-append}
use Rattle.virtual_time.specs.Law.{HoldsAlong, Laws, OneThread, Simulation, events, events_at, handle, least, one, reached}
use Rattle.virtual_time.proofs.Handling.{along-append, along-halves}
use Rattle.virtual_time.proofs.Least.{IsLeast, least-some}
use Rattle.virtual_time.proofs.OneThread.{events-push, events-push_other, right}
use Rattle.virtual_time.proofs.OneThreadLater.{over-same, stays_all}
use Rattle.runs_ahead.specs.Ahead.{is_ahead, next_states, one_ahead, passed_all}
use Rattle.runs_ahead.specs.Standing.{IsGoodEvent, IsNextAt, RunAhead, StandsFor, events_ahead, is_to}
use Rattle.runs_ahead.specs.Laws.{IsSameEvent}
use Rattle.runs_ahead.proofs.Passing.{answers-along}
use Rattle.runs_ahead.proofs.Standing.{behind-is, g-other, grown-ahead, grown-other, grown-own, state-is}
use Rattle.runs_ahead.proofs.Beginnings.{answers-are, handled-before}
use Rattle.runs_ahead.proofs.Running.{come-to, ends-after, events-over, none-yet, opens, over-at, rests, same-event, stands, step-ahead}

module _ {M : Type 0} where
  nothing-then : (cs : List M) (x : M) (b : List M) → [] ≡ cs ++ x ∷ b → ⊥
  nothing-then [] x b e = cc
  nothing-then (c ∷ cs) x b e = cc

  -- a list with one more at its end, divided at some place
  last-split : (xs : List M) (m : M) (a : List M) (x : M) (b : List M) → xs ++ m ∷ [] ≡ a ++ x ∷ b → ((xs ≡ a) × (m ≡ x)) ⊎ ((b' : List M) × (xs ≡ a ++ x ∷ b'))
  last-split [] m [] x b e = inl (refl, cc)
  last-split (y ∷ ys) m [] x b e = inr (ys, cc)
  last-split [] m (c ∷ cs) x b e = absurd (nothing-then cs x b cc)
  last-split (y ∷ ys) m (c ∷ cs) x b e =
      let h : y ≡ c = cc in
      let k : ys ++ m ∷ [] ≡ cs ++ x ∷ b = cc in
      elim (last-split ys m cs x b k) [ inl p ↦ inl (let a : ys ≡ cs = p.0 in cc, p.1) | inr p ↦ inr (p.0, (let a : ys ≡ cs ++ x ∷ p.0 = p.1 in cc)) ]

module _ {M S K N : Type 0} (f : Simulation M S K N) (L : Laws f) where
  none-first : (k : ℕ) → events f 0 k ≡ []
  unfolding one
  none-first k = refl

  step-none : (n : ℕ) → least f.rules.order (one f n).waiting ≡ None → one f (suc n) ≡ one f n
  unfolding one
  step-none n e = ap (handle f (one f n)) e

  step-some : (n : ℕ) (m : M) → least f.rules.order (one f n).waiting ≡ Some m → one f (suc n) ≡ handle f (one f n) (Some m)
  unfolding one
  step-some n m e = ap (handle f (one f n)) e

  -- each event of a process was the next one at some moment, after those before it
  event-of : (n k : ℕ) (a : List M) (x : M) (b : List M) → events f n k ≡ a ++ x ∷ b → (i : ℕ) × (least f.rules.order (one f i).waiting ≡ Some x) × (events f i k ≡ a)
  event-of zero k a x b e = absurd (nothing-then a x b (sym (none-first k) ∙ e))
  event-of (suc n) k a x b e = go (least f.rules.order (one f n).waiting) refl (λ b' (e' : events f n k ≡ a ++ x ∷ b'). event-of n k a x b' e')
    where
      go : (o : Option M) → least f.rules.order (one f n).waiting ≡ o → ((b' : List M) → events f n k ≡ a ++ x ∷ b' → (i : ℕ) × (least f.rules.order (one f i).waiting ≡ Some x) × (events f i k ≡ a)) →
          (i : ℕ) × (least f.rules.order (one f i).waiting ≡ Some x) × (events f i k ≡ a)
      go None h r = r b (ap (λ (z : OneThread M S N). events_at f.rules.order k z.handled) (sym (step-none n h)) ∙ e)
      go (Some m) h r = elim (cases_eq (f.rules.order.receiver m) k) [ inl d ↦ mine (last-split (events f n k) m a x b (sym (at ∙ events-push f L k (one f n).handled m d) ∙ e)) | inr d ↦ r b (sym (at ∙ events-push_other f L k (one f n).handled m d) ∙ e) ]
        where
          at : events f (suc n) k ≡ events_at f.rules.order k ((one f n).handled ++ m ∷ [])
          at = ap (λ (z : OneThread M S N). events_at f.rules.order k z.handled) (step-some n m h)

          mine : ((events f n k ≡ a) × (m ≡ x)) ⊎ ((b' : List M) × (events f n k ≡ a ++ x ∷ b')) → (i : ℕ) × (least f.rules.order (one f i).waiting ≡ Some x) × (events f i k ≡ a)
          mine (inl p) = (n, h ∙ ap (λ z. Some z) p.1, p.0)
          mine (inr p) = r p.0 p.1

  module _ (ahead : ℕ → Bool) (from : ℕ → ℕ) (R : RunAhead f ahead from) where
    module _ (n : ℕ) (m : M) (j : ℕ) (first : least f.rules.order (one_ahead f ahead n).waiting ≡ Some m) (h : is_ahead f ahead m ≡ false) (E : IsSameEvent f ahead from n m j) where
      abbrev t : OneThread M S N
      t = one_ahead f ahead n

      abbrev out : List M
      out = f.rules.sends ((one_ahead f ahead n).states (f.rules.order.receiver m)) m

      abbrev g : ℕ → S
      g = next_states f ahead (one_ahead f ahead n).states m

      l : IsLeast f.rules.order L.order m (one f j).waiting
      l = least-some f.rules.order L.order (one f j).waiting m E.next_at.first

      grown : (k : ℕ) → ahead k ≡ true → events_ahead f ahead from (handle f (one f j) (Some m)) k ≡ events_ahead f ahead from (one f j) k ++ filter (is_to f k) out
      grown = grown-ahead f L ahead from R (one f j) (right f L j) (rests f L ahead from R j) t E.stands m l h

      g-is : (k : ℕ) → ahead k ≡ true → g k ≡ reached f.rules (f.opening k) (events_ahead f ahead from (one f j) k)
      g-is k hk = g-other f L ahead from R (one f j) (right f L j) (rests f L ahead from R j) t E.stands m l h k hk ∙ E.stands.states_are k

      -- ---- an answer

      module _ (before : List M) (x : M) (behind : List M) (s : out ≡ before ++ x ∷ behind) (hx : is_ahead f ahead x ≡ true) where
        abbrev k : ℕ
        k = f.rules.order.receiver x

        -- what process k has handled when it answers
        abbrev so-far : List M
        so-far = events_ahead f ahead from (one f j) (f.rules.order.receiver x) ++ filter (is_to f (f.rules.order.receiver x)) before

        pub answer : (i : ℕ) × IsNextAt f i x (passed_all f ahead g before k)
        answer =
            let end = ends-after f L ahead from R (suc j) in
            let e = handled-before f L ahead from R n m j first h E before (x ∷ behind) s end.0 end.1 end.2 k hx in
            let here : filter (is_to f k) (x ∷ behind) ≡ x ∷ filter (is_to f k) behind = ap (λ b. cond b (x ∷ filter (is_to f k) behind) (filter (is_to f k) behind)) (eq-eqb k k refl) in
            let i = event-of end.0 k so-far x (filter (is_to f k) behind ++ e.0) (e.1 ∙ ap (λ z. so-far ++ (z ++ e.0)) here) in (
              i.0,
              record {
                first = i.1;
                state = (right f L i.0).states_are k ∙ (ap (reached f.rules (f.opening k)) i.2 ∙ sym (answers-are f L ahead from R n m j first h E before (x ∷ behind) s k hx));
              },
            )

      -- ---- good states

      abbrev AllGood : (S → Bool) → OneThread M S N → Type 0
      AllGood good T = (q : ℕ) → HoldsAlong f.rules (λ s. good s ≡ true) (f.opening q) (events_ahead f ahead from T q)

      good-next : (good : S → Bool) → AllGood good (one f j) → IsGoodEvent f ahead good (one_ahead f ahead n) m → AllGood good (handle f (one f j) (Some m))
      good-next good A G q = elim (cases_Bool (ahead q)) [ inl k ↦ by_ahead k | inr k ↦ elim (cases_eq (f.rules.order.receiver m) q) [ inl e ↦ own k e | inr d ↦ other k d ] ]
        where
          by_ahead : ahead q ≡ true → HoldsAlong f.rules (λ s. good s ≡ true) (f.opening q) (events_ahead f ahead from (handle f (one f j) (Some m)) q)
          by_ahead k = subst (HoldsAlong f.rules (λ s. good s ≡ true) (f.opening q)) (sym (grown q k))
              (along-append f.rules (λ s. good s ≡ true) (f.opening q) (events_ahead f ahead from (one f j) q) (filter (is_to f q) out) (A q)
              (subst (λ s. HoldsAlong f.rules (λ s. good s ≡ true) s (filter (is_to f q) out)) (g-is q k) (answers-along f ahead good q k g out G.answers_good)))

          plain : ahead q ≡ false → HoldsAlong f.rules (λ s. good s ≡ true) (f.opening q) (events f j q)
          plain k = subst (HoldsAlong f.rules (λ s. good s ≡ true) (f.opening q)) (behind-is f L ahead from R (one f j) (right f L j) q k) (A q)

          own : ahead q ≡ false → f.rules.order.receiver m ≡ q → HoldsAlong f.rules (λ s. good s ≡ true) (f.opening q) (events_ahead f ahead from (handle f (one f j) (Some m)) q)
          own k e =
              let s = state-is f L ahead from R (one f j) (right f L j) (rests f L ahead from R j) t E.stands m l h ∙ ap (λ r. reached f.rules (f.opening r) (events f j r)) e in
              subst (HoldsAlong f.rules (λ s. good s ≡ true) (f.opening q)) (sym (grown-own f L ahead from R (one f j) (right f L j) (rests f L ahead from R j) t E.stands m l h q k e))
              (along-append f.rules (λ s. good s ≡ true) (f.opening q) (events f j q) (m ∷ []) (plain k) (subst (λ z. good z ≡ true) s G.first_good, tt))

          other : ahead q ≡ false → (f.rules.order.receiver m ≡ q → ⊥) → HoldsAlong f.rules (λ s. good s ≡ true) (f.opening q) (events_ahead f ahead from (handle f (one f j) (Some m)) q)
          other k d = subst (HoldsAlong f.rules (λ s. good s ≡ true) (f.opening q)) (sym (grown-other f L ahead from R (one f j) (right f L j) (rests f L ahead from R j) t E.stands m l h q k d)) (plain k)

    pub answers-events : (n : ℕ) (m : M) → least f.rules.order (one_ahead f ahead n).waiting ≡ Some m →
        (before : List M) (x : M) (behind : List M) → f.rules.sends ((one_ahead f ahead n).states (f.rules.order.receiver m)) m ≡ before ++ x ∷ behind → is_ahead f ahead x ≡ true →
        (j : ℕ) × IsNextAt f j x (passed_all f ahead (next_states f ahead (one_ahead f ahead n).states m) before (f.rules.order.receiver x))
    answers-events n m e before x behind s hx =
        let z = stands f L ahead from R n in
        let c = come-to f L ahead from R z.0 (one_ahead f ahead n) z.1 in
        let w = same-event f L ahead from R n m e z.0 c.0 c.1 in
        answer n m c.0 e w.0 w.1 before x behind s hx

    abbrev AreGood : (S → Bool) → ℕ → Type 0
    AreGood good j = (q : ℕ) → HoldsAlong f.rules (λ s. good s ≡ true) (f.opening q) (events_ahead f ahead from (one f j) q)

    all-good : (good : S → Bool) (n : ℕ) → ((i : ℕ) (m : M) → i < n → least f.rules.order (one_ahead f ahead i).waiting ≡ Some m → IsGoodEvent f ahead good (one_ahead f ahead i) m) →
        (j : ℕ) × StandsFor f ahead from (one f j) (one_ahead f ahead n) × AreGood good j
    all-good good zero G = (0, opens f L ahead from R, λ q. subst (HoldsAlong f.rules (λ s. good s ≡ true) (f.opening q)) (sym (none-yet f L ahead from R q)) tt)
    all-good good (suc n) G = go (least f.rules.order (one_ahead f ahead n).waiting) refl (all-good good n (λ i m b. G i m (omega arith)))
      where
        go : (o : Option M) → least f.rules.order (one_ahead f ahead n).waiting ≡ o → ((j : ℕ) × StandsFor f ahead from (one f j) (one_ahead f ahead n) × AreGood good j) →
            (j : ℕ) × StandsFor f ahead from (one f j) (one_ahead f ahead (suc n)) × AreGood good j
        go None e z = (z.0, subst (λ t. StandsFor f ahead from (one f z.0) t) (sym (step-ahead f L ahead from R n None e)) z.1, z.2)
        go (Some m) e z =
            let c = come-to f L ahead from R z.0 (one_ahead f ahead n) z.1 in
            let w = same-event f L ahead from R n m e z.0 c.0 c.1 in
            let a : AreGood good c.0 = λ q. subst (HoldsAlong f.rules (λ s. good s ≡ true) (f.opening q)) (sym (c.1.same q)) (z.2 q) in (
              suc c.0,
              w.1.stands_next,
              λ q. subst (λ T. HoldsAlong f.rules (λ s. good s ≡ true) (f.opening q) (events_ahead f ahead from T q)) (sym (step-some c.0 m w.1.next_at.first))
                  (good-next n m c.0 e w.0 w.1 good a (G n m (omega arith) e) q),
            )

    pub good-alike : (good : S → Bool) (n : ℕ) → (one_ahead f ahead n).waiting ≡ [] →
        ((i : ℕ) (m : M) → i < n → least f.rules.order (one_ahead f ahead i).waiting ≡ Some m → IsGoodEvent f ahead good (one_ahead f ahead i) m) →
        (j : ℕ) (m : M) (s : S) → IsNextAt f j m s → good s ≡ true
    good-alike good n over G j m s E =
        let p = f.rules.order.receiver m in
        let z = all-good good n G in
        let c = come-to f L ahead from R z.0 (one_ahead f ahead n) z.1 in
        let e = over-at f L ahead from R n z.0 c.0 over c.1 in
        let at : one f (c.0 + suc j) ≡ one f c.0 = over-same f L c.0 (c.0 + suc j) e (omega arith) in
        let stay = stays_all f L (suc j) (c.0 + suc j) (omega arith) in
        let rest = events_at f.rules.order p stay.0 in
        let next : events f (suc j) p ≡ events f j p ++ m ∷ [] = ap (λ (z : OneThread M S N). events_at f.rules.order p z.handled) (step-some j m E.first) ∙ events-push f L p (one f j).handled m refl in
        let all : events_ahead f ahead from (one f z.0) p ≡ (events f j p ++ m ∷ []) ++ rest =
        sym (c.1.same p) ∙ (events-over f L ahead from R c.0 e p ∙ (ap (λ (z : OneThread M S N). events_at f.rules.order p z.handled) (sym at) ∙
        (ap (events_at f.rules.order p) stay.1 ∙ (filter-append (λ y. f.rules.order.receiver y == p) (one f (suc j)).handled stay.0 ∙ ap (λ ms. ms ++ rest) next)))) in
        let a = along-halves f.rules (λ s. good s ≡ true) (f.opening p) (events f j p ++ m ∷ []) rest (subst (HoldsAlong f.rules (λ s. good s ≡ true) (f.opening p)) all (z.2 p)) in
        let b = along-halves f.rules (λ s. good s ≡ true) (f.opening p) (events f j p) (m ∷ []) a.0 in
        subst (λ s. good s ≡ true) (sym ((right f L j).states_are p) ∙ E.state) b.1.0
