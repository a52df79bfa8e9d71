-- What each process has handled in the run with processes ahead is the beginning of its events in the plain run.
use Rattle.std.proofs.Common.{◌≡◌, ℕ, suc, ◌≤◌, ◌==◌, inl, inr, Bool, true, false, List, [], ◌++◌, filter, length, take, Some, sym, ap, ◌∙◌, arith, append_assoc, length-append}
use Rattle.std.proofs.lemmas.Bool.{cases_Bool}
use Rattle.std.proofs.lemmas.List.Elements.{filter-append}
use Rattle.std.proofs.Math.Seq.{take-append_seam}
use Rattle.virtual_time.specs.Law.{IsLeft, Laws, Simulation, events, events_at, least, one, reached, sent}
use Rattle.virtual_time.proofs.Handling.{reached-append, sent-append}
use Rattle.virtual_time.proofs.Least.{least-some}
use Rattle.virtual_time.proofs.OneThread.{right}
use Rattle.virtual_time.proofs.OneThreadLater.{is_left, same_first, stays_all}
use Rattle.runs_ahead.specs.Ahead.{is_ahead, next_states, one_ahead, passed_all}
use Rattle.runs_ahead.specs.Standing.{RunAhead, events_ahead, is_to, sent_to}
use Rattle.runs_ahead.specs.Laws.{IsSameEvent}
use Rattle.runs_ahead.proofs.Passing.{passed_all-ahead, passed_all-behind}
use Rattle.runs_ahead.proofs.Standing.{ahead-is, behind-is, g-other, grown-ahead}
use Rattle.runs_ahead.proofs.Running.{come-to, ends-after, events-over, rests, same-event, stands, step-ahead, step-is}

module _ {M S K N : Type 0} (f : Simulation M S K N) (L : Laws f) where
  -- the state that some first events leave
  left-of : (e q : ℕ) (ms rest : List M) → events f e q ≡ ms ++ rest → (s : S) → s ≡ reached f.rules (f.opening q) ms → IsLeft f q (length ms) s
  left-of e q ms rest split s is = is_left f L q ms s (record { some = (e, enough); each = λ n h. same_first f L n e q (length ms) h enough ∙ (ap (take (length ms)) split ∙ take-append_seam ms rest) }) is
    where
      enough : length ms ≤ length (events f e q)
      enough = let a = ap length split in let b = length-append ms rest in omega arith

  module _ (ahead : ℕ → Bool) (from : ℕ → ℕ) (R : RunAhead f ahead from) where
    later-sent : (k j e : ℕ) → j ≤ e → (later : List M) × (sent_to f ahead from (one f e) k ≡ sent_to f ahead from (one f j) k ++ later)
    later-sent k j e i =
        let p = from k in
        let stay = stays_all f L j e i in
        let a = events f j p in
        let b = events_at f.rules.order p stay.0 in (
          filter (is_to f k) (sent f.rules (reached f.rules (f.opening p) a) b),
          ap (λ hs. filter (is_to f k) (sent f.rules (f.opening p) (events_at f.rules.order p hs))) stay.1 ∙
              (ap (λ ms. filter (is_to f k) (sent f.rules (f.opening p) ms)) (filter-append (λ y. f.rules.order.receiver y == p) (one f j).handled stay.0) ∙
              (ap (filter (is_to f k)) (sent-append f.rules (f.opening p) a b) ∙ filter-append (is_to f k) (sent f.rules (f.opening p) a) (sent f.rules (reached f.rules (f.opening p) a) b))),
        )

    pub beginning : (j e : ℕ) → j ≤ e → (one f e).waiting ≡ [] → (q : ℕ) → (rest : List M) × (events f e q ≡ events_ahead f ahead from (one f j) q ++ rest)
    beginning j e i over q = elim (cases_Bool (ahead q)) [
      | inl h ↦ (let l = later-sent q j e i in
          (l.0, sym (events-over f L ahead from R e over q) ∙ (ahead-is f L ahead from R (one f e) (right f L e) q h ∙ (l.1 ∙ ap (λ z. z ++ l.0) (sym (ahead-is f L ahead from R (one f j) (right f L j) q h))))))
      | inr h ↦ (let s = stays_all f L j e i in (
        events_at f.rules.order q s.0,
        ap (events_at f.rules.order q) s.1 ∙ (filter-append (λ y. f.rules.order.receiver y == q) (one f j).handled s.0 ∙
            ap (λ z. z ++ events_at f.rules.order q s.0) (sym (behind-is f L ahead from R (one f j) (right f L j) q h))),
      ))
    ]

    pub are-left : (n q : ℕ) → (c : ℕ) × IsLeft f q c ((one_ahead f ahead n).states q)
    are-left n q =
        let z = stands f L ahead from R n in
        let e = ends-after f L ahead from R z.0 in
        let b = beginning z.0 e.0 e.1 e.2 q in
        (length (events_ahead f ahead from (one f z.0) q), left-of e.0 q (events_ahead f ahead from (one f z.0) q) b.0 b.1 ((one_ahead f ahead n).states q) (z.1.states_are q))

    -- ---- within an event

    module _ (n : ℕ) (m : M) (j : ℕ) (first : least f.rules.order (one_ahead f ahead n).waiting ≡ Some m) (h : is_ahead f ahead m ≡ false) (E : IsSameEvent f ahead from n m j)
        (before behind : List M) (s : f.rules.sends ((one_ahead f ahead n).states (f.rules.order.receiver m)) m ≡ before ++ behind) where
      abbrev g : ℕ → S
      g = next_states f ahead (one_ahead f ahead n).states m

      pub g-is : (k : ℕ) → ahead k ≡ true → g k ≡ reached f.rules (f.opening k) (events_ahead f ahead from (one f j) k)
      g-is k hk = g-other f L ahead from R (one f j) (right f L j) (rests f L ahead from R j) (one_ahead f ahead n) E.stands m (least-some f.rules.order L.order (one f j).waiting m E.next_at.first) h k hk ∙ E.stands.states_are k

      -- a process that runs ahead has handled what was sent to it before
      pub answers-are : (k : ℕ) → ahead k ≡ true → passed_all f ahead g before k ≡ reached f.rules (f.opening k) (events_ahead f ahead from (one f j) k ++ filter (is_to f k) before)
      answers-are k hk = passed_all-ahead f ahead g before k hk ∙ (ap (λ z. reached f.rules z (filter (is_to f k) before)) (g-is k hk) ∙
          sym (reached-append f.rules (f.opening k) (events_ahead f ahead from (one f j) k) (filter (is_to f k) before)))

      pub grown-all : (k : ℕ) → ahead k ≡ true → events_ahead f ahead from (one f (suc j)) k ≡ events_ahead f ahead from (one f j) k ++ (filter (is_to f k) before ++ filter (is_to f k) behind)
      grown-all k hk = ap (λ T. events_ahead f ahead from T k) (step-is f L ahead from R j m E.next_at.first) ∙
          (grown-ahead f L ahead from R (one f j) (right f L j) (rests f L ahead from R j) (one_ahead f ahead n) E.stands m (least-some f.rules.order L.order (one f j).waiting m E.next_at.first) h k hk ∙
          ap (λ z. events_ahead f ahead from (one f j) k ++ z) (ap (filter (is_to f k)) s ∙ filter-append (is_to f k) before behind))

      regroup : (a b c d : List M) → (a ++ (b ++ c)) ++ d ≡ (a ++ b) ++ (c ++ d)
      regroup a b c d = simp append_assoc

      pub handled-before : (e : ℕ) → suc j ≤ e → (one f e).waiting ≡ [] → (k : ℕ) → ahead k ≡ true →
          (later : List M) × (events f e k ≡ (events_ahead f ahead from (one f j) k ++ filter (is_to f k) before) ++ (filter (is_to f k) behind ++ later))
      handled-before e i over k hk =
          let b = beginning (suc j) e i over k in
          (b.0, b.1 ∙ (ap (λ z. z ++ b.0) (grown-all k hk) ∙ regroup (events_ahead f ahead from (one f j) k) (filter (is_to f k) before) (filter (is_to f k) behind) b.0))

      left-within : (q : ℕ) → (c : ℕ) × IsLeft f q c (passed_all f ahead g before q)
      left-within q = elim (cases_Bool (ahead q)) [ inl k ↦ by_ahead k | inr k ↦ plain k ]
        where
          by_ahead : ahead q ≡ true → (c : ℕ) × IsLeft f q c (passed_all f ahead g before q)
          by_ahead k =
              let e = ends-after f L ahead from R (suc j) in
              let b = handled-before e.0 e.1 e.2 q k in (
                length (events_ahead f ahead from (one f j) q ++ filter (is_to f q) before),
                left-of e.0 q (events_ahead f ahead from (one f j) q ++ filter (is_to f q) before) (filter (is_to f q) behind ++ b.0) b.1 (passed_all f ahead g before q) (answers-are q k),
              )

          plain : ahead q ≡ false → (c : ℕ) × IsLeft f q c (passed_all f ahead g before q)
          plain k =
              let e = ends-after f L ahead from R (suc j) in
              let b = beginning (suc j) e.0 e.1 e.2 q in
              let out = f.rules.sends ((one_ahead f ahead n).states (f.rules.order.receiver m)) m in
              let same : passed_all f ahead g before q ≡ passed_all f ahead g out q = passed_all-behind f ahead g before q k ∙ sym (passed_all-behind f ahead g out q k) in
              let next : passed_all f ahead g out q ≡ (one_ahead f ahead (suc n)).states q = ap (λ t. t.states q) (sym (step-ahead f L ahead from R n (Some m) first)) in (
                length (events_ahead f ahead from (one f (suc j)) q),
                left-of e.0 q (events_ahead f ahead from (one f (suc j)) q) b.0 b.1 (passed_all f ahead g before q) (same ∙ (next ∙ E.stands_next.states_are q)),
              )

    pub are-left-within : (n : ℕ) (m : M) → least f.rules.order (one_ahead f ahead n).waiting ≡ Some m →
        (before behind : List M) → f.rules.sends ((one_ahead f ahead n).states (f.rules.order.receiver m)) m ≡ before ++ behind →
        (q : ℕ) → (c : ℕ) × IsLeft f q c (passed_all f ahead (next_states f ahead (one_ahead f ahead n).states m) before q)
    are-left-within n m e before behind s q =
        let z = stands f L ahead from R n in
        let c = come-to f L ahead from R z.0 (one_ahead f ahead n) z.1 in
        let w = same-event f L ahead from R n m e z.0 c.0 c.1 in
        left-within n m c.0 e w.0 w.1 before behind s q
