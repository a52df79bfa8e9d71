-- The rows of committed events, process for process, and those of the one-thread run.
use Rattle.std.proofs.Common.{◌≡◌, ◌∙◌, ℕ, zero, suc, ◌+◌, ◌<◌, ◌≤◌, ◌==◌, inl, inr, List, [], ◌∷◌, ◌++◌, map, length, refl, sym, ap, subst, arith, append-nil, eq-eqb, ne_eqb, flat_map}
use Rattle.std.specs.List.{range_with_len}
use Rattle.std.proofs.lemmas.Bool.{cases_eq, cases_lt}
use Rattle.std.proofs.lemmas.List.Elements.{filter-append}
use Rattle.std.proofs.lemmas.List.Concat.{flat_map-append}
use Rattle.vlink.specs.declared.message.Message.{Message}
use Rattle.vlink.specs.declared.note.Note.{Note}
use Rattle.vlink.specs.Letters.{Row}
use Rattle.virtual_time.specs.Law.{rowed, rows_of, rows_at, IsIn, times_in, Simulation, Laws, one, World, start, run, IsWhole}
use Rattle.virtual_time.specs.declared.step.Step.{Step}
use Rattle.virtual_time.proofs.Lists.{in-head, times-append}
use Rattle.virtual_time.proofs.OneThread.{right, nothing_outside, rows-mine, rows-other}
use Rattle.virtual_time.proofs.OneThreadLater.{over-same}
use Rattle.virtual_time.proofs.Kept.{IsKept, start-kept}
use Rattle.virtual_time.proofs.KeptRun.{run-kept}
use Rattle.trace_segments.specs.Words.{gathered}

left-nothing : {M : Type 0} → (xs ys : List M) → xs ++ ys ≡ [] → xs ≡ []
left-nothing [] ys e = refl
left-nothing (x ∷ xs) ys e = absurd (let k = ap length e in omega arith)

module _ {M S K N : Type 0} (f : Simulation M S K N) (L : Laws f) where
  -- events that process q receives have all their rows there
  rowed-mine : (q : ℕ) (s : S) (ms : List M) → ((m : M) → IsIn f.rules.order m ms → f.rules.order.receiver m ≡ q) → rows_at q (rowed f.rules s ms) ≡ rowed f.rules s ms
  rowed-mine q s [] h = refl
  rowed-mine q s (m ∷ ms) h =
      let rest = rowed f.rules (f.rules.after s m) ms in
      filter-append (λ x. x.place == q) (rows_of f.rules.order m (f.rules.notes s m)) rest ∙
      (ap (λ z. z ++ rows_at q rest) (rows-mine f.rules.order q m (h m (in-head f.rules.order L.order m ms)) (f.rules.notes s m)) ∙
      ap (λ z. rows_of f.rules.order m (f.rules.notes s m) ++ z) (rowed-mine q (f.rules.after s m) ms (λ x i. h x (omega arith))))

  -- and none at another process
  rowed-other : (p q : ℕ) → (q ≡ p → ⊥) → (s : S) (ms : List M) → ((m : M) → IsIn f.rules.order m ms → f.rules.order.receiver m ≡ q) → rows_at p (rowed f.rules s ms) ≡ []
  rowed-other p q d s [] h = refl
  rowed-other p q d s (m ∷ ms) h =
      let rest = rowed f.rules (f.rules.after s m) ms in
      filter-append (λ x. x.place == p) (rows_of f.rules.order m (f.rules.notes s m)) rest ∙
      (ap (λ z. z ++ rows_at p rest) (rows-other f.rules.order p m (λ e. d (sym (h m (in-head f.rules.order L.order m ms)) ∙ e)) (f.rules.notes s m)) ∙
      rowed-other p q d (f.rules.after s m) ms (λ x i. h x (omega arith)))

  module _ (w : World M S) (k : IsKept f L w) where
    none-outside : (p : ℕ) → f.processes ≤ p → (w.parts p).committed ≡ []
    none-outside p i = left-nothing (w.parts p).committed (w.parts p).done (k.outside p i)

    -- a process receives its committed events
    committed-here : (q : ℕ) (m : M) → IsIn f.rules.order m (w.parts q).committed → f.rules.order.receiver m ≡ q
    committed-here q m h = elim (cases_lt q f.processes) [
      | inl i ↦ (k.sound q i).here m (let a = times-append f.rules.order L.order m (w.parts q).committed (w.parts q).done in omega arith)
      | inr i ↦ absurd (let a = ap (times_in f.rules.order m) (none-outside q i) in omega arith)
    ]

range-more : (a n : ℕ) → range_with_len a (suc n) ≡ range_with_len a n ++ (a + n) ∷ []
range-more a zero = ap (λ k. k ∷ []) (let e : a ≡ a + 0 = omega arith in e)
range-more a (suc n) = ap (λ ks. a ∷ ks) (range-more (a + 1) n ∙ ap (λ k. range_with_len (a + 1) n ++ k ∷ []) (let e : a + 1 + n ≡ a + suc n = omega arith in e))

-- the rows of one process more come behind those that are gathered
gathered-more : (n : ℕ) (rows_of : ℕ → List Row) → gathered (suc n) rows_of ≡ gathered n rows_of ++ rows_of n
gathered-more n rows_of =
    ap (flat_map rows_of) (range-more 0 n) ∙ (flat_map-append rows_of (range_with_len 0 n) ((0 + n) ∷ [])
    ∙ ap (λ rows. gathered n rows_of ++ rows) (append-nil (rows_of (0 + n)) ∙ ap rows_of (let e : 0 + n ≡ n = omega arith in e)))

-- at the first n processes the rows are those of the committed events, and at no other process is a row
pub record AreRowsBelow {S K : Type 0} (f : Simulation Message S K Note) (w : World Message S) (n : ℕ) (rows : List Row) : Type 0 where
  pub below : (p : ℕ) → p < n → rows_at p rows ≡ rowed f.rules (f.opening p) (w.parts p).committed
  pub above : (p : ℕ) → n ≤ p → rows_at p rows ≡ []

-- of no process
pub rows-none : {S K : Type 0} (f : Simulation Message S K Note) (w : World Message S) → AreRowsBelow f w 0 []
rows-none f w = record { below = λ p i. absurd (omega arith); above = λ p i. refl }

module _ {S K : Type 0} (f : Simulation Message S K Note) (L : Laws f) (steps : List Step) where
  abbrev now : World Message S
  now = run f steps (start f)

  kept : IsKept f L now
  kept = run-kept f L steps (start f) (start-kept f L)

  split : (p : ℕ) (rows more : List Row) → rows_at p (rows ++ more) ≡ rows_at p rows ++ rows_at p more
  split p rows more = filter-append (λ x. x.place == p) rows more

  -- of one process more
  pub rows-more : (n : ℕ) (rows more : List Row) → AreRowsBelow f (run f steps (start f)) n rows →
      more ≡ rowed f.rules (f.opening n) ((run f steps (start f)).parts n).committed → AreRowsBelow f (run f steps (start f)) (n + 1) (rows ++ more)
  rows-more n rows more h e =
      record {
        below = λ p i. elim (cases_eq n p) [
          | inl d ↦ split p rows more ∙ (ap (λ z. z ++ rows_at p more) (h.above p (omega arith)) ∙ mine p d)
          | inr d ↦ split p rows more ∙ (ap (λ z. rows_at p rows ++ z) (other p d) ∙ (append-nil _ ∙ h.below p (omega arith)))
        ];
        above = λ p i. split p rows more ∙ (ap (λ z. rows_at p rows ++ z) (other p (λ d. absurd (omega arith))) ∙ (append-nil _ ∙ h.above p (omega arith)));
      }
    where
      other : (p : ℕ) → (n ≡ p → ⊥) → rows_at p more ≡ []
      other p d = ap (rows_at p) e ∙ rowed-other f L p n d (f.opening n) (now.parts n).committed (committed-here f L now kept n)

      mine : (p : ℕ) → n ≡ p → rows_at p more ≡ rowed f.rules (f.opening p) (now.parts p).committed
      mine p d =
          subst (λ q. rows_at q more ≡ rowed f.rules (f.opening q) (now.parts q).committed) d
          (ap (rows_at n) e ∙ rowed-mine f L n (f.opening n) (now.parts n).committed (committed-here f L now kept n))

  -- of all processes
  pub rows-all : (rows : List Row) → AreRowsBelow f (run f steps (start f)) f.processes rows → (p : ℕ) →
      rows_at p rows ≡ rowed f.rules (f.opening p) ((run f steps (start f)).parts p).committed
  rows-all rows h p = elim (cases_lt p f.processes) [
    | inl i ↦ h.below p i
    | inr i ↦ h.above p i ∙ sym (ap (rowed f.rules (f.opening p)) (none-outside f L now kept p i))
  ]

  -- of all, put one process after another
  pub rows-gathered : (rows_of : ℕ → List Row) →
      ((p : ℕ) → p < f.processes → (rows_of p) ≡ rowed f.rules (f.opening p) ((run f steps (start f)).parts p).committed) →
      (n : ℕ) → n ≤ f.processes → AreRowsBelow f (run f steps (start f)) n (gathered n rows_of)
  rows-gathered rows_of h zero i = rows-none f now
  rows-gathered rows_of h (suc n) i =
      let next : n + 1 ≡ suc n = omega arith in
      subst (AreRowsBelow f now (suc n)) (sym (gathered-more n rows_of)) (subst (λ k. AreRowsBelow f now k (gathered n rows_of ++ rows_of n)) next
      (rows-more n (gathered n rows_of) (rows_of n) (rows-gathered rows_of h n (omega arith)) (h n (omega arith))))

  -- in a finished world the rows of the one-thread run in which nothing waits any more are those of the committed events
  pub rows-whole : IsWhole f (run f steps (start f)) → (n : ℕ) → (one f n).waiting ≡ [] → (p : ℕ) →
      rows_at p (one f n).rows ≡ rowed f.rules (f.opening p) ((run f steps (start f)).parts p).committed
  rows-whole W n ended p = elim (cases_lt p f.processes) [
    | inl i ↦ ap (λ t. rows_at p t.rows) same ∙ sym (W.same_rows p i)
    | inr i ↦ (right f L n).rows_are p ∙ (ap (rowed f.rules (f.opening p)) (nothing_outside f L (one f n).handled (right f L n).handled_here p i) ∙
        sym (ap (rowed f.rules (f.opening p)) (none-outside f L now kept p i)))
  ]
    where
      same : one f n ≡ one f W.event_count
      same = elim (cases_lt n W.event_count) [
        | inl i ↦ sym (over-same f L n W.event_count ended (omega arith))
        | inr i ↦ over-same f L W.event_count n W.none_waits i
      ]
