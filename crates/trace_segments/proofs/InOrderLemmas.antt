-- The batches of a trace, one after another, are its rows in message order.
use Rattle.std.proofs.Common.{◌≡◌, ◌∙◌, ℕ, zero, suc, ◌+◌, ◌<◌, ◌≤◌, ◌==◌, ◌⊎◌, inl, inr, Bool, true, false, cond, List, [], ◌∷◌, ◌++◌, refl, sym, ap, arith, append_assoc, append-nil, ◌&&◌, nat_le, nat_lt, slice_index_or, All, filter, flat_map, Ordering, Less, Equal, Greater, is_eq, is_lt}
use Rattle.std.specs.Cmp.{IsTotalOrder}
use Rattle.std.specs.List.{range_with_len}
use Rattle.std.proofs.lemmas.Bool.{cases_lt}
use Rattle.std.proofs.lemmas.List.Kept.{IsSortedBy-filter}
use Rattle.std.proofs.lemmas.List.Sorted.{ranks_by, sorted_far}
use Rattle.virtual_time.specs.Law.{rows_at}
use Rattle.vlink.specs.declared.message.Message.{Message}
use Rattle.vlink.specs.Order.{message_cmp}
use Rattle.vlink.specs.Letters.{Row}
use Rattle.trace_segments.specs.Words.{IsOfOneGroup, gathered, cut, interval_count, rows_within, rows_before, rows_from, AreInMessageOrder, AreAtReceivers, IsInOrder, rows_of_event}
use Rattle.trace_segments.proofs.GatherLemmas.{filter-gathered, gathered-by-group, nothing-by-group, alone-in-group}
use Rattle.trace_segments.proofs.IntervalLemmas.{cut-first, cut-rises, cut-last}
use Rattle.trace_segments.proofs.RowOrderLemmas.{event-at, event-of, same-by-event}
use Rattle.trace_segments.proofs.SortedLemmas.{filters-swap}
use Rattle.trace_segments.proofs.TimeLemmas.{time_of, Rise, none-before, all-before, split-at, before-within}

-- lists that are made of the same ones
flat_map-same : {X : Type 0} (f g : ℕ → List X) (a n : ℕ) → ((i : ℕ) → i < a + n → f i ≡ g i) → flat_map f (range_with_len a n) ≡ flat_map g (range_with_len a n)
flat_map-same f g a zero same = refl
flat_map-same {X} f g a (suc n) same =
    ap (λ (xs : List X). xs ++ flat_map f (range_with_len (a + 1) n)) (same a (omega arith))
    ∙ ap (λ (xs : List X). g a ++ xs) (flat_map-same f g (a + 1) n (λ i below. same i (omega arith)))

module _ (O : IsTotalOrder message_cmp) (exact : (a b : Message) → message_cmp a b ≡ Equal → a ≡ b) (by_time : (a b : Message) → a.time < b.time → message_cmp a b ≡ Less) where
  equal : (r : Ordering) → is_eq r ≡ true → r ≡ Equal
  equal Equal e = refl
  equal Less e = absurd (cc)
  equal Greater e = absurd (cc)

  -- of an event at moments that are looked at all rows are there, of another one none
  pub events-of-moments : (test : ℕ → Bool) (m : Message) (rows : List Row) → rows_of_event m (filter (λ row. test row.message.time) rows) ≡ cond (test m.time) (rows_of_event m rows) []
  events-of-moments test m [] = go (test m.time)
    where
      go : (b : Bool) → ◌≡◌ {A = List Row} [] (cond b [] [])
      go true = refl
      go false = refl
  events-of-moments test m (row ∷ rows) =
      go (test row.message.time) (is_eq (message_cmp m row.message)) (test m.time)
      (λ e. ap (λ (x : Message). test x.time) (exact m row.message (equal (message_cmp m row.message) e))) refl (events-of-moments test m rows)
    where
      kept : List Row
      kept = filter (λ r. test r.message.time) rows

      mine : List Row
      mine = rows_of_event m rows

      go : (k e n : Bool) → (e ≡ true → n ≡ k) → is_eq (message_cmp m row.message) ≡ e → rows_of_event m kept ≡ cond n mine [] →
          rows_of_event m (cond k (row ∷ kept) kept) ≡ cond n (cond e (row ∷ mine) mine) []
      go true true true same t rest = ap (λ z. cond z (row ∷ rows_of_event m kept) (rows_of_event m kept)) t ∙ ap (λ (rs : List Row). row ∷ rs) rest
      go true true false same t rest = absurd (let x = same refl in cc)
      go true false n same t rest = ap (λ z. cond z (row ∷ rows_of_event m kept) (rows_of_event m kept)) t ∙ rest
      go false true true same t rest = absurd (let x = same refl in cc)
      go false true false same t rest = rest
      go false false n same t rest = rest

  ordered-filter : (test : Row → Bool) (rows : List Row) → AreInMessageOrder rows → AreInMessageOrder (filter test rows)
  ordered-filter test rows up = IsSortedBy-filter (λ x y. is_lt (message_cmp x.message y.message)) (ranks_by O (λ (row : Row). row.message)) test rows up

  -- rows in message order are in the order of their moments
  rises : (rows : List Row) → AreInMessageOrder rows → Rise rows
  rises rows up i j d le below = go (cases_lt (time_of (slice_index_or rows j d)) (time_of (slice_index_or rows i d)))
    where
      far : is_lt (message_cmp (slice_index_or rows j d).message (slice_index_or rows i d).message) ≡ false
      far = sorted_far (λ x y. is_lt (message_cmp x.message y.message)) (ranks_by O (λ (row : Row). row.message)) rows up i j d le below

      go : (time_of (slice_index_or rows j d) < time_of (slice_index_or rows i d)) ⊎ (time_of (slice_index_or rows i d) ≤ time_of (slice_index_or rows j d)) →
          time_of (slice_index_or rows i d) ≤ time_of (slice_index_or rows j d)
      go (inl lt) = absurd (let e = ap is_lt (by_time (slice_index_or rows j d).message (slice_index_or rows i d).message lt) in let f = far in cc)
      go (inr ge) = ge

  -- the batch of an interval has the rows of the interval, in message order
  pub batch-is : (processes from to : ℕ) (rows_of : ℕ → List Row) (rows batch : List Row) → IsInOrder (gathered processes rows_of) rows →
      IsInOrder (gathered processes (λ p. rows_within from to (rows_of p))) batch → batch ≡ rows_within from to rows
  batch-is processes from to rows_of rows batch all segment =
      same-by-event O batch (rows_within from to rows) segment.ascending (ordered-filter (λ row. test row.message.time) rows all.ascending) (λ m.
      segment.each_event m
      ∙ ap (rows_of_event m) (sym (filter-gathered (λ row. test row.message.time) processes rows_of))
      ∙ events-of-moments test m (gathered processes rows_of)
      ∙ ap (λ (rs : List Row). cond (test m.time) rs []) (sym (all.each_event m))
      ∙ sym (events-of-moments test m rows))
    where
      test : ℕ → Bool
      test t = nat_le from t && nat_lt t to

  -- the rows before a cut, and then those of the intervals from there on, are the rows before a later cut
  from-cut : (until a n : ℕ) (rows : List Row) → AreInMessageOrder rows →
      rows_before (cut until a) rows ++ flat_map (λ i. rows_within (cut until i) (cut until (i + 1)) rows) (range_with_len a n) ≡ rows_before (cut until (a + n)) rows
  from-cut until a zero rows up = append-nil (rows_before (cut until a) rows) ∙ ap (λ (k : ℕ). rows_before (cut until k) rows) (let e : a ≡ a + 0 = omega arith in e)
  from-cut until a (suc n) rows up =
      sym (append_assoc (rows_before (cut until a) rows) (rows_within (cut until a) (cut until (a + 1)) rows) rest)
      ∙ ap (λ (rs : List Row). rs ++ rest) (before-within (cut until a) (cut until (a + 1)) rows (cut-rises until a) (rises rows up))
      ∙ from-cut until (a + 1) n rows up
      ∙ ap (λ (k : ℕ). rows_before (cut until k) rows) (let e : a + 1 + n ≡ a + suc n = omega arith in e)
    where
      rest : List Row
      rest = flat_map (λ i. rows_within (cut until i) (cut until (i + 1)) rows) (range_with_len (a + 1) n)

  pub batches-are : (until processes count : ℕ) (rows_of : ℕ → List Row) (rows : List Row) (batches : ℕ → List Row) → IsInOrder (gathered processes rows_of) rows →
      ((k : ℕ) → k < count → IsInOrder (gathered processes (λ p. rows_within (cut until k) (cut until (k + 1)) (rows_of p))) (batches k)) →
      flat_map batches (range_with_len 0 count) ≡ rows_before (cut until count) rows
  batches-are until processes count rows_of rows batches all each =
      flat_map-same batches (λ k. rows_within (cut until k) (cut until (k + 1)) rows) 0 count (λ k below. batch-is processes (cut until k) (cut until (k + 1)) rows_of rows (batches k) all (each k (omega arith)))
      ∙ ap (λ (rs : List Row). rs ++ flat_map (λ k. rows_within (cut until k) (cut until (k + 1)) rows) (range_with_len 0 count)) (sym none)
      ∙ from-cut until 0 count rows all.ascending
      ∙ ap (λ (k : ℕ). rows_before (cut until k) rows) (let e : 0 + count ≡ count = omega arith in e)
    where
      none : rows_before (cut until 0) rows ≡ []
      none = none-before (cut until 0) rows (λ i d below. let e = cut-first until in omega arith)

  -- the rows before a moment are a beginning
  pub begins : (moment : ℕ) (rows : List Row) → AreInMessageOrder rows → rows ≡ rows_before moment rows ++ rows_from moment rows
  begins moment rows up = split-at moment rows (rises rows up)

  -- before the last cut are all rows
  pub whole : (until : ℕ) (rows : List Row) → All (λ row. row.message.time ≤ until) rows → rows_before (cut until (interval_count until)) rows ≡ rows
  whole until rows early =
      ap (λ (moment : ℕ). rows_before moment rows) (cut-last until)
      ∙ all-before (until + 1) rows (λ i d below. let le = early i d below in omega arith)

  -- rows in message order, each at the process that received its message, are in order what the groups of these processes have
  module _ (ours : ℕ → ℕ → Bool) (groups processes : ℕ) (rows : List Row) (here : AreAtReceivers rows) (up : AreInMessageOrder rows)
      (none : (p : ℕ) → processes ≤ p → rows_at p rows ≡ []) (owned : (p : ℕ) → p < processes → IsOfOneGroup ours groups p) where
    abbrev of_groups : List Row → List Row
    of_groups es = gathered groups (λ g. filter (λ row. ours g row.place) es)

    event-in-group : (m : Message) → of_groups (rows_of_event m rows) ≡ rows_of_event m rows
    event-in-group m = go (cases_lt m.receiver processes)
      where
        go : (m.receiver < processes) ⊎ (processes ≤ m.receiver) → of_groups (rows_of_event m rows) ≡ rows_of_event m rows
        go (inl lt) = gathered-by-group ours groups m.receiver (owned m.receiver lt) (rows_of_event m rows) (event-at O exact m rows here)
        go (inr ge) =
            let nothing : rows_of_event m rows ≡ [] = event-of O exact m rows here ∙ ap (rows_of_event m) (none m.receiver ge) in
            ap of_groups nothing ∙ (nothing-by-group ours groups ∙ sym nothing)

    pub by-group : IsInOrder (of_groups rows) rows
    by-group = record {
      ascending = up;
      each_event = λ m. sym (filter-gathered (λ row. is_eq (message_cmp m row.message)) groups (λ g. filter (λ row. ours g row.place) rows)
          ∙ (flat_map-same (λ g. rows_of_event m (filter (λ row. ours g row.place) rows)) (λ g. filter (λ row. ours g row.place) (rows_of_event m rows)) 0 groups
          (λ g below. filters-swap (λ row. is_eq (message_cmp m row.message)) (λ row. ours g row.place) rows)
          ∙ event-in-group m));
    }

  -- so they are what the processes have, which are groups of one
  pub by-process : (processes : ℕ) (rows : List Row) → AreAtReceivers rows → AreInMessageOrder rows → ((p : ℕ) → processes ≤ p → rows_at p rows ≡ []) →
      IsInOrder (gathered processes (λ p. rows_at p rows)) rows
  by-process processes rows here up none = by-group (λ p q. q == p) processes processes rows here up none (alone-in-group processes)
