-- The tables of an ended run: those of the rows that were counted while it went on, of each group before a moment of its own, and of the rows that
-- each has from there on.
use Rattle.std.proofs.Common.{◌≡◌, ◌∙◌, ℕ, suc, ◌+◌, ◌<◌, ◌≤◌, ◌==◌, inl, inr, Bool, true, false, ◌&&◌, cond, nat_le, nat_lt, List, [], ◌∷◌, ◌++◌, refl, sym, ap, subst, arith, append-nil, All, lt-ltb}
use mathlib.Core.Logic.{∥∥₁_elim}
use Rattle.std.proofs.Props.{props}
use Rattle.std.proofs.lemmas.Bool.{cases_eq, cases_lt}
use Rattle.std.proofs.lemmas.List.Elements.{filter-append}
use Rattle.virtual_time.specs.Law.{rows_at}
use Rattle.vlink.specs.Letters.{Row}
use Rattle.network.specs.Words.{Plan, process_count}
use Rattle.group_exchange.specs.Keeps.{AreGrouped}
use Rattle.group_exchange.specs.Rows.{rows_of_group}
use Rattle.group_exchange.specs.Views.{is_of}
use Rattle.group_exchange.proofs.Owners.{of-one, of-other, owner-is}
use Rattle.trace_segments.specs.Words.{rows_within, rows_before, rows_from}
use Rattle.trace_segments.proofs.SortedLemmas.{filters-swap}
use Rattle.trace_tables.specs.Tables.{tables_of}
use Rattle.seqsim.specs.Networks.{AreRowsOf}
use Rattle.run_rows.specs.Counts.{moment_at, moment_in, moment_of, AreCountedBefore}
use Rattle.run_rows.specs.Traces.{AreLawfulRows, HasLawfulRows}
use Rattle.worker_pool.proofs.Ended.{no-group, own-group}
use Rattle.worker_pool.proofs.GroupRows.{AreOfGroup, group-rows, mine-at, other-at}
use Rattle.run_rows.proofs.WrittenRun.{Splits}

-- rows from a moment on, of which none is later than the end of the run
late : (until moment : ℕ) (rows : List Row) → All (λ row. row.message.time ≤ until) rows → rows_within moment (until + 1) rows ≡ rows_from moment rows
late until moment [] early = refl
late until moment (row ∷ rows) early =
    go (nat_le moment row.message.time) (nat_lt row.message.time (until + 1))
    (lt-ltb row.message.time (until + 1) (let e = early 0 row (omega arith) in omega arith)) (late until moment rows (λ i d below. early (suc i) d (omega arith)))
  where
    go : (b c : Bool) → c ≡ true → rows_within moment (until + 1) rows ≡ rows_from moment rows →
        cond (b && c) (row ∷ rows_within moment (until + 1) rows) (rows_within moment (until + 1) rows) ≡ cond b (row ∷ rows_from moment rows) (rows_from moment rows)
    go true c e later =
        ap (λ (z : Bool). cond z (row ∷ rows_within moment (until + 1) rows) (rows_within moment (until + 1) rows)) e ∙ ap (λ (xs : List Row). row ∷ xs) later
    go false c e later = later

-- at the processes of the first n groups the rows are those of the run, and at each other process those before its moment
pub record AreCountedBelow (owners : List ℕ) (moment : ℕ → ℕ) (n : ℕ) (run rows : List Row) : Type 0 where
  pub below : (p g : ℕ) → is_of owners g p ≡ true → g < n → rows_at p rows ≡ rows_at p run
  pub above : (p : ℕ) → ((g : ℕ) → is_of owners g p ≡ true → n ≤ g) → rows_at p rows ≡ rows_at p (rows_before (moment p) run)

module _ (plan : Plan) (owners own : List ℕ) (end : ℕ) (run : List Row) (lawful : AreLawfulRows plan run) where
  module _ (n : ℕ) (split : run ≡ rows_before (moment_of own end n) run ++ rows_from (moment_of own end n) run) (rows more : List Row)
      (is : more ≡ rows_within (moment_of own end n) (plan.until + 1) (rows_of_group owners n run)) where
    abbrev begin : ℕ
    begin = moment_of own end n

    here-is : more ≡ rows_of_group owners n (rows_from begin run)
    here-is =
        is ∙ (filters-swap (λ row. nat_le begin row.message.time && nat_lt row.message.time (plan.until + 1)) (λ row. is_of owners n row.place) run
        ∙ ap (rows_of_group owners n) (late plan.until begin run lawful.in_time))

    both-of : (p : ℕ) → rows_at p (rows ++ more) ≡ rows_at p rows ++ rows_at p more
    both-of p = filter-append (λ row. row.place == p) rows more

    mine-is : (p : ℕ) → is_of owners n p ≡ true → AreCountedBelow owners (moment_at owners own end) n run rows → rows_at p (rows ++ more) ≡ rows_at p run
    mine-is p o h =
        let at : moment_at owners own end p ≡ begin = ap (moment_in own end) (owner-is owners n p o) in
        both-of p ∙ (ap (λ (xs : List Row). xs ++ rows_at p more)
        (h.above p (λ g k. let one = of-one owners n g p o k in omega arith) ∙ ap (λ (m : ℕ). rows_at p (rows_before m run)) at)
        ∙ (ap (λ (xs : List Row). rows_at p (rows_before begin run) ++ xs) (ap (rows_at p) here-is ∙ mine-at owners n p o (rows_from begin run))
        ∙ (sym (filter-append (λ row. row.place == p) (rows_before begin run) (rows_from begin run)) ∙ ap (rows_at p) (sym split))))

    others-are : (p : ℕ) → is_of owners n p ≡ false → rows_at p (rows ++ more) ≡ rows_at p rows
    others-are p o =
        both-of p ∙ (ap (λ (xs : List Row). rows_at p rows ++ xs) (ap (rows_at p) here-is ∙ other-at owners n p o (rows_from begin run)) ∙ append-nil (rows_at p rows))

    -- at one group more
    pub one-below : AreCountedBelow owners (moment_at owners own end) n run rows → AreCountedBelow owners (moment_at owners own end) (n + 1) run (rows ++ more)
    one-below h =
        record {
          below = λ p g o i. elim (cases_eq g n) [
            | inl d ↦ mine-is p (subst (λ k. is_of owners k p ≡ true) d o) h
            | inr d ↦ others-are p (of-other owners n g p d o) ∙ h.below p g o (omega arith)
          ];
          above = λ p none. others-are p (not-of p none) ∙ h.above p (λ g o. let far = none g o in omega arith);
        }
      where
        not-of : (p : ℕ) → ((g : ℕ) → is_of owners g p ≡ true → n + 1 ≤ g) → is_of owners n p ≡ false
        not-of p none = go (is_of owners n p) refl
          where
            go : (b : Bool) → is_of owners n p ≡ b → b ≡ false
            go true o = absurd (let far = none n o in omega arith)
            go false o = refl

  -- and so at all
  pub all-below : (n : ℕ) → AreGrouped (process_count plan) n owners → (rows : List Row) → AreCountedBelow owners (moment_at owners own end) n run rows →
      (p : ℕ) → rows_at p rows ≡ rows_at p run
  all-below n grouped rows h p = elim (cases_lt p (process_count plan)) [
    | inl i ↦ let mine = own-group grouped p i in h.below p mine.0 mine.2 mine.1
    | inr i ↦ h.above p (λ g o. absurd (no-group grouped p i g o))
        ∙ (filters-swap (λ row. row.place == p) (λ row. nat_lt row.message.time (moment_at owners own end p)) run
        ∙ (ap (rows_before (moment_at owners own end p)) (lawful.none_outside p i) ∙ sym (lawful.none_outside p i)))
  ]

-- so many groups are counted whole: the rows are, at their processes, those of the run
pub record AreCountedOf (plan : Plan) (owners own : List ℕ) (end n : ℕ) (rows : List Row) : Type 0 where
  pub each : (run : List Row) → AreRowsOf plan run → AreCountedBelow owners (moment_at owners own end) n run rows

module _ (plan : Plan) (owners own : List ℕ) (end : ℕ) where
  -- none, where the rows before the moments are counted
  pub none-of-groups : (rows : List Row) → ∥ AreCountedBefore plan (moment_at owners own end) rows ∥₁ → AreCountedOf plan owners own end 0 rows
  none-of-groups rows C =
      record {
        each = λ run r. record {
          below = λ p g o i. absurd (omega arith);
          above = λ p none. ∥∥₁_elim C (hlevel props) (λ c. c.rows_are run r p);
        };
      }

  -- one more
  pub one-of-groups : HasLawfulRows plan → Splits → (n : ℕ) (rows : List Row) → AreCountedOf plan owners own end n rows → (more : List Row) →
      AreOfGroup plan owners n (moment_of own end n) (plan.until + 1) more → AreCountedOf plan owners own end (n + 1) (rows ++ more)
  one-of-groups lawful splits n rows C more here =
      record {
        each = λ run r. one-below plan owners own end run (lawful run r) n (splits (moment_of own end n) run (lawful run r).ordered) rows more
            (group-rows plan owners n (moment_of own end n) (plan.until + 1) more run here r) (C.each run r);
      }

  -- and all: the tables are those of the run
  pub all-of-groups : HasLawfulRows plan → ((xs ys : List Row) → ((p : ℕ) → rows_at p xs ≡ rows_at p ys) → tables_of plan xs ≡ tables_of plan ys) →
      (n : ℕ) → AreGrouped (process_count plan) n owners → (rows : List Row) → AreCountedOf plan owners own end n rows →
      (run : List Row) → AreRowsOf plan run → tables_of plan rows ≡ tables_of plan run
  all-of-groups lawful by_place n grouped rows C run r = by_place rows run (all-below plan owners own end run (lawful run r) n grouped rows (C.each run r))
