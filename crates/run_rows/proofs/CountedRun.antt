-- The tables of a run: those of the rows that were counted while it went on, of each group before a moment of its own.
use Rattle.std.proofs.Common.{◌≡◌, ◌∙◌, ℕ, ◌<◌, ◌≤◌, ◌==◌, List, [], ◌++◌, length, set, slice_get, refl, sym, ap, subst, arith, append-nil, Option, IfSome, Some, None, ◌⊎◌, inl, inr}
use mathlib.Core.Logic.{∥∥₁_map, ∥∥₁_map₂}
use Rattle.std.proofs.lemmas.Bool.{cases_eq}
use Rattle.std.proofs.lemmas.Option.{same_Some}
use Rattle.std.proofs.lemmas.List.{get_or-set_same, get_or-set_other}
use Rattle.std.proofs.lemmas.List.Elements.{filter-append}
use Rattle.virtual_time.specs.Law.{rows_at}
use Rattle.vlink.specs.Letters.{Row}
use Rattle.network.specs.Words.{Plan}
use Rattle.trace_segments.specs.Words.{rows_within, rows_before, BatchRows}
use Rattle.trace_segments.proofs.TimeLemmas.{none-before}
use Rattle.network_actors.specs.Networks.{AreRowsOf}
use Rattle.run_rows.specs.Counts.{moment_at, moment_in, moment_of, AreCountedBefore, IsPartOfGroup}
use Rattle.run_rows.specs.Traces.{HasLawfulRows, IsBatchOfRun}
use Rattle.run_rows.proofs.TraceText.{before-more}
use Rattle.run_rows.proofs.WrittenRun.{Splits}

-- ---- moments
-- where no group has a moment of its own, all is counted to one end
no-own : (end : ℕ) (o : Option ℕ) → moment_in [] end o ≡ end
no-own end None = refl
no-own end (Some g) = refl

-- where each has the moment 0, so has each process
first-moment : (own : List ℕ) → ((g : ℕ) → moment_of own 0 g ≡ 0) → (o : Option ℕ) → moment_in own 0 o ≡ 0
first-moment own first None = refl
first-moment own first (Some g) = first g

-- once the group of a process has another moment, the process has that, and a process of no such group has its own
moment-set : (own : List ℕ) (end n to : ℕ) → n < length own → (o : Option ℕ) → o ≡ Some n → moment_in (set own n to) end o ≡ to
moment-set own end n to listed o t = ap (moment_in (set own n to) end) t ∙ get_or-set_same own n to end listed

moment-kept : (own : List ℕ) (end n to : ℕ) (o : Option ℕ) → (o ≡ Some n → ⊥) → moment_in (set own n to) end o ≡ moment_in own end o
moment-kept own end n to None t = refl
moment-kept own end n to (Some h) t = get_or-set_other own n h to end (λ e. t (ap (λ (z : ℕ). Some z) e))

-- a process is of this group or not
is-or-not : (n : ℕ) (o : Option ℕ) → (o ≡ Some n) ⊎ (o ≡ Some n → ⊥)
is-or-not n None = inr (λ e. absurd (let bad : None ≡ Some n = e in cc))
is-or-not n (Some h) = elim (cases_eq h n) [
  | inl d ↦ inl (ap (λ (z : ℕ). Some z) d)
  | inr d ↦ inr (λ e. d (same_Some h n e))
]

-- ---- while the run goes on
-- no row is counted at first
pub none-counted : (plan : Plan) (owners own : List ℕ) (end : ℕ) → end ≡ 0 → ((g : ℕ) → moment_of own 0 g ≡ 0) → AreCountedBefore plan (moment_at owners own end) []
none-counted plan owners own end zero first =
    record {
      rows_are = λ rows r p.
          let at : moment_at owners own end p ≡ 0 = ap (λ (z : ℕ). moment_at owners own z p) zero ∙ first-moment own first (slice_get owners p) in
          sym (ap (rows_at p) (ap (λ (m : ℕ). rows_before m rows) at ∙ none-before 0 rows (λ i d below. omega arith)));
    }

module _ (plan : Plan) (owners : List ℕ) (lawful : HasLawfulRows plan) (splits : Splits) where
  -- the rows of a process within two moments come behind those before the first
  behind : (run : List Row) → AreRowsOf plan run → (p from to : ℕ) → from ≤ to →
      rows_at p (rows_before from run) ++ rows_at p (rows_within from to run) ≡ rows_at p (rows_before to run)
  behind run r p from to le =
      sym (filter-append (λ row. row.place == p) (rows_before from run) (rows_within from to run))
      ∙ ap (rows_at p) (before-more run (λ moment. splits moment run (lawful run r).ordered) from to le)

  -- the rows of a batch more, which begins where all are counted to
  pub batch-counted : (end : ℕ) (counted : List Row) → AreCountedBefore plan (moment_at owners [] end) counted → (batch : BatchRows) →
      IsBatchOfRun plan batch → batch.from ≡ end → AreCountedBefore plan (moment_at owners [] batch.to) (counted ++ batch.rows)
  batch-counted end counted C batch B at =
      record {
        rows_are = λ run r p.
            let le : end ≤ batch.to = (let i = B.ordered in omega arith) in
            let before : rows_at p counted ≡ rows_at p (rows_before end run) = C.rows_are run r p ∙ ap (λ (m : ℕ). rows_at p (rows_before m run)) (no-own end (slice_get owners p)) in
            filter-append (λ row. row.place == p) counted batch.rows
            ∙ (ap (λ (xs : List Row). xs ++ rows_at p batch.rows) before
            ∙ (ap (λ (xs : List Row). rows_at p (rows_before end run) ++ rows_at p xs) (B.rows_are run r ∙ ap (λ (from : ℕ). rows_within from batch.to run) at)
            ∙ (behind run r p end batch.to le ∙ ap (λ (m : ℕ). rows_at p (rows_before m run)) (sym (no-own batch.to (slice_get owners p))))));
      }

  -- the rows of a group more, from its moment on
  module _ (own : List ℕ) (end n to : ℕ) (listed : n < length own) (le : moment_of own end n ≤ to) (counted more : List Row)
      (C : AreCountedBefore plan (moment_at owners own end) counted) (here : IsPartOfGroup plan owners n (moment_of own end n) to more) where
    module _ (run : List Row) (r : AreRowsOf plan run) (p : ℕ) where
      abbrev begin : ℕ
      begin = moment_of own end n

      -- the rows of the process before a moment
      abbrev at_before : ℕ → List Row
      at_before m = rows_at p (rows_before m run)

      both : rows_at p (counted ++ more) ≡ at_before (moment_at owners own end p) ++ rows_at p more
      both = filter-append (λ row. row.place == p) counted more ∙ ap (λ (xs : List Row). xs ++ rows_at p more) (C.rows_are run r p)

      mine : slice_get owners p ≡ Some n → rows_at p (counted ++ more) ≡ at_before (moment_at owners (set own n to) end p)
      mine t =
          both ∙ (ap (λ (o : Option ℕ). at_before (moment_in own end o) ++ rows_at p more) t
          ∙ (ap (λ (xs : List Row). at_before begin ++ xs) (here.mine run r p t)
          ∙ (behind run r p begin to le ∙ ap at_before (sym (moment-set own end n to listed (slice_get owners p) t)))))

      as-before : (slice_get owners p ≡ Some n → ⊥) → rows_at p (counted ++ more) ≡ at_before (moment_at owners (set own n to) end p)
      as-before t =
          both ∙ (ap (λ (xs : List Row). at_before (moment_at owners own end p) ++ xs) (here.others run r p t)
          ∙ (append-nil (at_before (moment_at owners own end p)) ∙ ap at_before (sym (moment-kept own end n to (slice_get owners p) t))))

      at-each : rows_at p (counted ++ more) ≡ at_before (moment_at owners (set own n to) end p)
      at-each = elim (is-or-not n (slice_get owners p)) [
        | inl t ↦ mine t
        | inr t ↦ as-before t
      ]

    pub group-counted : AreCountedBefore plan (moment_at owners (set own n to) end) (counted ++ more)
    group-counted = record { rows_are = at-each }

-- as a call that counts the rows of a batch says it
pub batch-known : (plan network : Plan) (owners : List ℕ) → network ≡ plan → HasLawfulRows network → Splits → (own : List ℕ) → own ≡ [] → (end : ℕ) (tables : Option (List Row)) →
    ∥ IfSome tables (AreCountedBefore plan (moment_at owners own end)) ∥₁ → (counted : List Row) → tables ≡ Some counted → (batch : BatchRows) →
    ∥ IsBatchOfRun plan batch ∥₁ → batch.from ≡ end → (rows new : List Row) → rows ≡ batch.rows → new ≡ counted ++ rows → (to : ℕ) → to ≡ batch.to →
    ∥ AreCountedBefore plan (moment_at owners own to) new ∥₁
batch-known plan network owners same lawful splits own none end tables C counted some batch B at rows new is longer to ends =
    ∥∥₁_map₂ (subst (λ (o : Option (List Row)). ∥ IfSome o (AreCountedBefore plan (moment_at owners own end)) ∥₁) some C) B (λ c b.
    subst (λ (z : ℕ). AreCountedBefore plan (moment_at owners own z) new) (sym ends)
    (subst (AreCountedBefore plan (moment_at owners own batch.to)) (sym (longer ∙ ap (λ (xs : List Row). counted ++ xs) is))
    (subst (λ (o : List ℕ). AreCountedBefore plan (moment_at owners o batch.to) (counted ++ batch.rows)) (sym none)
    (batch-counted plan owners (subst HasLawfulRows same lawful) splits end counted (subst (λ (o : List ℕ). AreCountedBefore plan (moment_at owners o end) counted) none c) batch b at))))

-- and one that counts those of a group
pub rows-known : (plan network : Plan) (owners : List ℕ) → network ≡ plan → HasLawfulRows network → Splits → (own : List ℕ) (end n to : ℕ) → n < length own →
    moment_of own end n ≤ to → (tables : Option (List Row)) → ∥ IfSome tables (AreCountedBefore plan (moment_at owners own end)) ∥₁ →
    (counted : List Row) → tables ≡ Some counted → (rows new : List Row) → IsPartOfGroup plan owners n (moment_of own end n) to rows → new ≡ counted ++ rows →
    ∥ AreCountedBefore plan (moment_at owners (set own n to) end) new ∥₁
rows-known plan network owners same lawful splits own end n to listed le tables C counted some rows new here longer =
    ∥∥₁_map (subst (λ (o : Option (List Row)). ∥ IfSome o (AreCountedBefore plan (moment_at owners own end)) ∥₁) some C)
    (λ c. subst (AreCountedBefore plan (moment_at owners (set own n to) end)) (sym longer)
    (group-counted plan owners (subst HasLawfulRows same lawful) splits own end n to listed le counted rows c here))
