-- The segments of a run that wait, and its batches.
use Rattle.std.proofs.Common.{◌≡◌, ◌∙◌, ℕ, zero, suc, List, [], ◌∷◌, Option, Some, None, length, refl, sym, ap, subst, arith, Result, Ok, Err, IfOk, OnErr, IfSome, IfNone, length-set}
use Rattle.std.specs.List.{repeat}
use Rattle.std.proofs.lemmas.List.{length-map}
use Rattle.vlink.specs.Letters.{Row}
use Rattle.network.specs.Words.{Plan, process_count}
use Rattle.group_exchange.specs.Keeps.{AreGrouped}
use Rattle.group_exchange.specs.Rows.{rows_of_group}
use Rattle.trace_segments.specs.Words.{IsOfRows, Gathering, no_segments, segment_fault, with_segment, Waits, Gives, rows_within, SegmentRows, BatchRows}
use Rattle.trace_segments.specs.declared.segment_fault.SegmentFault.{SegmentFault}
use Rattle.trace_segments.proofs.IntervalLemmas.{cut-rises}
use Rattle.seqsim.specs.Networks.{AreRowsOf}
use Rattle.worker_pool.specs.Segments.{IsGroupSegmentOfRun}
use Rattle.run_rows.specs.Traces.{IsBatchOfRun}
use Rattle.run_rows.proofs.Nothing.{none-of}
use Rattle.worker_pool.specs.Gatherings.{IsGatheringOfRun}

-- of each group a list
repeat-count : {X : Type 0} (x : X) (n : ℕ) → length (repeat n (x ∷ [])) ≡ n
repeat-count x zero = refl
repeat-count x (suc n) = let rest = repeat-count x n in omega arith

module _ (plan : Plan) (owners : List ℕ) (groups : ℕ) where
  -- what waits has the rows of the run at each group
  abbrev pub HasRowsOfRun : Gathering → Type 0
  HasRowsOfRun g = (rows : List Row) → AreRowsOf plan rows → IsOfRows g (λ n. rows_of_group owners n rows)

  -- no segment waits at first
  pub none-gathered : (count until : ℕ) → count ≡ groups → until ≡ plan.until → AreGrouped (process_count plan) groups owners →
      HasRowsOfRun (no_segments 0 count until) → (g : Gathering) → g ≡ no_segments 0 count until → IsGatheringOfRun plan owners groups g
  none-gathered count until all ends grouped rows_are g is =
      subst (IsGatheringOfRun plan owners groups) (sym is) (record {
        run_is = refl;
        until_is = ends;
        count = repeat-count _ count ∙ all;
        grouped = grouped;
        rows_are = rows_are;
      })

  -- a segment of the run has the rows of its group and interval
  pub own-rows : (segment : SegmentRows) → (k : ℕ) × IsGroupSegmentOfRun plan owners segment.process k segment → (rows : List Row) → AreRowsOf plan rows →
      segment.rows ≡ rows_within segment.from segment.to (rows_of_group owners segment.process rows)
  own-rows segment of_run rows r =
      subst (λ (q : SegmentRows). q.rows ≡ rows_within q.from q.to (rows_of_group owners q.process rows)) (sym (of_run.1 rows r)) refl

  module _ (old new : Gathering) (segment : SegmentRows) (G : IsGatheringOfRun plan owners groups old) where
    put-count : length (with_segment segment.process segment.rows old.waiting) ≡ groups
    put-count = length-set old.waiting segment.process _ ∙ G.count

    -- a segment more, which waits
    pub waits-gathered : Waits old segment new → HasRowsOfRun new → IsGatheringOfRun plan owners groups new
    waits-gathered waits rows_are =
        record {
          run_is = ap (λ (g : Gathering). g.run) waits.kept ∙ G.run_is;
          until_is = ap (λ (g : Gathering). g.until) waits.kept ∙ G.until_is;
          count = ap (λ (g : Gathering). length g.waiting) waits.kept ∙ put-count;
          grouped = G.grouped;
          rows_are = rows_are;
        }

    module _ (batch : BatchRows) (gives : Gives old segment batch new) where
      -- or with which a batch is given
      pub gives-gathered : HasRowsOfRun new → IsGatheringOfRun plan owners groups new
      gives-gathered rows_are =
          record {
            run_is = ap (λ (g : Gathering). g.run) gives.left ∙ G.run_is;
            until_is = ap (λ (g : Gathering). g.until) gives.left ∙ G.until_is;
            count = ap (λ (g : Gathering). length g.waiting) gives.left ∙ (length-map _ _ ∙ put-count);
            grouped = G.grouped;
            rows_are = rows_are;
          }

      -- which ends no earlier than it begins
      pub given-batch : ((rows : List Row) → AreRowsOf plan rows → batch.rows ≡ rows_within batch.from batch.to rows) → IsBatchOfRun plan batch
      given-batch rows_are =
          record {
            ordered = let first = gives.from in let last = gives.to in let up = cut-rises old.until old.given in omega arith;
            rows_are = rows_are;
          }

    -- so what waits is of the run, whatever came of the segment
    pub segment-gathered : (r : Result (Option BatchRows) SegmentFault) → ((fault : SegmentFault) → segment_fault old segment ≡ Some fault → r ≡ Err fault) →
        OnErr r (new ≡ old) → IfOk r (λ given. IfNone given (Waits old segment new)) → IfOk r (λ given. IfSome given (λ batch. Gives old segment batch new)) →
        (segment_fault old segment ≡ None → Waits old segment new → HasRowsOfRun new) →
        (segment_fault old segment ≡ None → (batch : BatchRows) → Gives old segment batch new → HasRowsOfRun new) → IsGatheringOfRun plan owners groups new
    segment-gathered (Err fault) refused unchanged waits gives when_waits when_gives = subst (IsGatheringOfRun plan owners groups) (sym unchanged) G
    segment-gathered (Ok None) refused unchanged waits gives when_waits when_gives =
        waits-gathered waits (when_waits (none-of (segment_fault old segment) (λ fault e. let f = refused fault e in absurd (cc))) waits)
    segment-gathered (Ok (Some batch)) refused unchanged waits gives when_waits when_gives =
        gives-gathered batch gives (when_gives (none-of (segment_fault old segment) (λ fault e. let f = refused fault e in absurd (cc))) batch gives)
