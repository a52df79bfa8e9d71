-- A segment that is taken is the next one of its process.
use Rattle.std.proofs.Common.{◌≡◌, ◌∙◌, ℕ, ◌+◌, ◌<◌, ◌==◌, Bool, true, false, not, cond, List, length, refl, sym, ap, subst, arith, ◌||◌, nat_le, Option, Some, None, length-set}
use Rattle.std.proofs.lemmas.Grind.{common_steps}
use Rattle.vlink.specs.Letters.{Row}
use Rattle.trace_segments.specs.declared.segment_fault.SegmentFault.{SegmentFault}
use Rattle.trace_segments.specs.declared.segment_fault.SegmentFault.TheVariants.{Stranger}
use Rattle.trace_segments.specs.Words.{gathered, AreOfRows, IsOfRows, Gathering, taken_of, is_stranger, place_fault, segment_fault, with_segment, Waits, Gives, cut, rows_within, IsInOrder, SegmentRows, BatchRows}
use Rattle.trace_segments.proofs.GatheredLemmas.{interval_rows, with-of-rows, left-of-rows, firsts-are}

-- it is of one of the processes
process-known : (run run' processes process : ℕ) → (not (run == run') || nat_le processes process) ≡ false → process < processes
process-known run run' processes process known = grind (arith, common_steps)

-- it begins where the last one ended, and ends at the next cut
place-from : (until end next from to : ℕ) → place_fault until end next from to ≡ None → from ≡ end
place-from until end next from to none = grind (arith, common_steps)

place-to : (until end next from to : ℕ) → place_fault until end next from to ≡ None → to ≡ next
place-to until end next from to none = grind (arith, common_steps)

known : (b : Bool) (fault : Option SegmentFault) → cond b (Some Stranger) fault ≡ None → b ≡ false
known true fault e = absurd (cc)
known false fault e = refl

placed : (b : Bool) (fault : Option SegmentFault) → cond b (Some Stranger) fault ≡ None → fault ≡ None
placed true fault e = absurd (cc)
placed false fault e = e

at-place : (g : Gathering) (segment : SegmentRows) → segment_fault g segment ≡ None →
    place_fault g.until (cut g.until (taken_of g segment.process)) (cut g.until (taken_of g segment.process + 1)) segment.from segment.to ≡ None
at-place g segment none =
    placed (is_stranger g segment) (place_fault g.until (cut g.until (taken_of g segment.process)) (cut g.until (taken_of g segment.process + 1)) segment.from segment.to) none

-- so with it what waits are rows of each process, if it has those of its process
put-of-rows : (g : Gathering) (segment : SegmentRows) (rows_of : ℕ → List Row) → IsOfRows g rows_of → segment_fault g segment ≡ None →
    segment.rows ≡ rows_within segment.from segment.to (rows_of segment.process) → AreOfRows g.until g.given rows_of (with_segment segment.process segment.rows g.waiting)
put-of-rows g segment rows_of are none own =
    with-of-rows g.until g.given p rows_of segment.rows g.waiting are.segments
    (process-known segment.run g.run (length g.waiting) p (known (is_stranger g segment) (place_fault g.until (cut g.until n) (cut g.until (n + 1)) segment.from segment.to) none))
    (own
    ∙ ap (λ (a : ℕ). rows_within a segment.to (rows_of p)) (place-from g.until (cut g.until n) (cut g.until (n + 1)) segment.from segment.to (at-place g segment none))
    ∙ ap (λ (b : ℕ). rows_within (cut g.until n) b (rows_of p)) (place-to g.until (cut g.until n) (cut g.until (n + 1)) segment.from segment.to (at-place g segment none)))
  where
    p : ℕ
    p = segment.process

    n : ℕ
    n = taken_of g segment.process

pub waits-of-rows : (old new : Gathering) (segment : SegmentRows) (rows_of : ℕ → List Row) → IsOfRows old rows_of → segment_fault old segment ≡ None →
    segment.rows ≡ rows_within segment.from segment.to (rows_of segment.process) → Waits old segment new → IsOfRows new rows_of
waits-of-rows old new segment rows_of are none own waits =
    subst (λ (g : Gathering). IsOfRows g rows_of) (sym waits.kept) (record { segments = put-of-rows old segment rows_of are none own })

pub gives-of-rows : (old new : Gathering) (segment : SegmentRows) (batch : BatchRows) (rows_of : ℕ → List Row) → IsOfRows old rows_of → segment_fault old segment ≡ None →
    segment.rows ≡ rows_within segment.from segment.to (rows_of segment.process) → Gives old segment batch new → IsOfRows new rows_of
gives-of-rows old new segment batch rows_of are none own gives =
    subst (λ (g : Gathering). IsOfRows g rows_of) (sym gives.left)
    (record { segments = left-of-rows old.until old.given rows_of (with_segment segment.process segment.rows old.waiting) (put-of-rows old segment rows_of are none own) })

-- and the batch has those of all processes
pub batch-of-rows : (old new : Gathering) (segment : SegmentRows) (batch : BatchRows) (rows_of : ℕ → List Row) → IsOfRows old rows_of → segment_fault old segment ≡ None →
    segment.rows ≡ rows_within segment.from segment.to (rows_of segment.process) → Gives old segment batch new →
    IsInOrder (gathered (length old.waiting) (λ p. rows_within batch.from batch.to (rows_of p))) batch.rows
batch-of-rows old new segment batch rows_of are none own gives =
    subst (λ (rows : List Row). IsInOrder rows batch.rows)
    (firsts-are old.until old.given rows_of put (put-of-rows old segment rows_of are none own) gives.complete
    ∙ ap (λ (processes : ℕ). gathered processes (λ p. interval_rows old.until old.given (rows_of p))) (length-set old.waiting segment.process _)
    ∙ ap (λ (from : ℕ). gathered (length old.waiting) (λ p. rows_within from (cut old.until (old.given + 1)) (rows_of p))) (sym gives.from)
    ∙ ap (λ (to : ℕ). gathered (length old.waiting) (λ p. rows_within batch.from to (rows_of p))) (sym gives.to))
    gives.rows
  where
    put : List (List (List Row))
    put = with_segment segment.process segment.rows old.waiting
