-- Why a segment of a trace is refused.
use Rattle.std.proofs.Common.{◌≡◌, ◌∙◌, ℕ, ◌+◌, ◌<◌, ◌≤◌, ◌==◌, Bool, true, false, not, cond, length, ap, sym, arith, ◌||◌, nat_le, Some, None}
use Rattle.std.proofs.lemmas.Grind.{common_steps}
use Rattle.trace_segments.specs.declared.segment_fault.SegmentFault.TheVariants.{Stranger}
use Rattle.trace_segments.specs.Words.{cut, Gathering, taken_of, is_stranger, place_fault, segment_fault, SegmentRows}
use Rattle.trace_segments.proofs.IntervalLemmas.{inside-cut, few-intervals}

-- a segment of the run and of one of its processes
not-stranger : (run run' processes process : ℕ) → run ≡ run' → process < processes → (not (run == run') || nat_le processes process) ≡ false
not-stranger run run' processes process same below = grind (arith, common_steps)

-- is refused for its place alone
pub known-fault : (g : Gathering) (segment : SegmentRows) (n : ℕ) → segment.run ≡ g.run → segment.process < length g.waiting → n ≡ taken_of g segment.process →
    segment_fault g segment ≡ place_fault g.until (cut g.until n) (cut g.until (n + 1)) segment.from segment.to
known-fault g segment n same below e =
    ap (λ b. cond b (Some Stranger) (place_fault g.until (cut g.until m) (cut g.until (m + 1)) segment.from segment.to)) (not-stranger segment.run g.run (length g.waiting) segment.process same below)
    ∙ ap (λ (k : ℕ). place_fault g.until (cut g.until k) (cut g.until (k + 1)) segment.from segment.to) (sym e)
  where
    m : ℕ
    m = taken_of g segment.process

-- a segment that is not refused for its place begins at the end or before
place-inside : (until end next from to : ℕ) → place_fault until end next from to ≡ None → end ≤ until
place-inside until end next from to none = grind (arith, common_steps)

-- so there is room for it
pub taken-few : (g : Gathering) (segment : SegmentRows) → segment_fault g segment ≡ None → taken_of g segment.process < 1024
taken-few g segment none = few-intervals g.until m (inside-cut g.until m (place-inside g.until (cut g.until m) (cut g.until (m + 1)) segment.from segment.to (go (is_stranger g segment) none)))
  where
    m : ℕ
    m = taken_of g segment.process

    go : (b : Bool) → cond b (Some Stranger) (place_fault g.until (cut g.until m) (cut g.until (m + 1)) segment.from segment.to) ≡ None →
        place_fault g.until (cut g.until m) (cut g.until (m + 1)) segment.from segment.to ≡ None
    go true e = absurd (cc)
    go false e = e
