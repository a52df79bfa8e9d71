use Rattle.std.proofs.Common.{◌≡◌, ℕ, ◌+◌, ◌<◌, None, length, sym, subst, ◌∙◌}
use Rattle.trace_segments.specs.Words.{Gathering, AreFew, segments_at, segment_fault, taken_of, with_segment, SegmentRows}
use Rattle.trace_segments.proofs.FaultLemmas.{taken-few}
use Rattle.trace_segments.proofs.WaitingLemmas.{few-with, few-left}
use Rattle.trace_segments.proofs.gather.Gather.take.Goals as goal

-- there is room for a segment that is taken
room : (fields g : Gathering) (segment : SegmentRows) (p : ℕ) → fields ≡ g → p ≡ segment.process → segment_fault g segment ≡ None → fields.given + length (segments_at p fields.waiting) < 1024
room fields g segment p view place none =
    subst (λ (q : ℕ). fields.given + length (segments_at q fields.waiting) < 1024) (sym place)
    (subst (λ (h : Gathering). taken_of h segment.process < 1024) (sym view) (taken-few g segment none))

pub invariant_of-self-in-Ok-None : goal.invariant_of-self-in-Ok-None
invariant_of-self-in-Ok-None c =
    let fields = c.self.inside in
    let process = c.from-process.result in
    let rows = c.into_rows.result.items in
    let kept = rw c.in-Ok-None.field-0-is at c.in-Ok-None.ensures.kept in
    let place : process ≡ c.args.segment.process = c.from-process.ensures ∙ c.process.ensures in
    let few = few-with fields.given process rows fields.waiting.items c.self.invariant.1 (room _ c.args.self.now c.args.segment process c.self.view_is place (sym c.in_default.ensures)) in
    (c.self.invariant.0, subst (AreFew fields.given) (sym kept) few)

pub invariant_of-self-in-Ok-Some : goal.invariant_of-self-in-Ok-Some
invariant_of-self-in-Ok-Some c =
    let fields = c.self.inside in
    let process = c.from-process.result in
    let rows = c.into_rows.result.items in
    let left = rw c.in-Ok-Some.field-0-is at c.in-Ok-Some.ensures.left in
    let complete = rw c.in-Ok-Some.field-0-is at c.in-Ok-Some.ensures.complete in
    let place : process ≡ c.args.segment.process = c.from-process.ensures ∙ c.process.ensures in
    let few = few-with fields.given process rows fields.waiting.items c.self.invariant.1 (room _ c.args.self.now c.args.segment process c.self.view_is place (sym c.in_default.ensures)) in
    (c.self.invariant.0, subst (AreFew (fields.given + 1)) (sym left) (few-left fields.given (with_segment process rows fields.waiting.items) few complete))
