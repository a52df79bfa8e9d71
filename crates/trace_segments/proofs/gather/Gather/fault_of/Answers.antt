use Rattle.std.proofs.Common.{◌≡◌, ◌<◌, ℕ, ◌+◌, length, sym, ap, ◌∙◌, subst, arith}
use Rattle.trace_segments.specs.Words.{Gathering, segment_fault, segments_at}
use Rattle.trace_segments.proofs.FaultLemmas.{known-fault}
use Rattle.trace_segments.proofs.WaitingLemmas.{segments_at-read}
use Rattle.trace_segments.proofs.gather.Gather.fault_of.Goals as goal

pub returns : goal.returns
returns c =
    let fields = c.self.inside in
    let g : Gathering = record { run = fields.run; until = fields.until; given = fields.given; waiting = fields.waiting.items } in
    let segment = c.args.segment.now in
    let n : ℕ = fields.given + c.len-2.result in
    let place : c.from-process.result ≡ segment.process = c.from-process.ensures ∙ c.process.ensures in
    let below : c.from-process.result < length g.waiting = omega (arith, c.self.inside.waiting.ok.0) in
    let here : segments_at segment.process g.waiting ≡ c.index.result.now = ap (λ (p : ℕ). segments_at p g.waiting) (sym place) ∙ segments_at-read c.from-process.result g.waiting c.index.result.now below c.index.ensures in
    let taken : n ≡ fields.given + length (segments_at segment.process g.waiting) = ap (λ (k : ℕ). fields.given + k) (c.len-2.ensures ∙ ap length (sym here)) in
    let run : segment.run ≡ fields.run = sym c.run.ensures ∙ c.if-run-self.false in
    let known = known-fault g segment n run (subst (λ (p : ℕ). p < length g.waiting) place below) taken in
    rw (c.place_fault.ensures, c.cut-end.ensures, c.cut-next.ensures, c.from.ensures, c.to.ensures) (sym known ∙ ap (λ (h : Gathering). segment_fault h segment) c.self.view_is)
