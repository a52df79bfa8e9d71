use Rattle.std.proofs.Common.{◌/◌, ◌∙◌, sym, ap, arith}
use Rattle.trace_segments.specs.Words.{cut}
use Rattle.trace_segments.proofs.IntervalLemmas.{cut-inside}
use Rattle.network_runs.proofs.Beginnings.{begins-one}
use Rattle.network_runs.proofs.interval.interval_at.Goals as goal

pub returns-then-ns-clause-none : goal.returns-then-ns-clause-none
returns-then-ns-clause-none c = λ k inside at. let begin = cut-inside c.args.until k inside in absurd (omega arith)

pub returns-then-ns-2-clause-none : goal.returns-then-ns-2-clause-none
returns-then-ns-2-clause-none c = λ k inside at.
    let number =
    ap (λ m. m / c.ns-2.result) c.ns.ensures.value
    ∙ (ap (λ w. c.args.moment / w) (c.ns-2.ensures.value ∙ c.width.ensures.value) ∙ begins-one c.args.until c.args.moment k inside at) in
    let begin = c.cut.ensures ∙ (ap (cut c.args.until) number ∙ sym at) in
    absurd (omega arith)
