-- Which interval of the trace begins at a moment.
use Rattle.std.proofs.Common.{◌≡◌, ℕ, ◌/◌, ap, ◌∙◌, arith, mul-div_cancel}
use Rattle.trace_segments.specs.Words.{interval_width, cut, HasInterval}
use Rattle.trace_segments.proofs.IntervalLemmas.{cut-inside}

-- an interval is known by its beginning
pub begins-one : (until moment k : ℕ) → HasInterval until k → moment ≡ cut until k → moment / interval_width until ≡ k
begins-one until moment k inside at =
    ap (λ m. m / interval_width until) (at ∙ cut-inside until k inside) ∙ mul-div_cancel k (omega arith)
