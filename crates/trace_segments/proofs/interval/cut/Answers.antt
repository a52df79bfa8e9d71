use Rattle.std.proofs.Common.{ℕ, refl, ◌+◌, ◌<◌, ◌≤◌, ◌*◌, ◌∙◌, ◌⊎◌, inl, inr, sym, ap}
use Rattle.std.proofs.lemmas.Bool.{cases_lt}
use Rattle.trace_segments.specs.Words.{interval_width}
use Rattle.trace_segments.proofs.IntervalLemmas.{cut-inside, cut-behind}
use Rattle.trace_segments.proofs.interval.cut.Goals as goal

pub returns-then-has_interval : goal.returns-then-has_interval
returns-then-has_interval c =
    c.of_known.ensures
    ∙ ap (λ (w : ℕ). c.args.k * w) (c.ns.ensures.value ∙ c.width.ensures.value)
    ∙ sym (cut-inside c.args.until c.args.k (c.if-has_interval.ensures.0 refl))

pub returns-else-has_interval : goal.returns-else-has_interval
returns-else-has_interval c =
    c.of_known-else-has_interval.ensures
    ∙ ap (λ (n : ℕ). n + 1) c.ns-else-has_interval.ensures.value
    ∙ sym (cut-behind until k (behind (cases_lt until (k * interval_width until))))
  where
    until : ℕ
    until = c.args.until

    k : ℕ
    k = c.args.k

    behind : (until < k * interval_width until) ⊎ (k * interval_width until ≤ until) → until < k * interval_width until
    behind (inl lt) = lt
    behind (inr inside) = absurd (let told = c.if-has_interval.ensures.1 inside in cc)
