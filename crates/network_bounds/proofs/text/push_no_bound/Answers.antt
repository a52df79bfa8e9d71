use Rattle.std.proofs.Common.{ℕ, List, ap, ◌∙◌, subst, OnOk, decimal}
use Rattle.trace_segments.specs.Words.{Adds}
use Rattle.network_bounds.specs.Said.{none_line}
use Rattle.network_bounds.proofs.text.push_no_bound.Goals as goal

pub returns : goal.returns
returns c =
    let is = ap (λ (of : List ℕ). none_line of c.place_name.result.now c.args.reason) c.format.ensures.text ∙ ap (λ (place : List ℕ). none_line (decimal c.args.link.now.id.0) place c.args.reason) c.place_name.ensures in
    subst (λ (text : List ℕ). OnOk c.push_none.result (Adds c.args.out.now c.push_none.new.out text)) is c.push_none.ensures
