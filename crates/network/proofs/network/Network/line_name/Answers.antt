use Rattle.std.proofs.Common.{◌≡◌, length, map, string_bytes, Some, ap, sym, ◌∙◌, arith}
use Rattle.std.proofs.lemmas.List.{length-map}
use Rattle.network.specs.Words.{lines_of, line_name}
use Rattle.network.proofs.BuildLemmas.{read-made}
use Rattle.network.proofs.network.Network.line_name.Goals as goal

pub returns : goal.returns
returns c =
    let names = c.self.inside.tables.line_names in
    let plan = c.args.self.now in
    let same : map string_bytes names.items ≡ map (line_name plan.nodes) (lines_of plan) = c.self.invariant.1.line_names ∙ ap (λ p. map (line_name p.nodes) (lines_of p)) c.self.view_is in
    let len : length names.items ≡ length (lines_of plan) = sym (length-map names.items string_bytes) ∙ ap length same ∙ length-map (lines_of plan) (line_name plan.nodes) in
    read-made (line_name plan.nodes) string_bytes (lines_of plan) names.items names.len c.args.line c.index.result.now same names.ok.0 (omega (arith, len, names.ok.0)) c.index.ensures
    ∙ ap Some (sym c.as_str.ensures.value)
