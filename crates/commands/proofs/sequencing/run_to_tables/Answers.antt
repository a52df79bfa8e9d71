use Rattle.std.proofs.Common.{◌∙◌, None, inl, inr, refl, sym, subst, true}
use Rattle.commands.specs.Files.{LacksSeq, ShowsAlone}
use Rattle.commands.specs.Progress.{IsProgressLine}
use Rattle.commands.specs.Streams.{IsHeard}
use Rattle.commands.proofs.Outcomes.{err_then, no_value, ok_then, same_err}
use Rattle.commands.proofs.Heard.{at_end}
use Rattle.commands.proofs.Lacking.{no_output}
use Rattle.commands.proofs.sequencing.run_to_tables.Goals as goal

pub returns-clause-left : goal.returns-clause-left
returns-clause-left g c =
    let outside = g.H.Host.outside in
    let heard = c.heard_tables.new.host in
    let out = c.show_tables-shown.new.output in
    let new = outside.with_output heard out in
    ok_then c.show_tables-shown.result c.show_tables-shown.ensures.text (λ took.
    at_end outside c.args.is_asked c.args.host.now heard new (λ host. ShowsAlone outside host new) c.heard_tables.ensures.host
    (g.met.H.Host.lawful.errors_beside heard out) (out, refl))

pub returns-in_err-tables-clause-fault : goal.returns-in_err-tables-clause-fault
returns-in_err-tables-clause-fault g c =
    same_err _ c.from_residual.result c.in_err-tables.field-0.0 c.from_residual.ensures.1 (inl (c.in_err-tables.ensures.fault, c.heard_tables.ensures.host))

pub returns-clause-fault : goal.returns-clause-fault
returns-clause-fault g c =
    let outside = g.H.Host.outside in
    let law = g.met.H.Host.lawful in
    let heard = c.heard_tables.new.host in
    let out = c.show_tables-shown.new.output in
    let new = outside.with_output heard out in
    err_then c.show_tables-shown.result c.show_tables-shown.ensures.fault (λ fault met.
    at_end outside c.args.is_asked c.args.host.now heard new (λ host. LacksSeq outside None host new c.args.network.now fault) c.heard_tables.ensures.host
    (law.errors_beside heard out)
    (inr (inr (heard, refl, no_output outside law true heard c.output.result.now out fault c.output.ensures.value met))))

pub returns-in_err-tables-clause-tables : goal.returns-in_err-tables-clause-tables
returns-in_err-tables-clause-tables g c = no_value _ _ c.from_residual.result c.from_residual.ensures.1

pub returns-in_err-tables-clause-left : goal.returns-in_err-tables-clause-left
returns-in_err-tables-clause-left g c = no_value _ _ c.from_residual.result c.from_residual.ensures.1

pub returns-in_err-tables-clause-kept : goal.returns-in_err-tables-clause-kept
returns-in_err-tables-clause-kept g c =
    same_err _ c.from_residual.result c.in_err-tables.field-0.0 c.from_residual.ensures.1 (λ other. c.heard_tables.ensures.output)

pub returns-in_err-tables-clause-heard : goal.returns-in_err-tables-clause-heard
returns-in_err-tables-clause-heard g c = c.heard_tables.ensures.heard

pub returns-clause-kept : goal.returns-clause-kept
returns-clause-kept g c =
    err_then c.show_tables-shown.result c.show_tables-shown.ensures.kept (λ fault same other.
    g.met.H.Host.lawful.output_stays c.heard_tables.new.host c.show_tables-shown.new.output ∙ (same other ∙ (c.output.ensures.value ∙ c.heard_tables.ensures.output)))

pub returns-clause-heard : goal.returns-clause-heard
returns-clause-heard g c =
    subst (IsHeard g.H.Host.outside c.args.host.now c.args.is_asked (IsProgressLine c.args.network.now.until))
    (sym (g.met.H.Host.lawful.errors_beside c.heard_tables.new.host c.show_tables-shown.new.output)) c.heard_tables.ensures.heard
