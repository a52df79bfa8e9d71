use Rattle.std.proofs.Common.{◌≡◌, ◌∙◌, subst}
use Rattle.trace_tables.specs.Text.{tables_text}
use Rattle.commands.specs.Ending.{Took}
use Rattle.commands.proofs.Outcomes.{same_err}
use Rattle.commands.proofs.Lacking.{no_output}
use Rattle.commands.proofs.Streams.{says, shows}
use Rattle.commands.proofs.replaying.show_conclusion.Goals as goal

pub returns-clause-tables : goal.returns-clause-tables
returns-clause-tables g c =
    let outside = g.H.Host.outside in
    let law = g.met.H.Host.lawful in
    let before = c.args.host.now in
    let out = c.show_tables.new.output in
    let shown = outside.with_output before out in
    shows outside law before (outside.with_errors shown c.say.new.errors) c.output.result.now out (tables_text c.args.conclusion.now.world.plan c.args.conclusion.now.tables)
    c.output.ensures.value (law.output_beside shown c.say.new.errors ∙ law.output_stays before out)
    (subst (λ plan. Took g.H.Output.Sink.taken c.output.result.now out (tables_text plan c.args.conclusion.now.tables)) c.network.ensures c.in_ok-show_tables.ensures.text)

pub returns-clause-line : goal.returns-clause-line
returns-clause-line g c =
    let outside = g.H.Host.outside in
    let law = g.met.H.Host.lawful in
    let before = c.args.host.now in
    let shown = outside.with_output before c.show_tables.new.output in
    let after = outside.with_errors shown c.say.new.errors in
    subst (λ text. outside.errors_failures (outside.errors after) ≡ outside.errors_failures (outside.errors before) → Took outside.said (outside.errors before) (outside.errors after) text)
    c.as_str.ensures.value
    (says outside law before after c.errors.result.now c.say.new.errors c.as_str.result.now
    (c.errors.ensures.value ∙ law.errors_beside before c.show_tables.new.output) (law.errors_stay shown c.say.new.errors) c.say.ensures.took)

pub returns-in_err-show_tables-clause-fault : goal.returns-in_err-show_tables-clause-fault
returns-in_err-show_tables-clause-fault g c =
    same_err _ c.from_residual.result c.in_err-show_tables.field-0.0 c.from_residual.ensures.1
    (no_output g.H.Host.outside g.met.H.Host.lawful _ c.args.host.now c.output.result.now c.show_tables.new.output c.in_err-show_tables.field-0.0 c.output.ensures.value
    c.in_err-show_tables.ensures.fault)
