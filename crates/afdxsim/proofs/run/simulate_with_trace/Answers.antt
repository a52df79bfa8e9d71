use Rattle.std.proofs.Common.{◌≡◌, ◌∙◌, List, inr, Ok, Err, true, refl, sym, ap, subst}
use Rattle.vlink.specs.Letters.{Row}
use Rattle.seqsim.specs.Networks.{AreRowsOf}
use Rattle.trace_segments.specs.Words.{trace_text}
use Rattle.commands.specs.Ending.{Took}
use Rattle.afdxsim.specs.Files.{LacksTrace}
use Rattle.afdxsim.specs.Workers.{IsRunLine}
use Rattle.commands.specs.Streams.{heard_host}
use Rattle.commands.specs.Sequencing.{IsTraceText}
use Rattle.commands.proofs.Outcomes.{at_err, at_ok, no_value}
use Rattle.commands.proofs.Heard.{begins_given, heard_beside, heard_given, makes_there}
use Rattle.commands.proofs.Lacking.{lacks_trace}
use Rattle.commands.proofs.Leaving.{written}
use Rattle.afdxsim.proofs.run.simulate_with_trace.Goals as goal

pub returns-in_err-outcome-clause-heard : goal.returns-in_err-outcome-clause-heard
returns-in_err-outcome-clause-heard g c =
    let outside = g.H.Host.outside in
    let law = g.met.H.Host.lawful in
    let said = c.traced_by_workers.new.errors in
    heard_beside outside law c.args.is_asked c.asked_of-asked.result.is_asked (IsRunLine c.args.order.now c.args.network.now) c.args.path.now c.args.host.now c.make_file.new.host
    c.errors-errors.result.now said c.asked_of-asked.ensures c.in_ok-file.ensures.host c.errors-errors.ensures.value c.traced_by_workers.ensures.heard
    (outside.with_errors c.make_file.new.host said) (law.errors_stay c.make_file.new.host said)

pub returns-in-Ok-clause-trace : goal.returns-in-Ok-clause-trace
returns-in-Ok-clause-trace g c =
    let plan = c.args.network.now in
    let outside = g.H.Host.outside in
    let law = g.met.H.Host.lawful in
    let path = c.args.path.now in
    let found = c.in_ok-outcome.field-0 in
    let rows = c.in_ok-outcome.ensures.text in
    let begun = c.make_file.new.host in
    let said = c.traced_by_workers.new.errors in
    let new = c.close.new.self in
    let written-out = c.in_ok-outcome.written-is in
    let went = c.in-Ok.is in
    let is : found.written ≡ Ok c.in-Ok.field-0 = cc in
    let all = at_ok ((rows : List Row) → AreRowsOf plan rows → Took g.H.File.Sink.taken c.in_ok-file.file found.sink (trace_text plan rows)) found.written c.in-Ok.field-0 is
    c.in_ok-outcome.ensures.trace in
    written outside law path (IsTraceText plan) (heard_host outside c.args.host.now c.args.is_asked (outside.errors new)) (outside.with_errors begun said) new
    c.in_ok-file.file found.sink (trace_text plan rows.0)
    (begins_given outside law c.args.is_asked c.asked_of-asked.result.is_asked (IsRunLine c.args.order.now plan) path c.args.host.now begun c.errors-errors.result.now said
    c.asked_of-asked.ensures c.in_ok-file.ensures.host c.errors-errors.ensures.value c.traced_by_workers.ensures.heard found.sink new c.close.ensures)
    c.in_ok-file.ensures.empty (all rows.0 rows.1) (rows.0, rows.1, refl) c.close.ensures

pub returns-in-Ok-clause-heard : goal.returns-in-Ok-clause-heard
returns-in-Ok-clause-heard g c =
    heard_given g.H.Host.outside g.met.H.Host.lawful c.args.is_asked c.asked_of-asked.result.is_asked (IsRunLine c.args.order.now c.args.network.now) c.args.path.now c.args.host.now
    c.make_file.new.host c.errors-errors.result.now c.traced_by_workers.new.errors c.asked_of-asked.ensures c.in_ok-file.ensures.host c.errors-errors.ensures.value
    c.traced_by_workers.ensures.heard c.in_ok-outcome.field-0.sink c.close.new.self c.close.ensures

pub returns-in-Err-clause-heard : goal.returns-in-Err-clause-heard
returns-in-Err-clause-heard g c =
    heard_given g.H.Host.outside g.met.H.Host.lawful c.args.is_asked c.asked_of-asked.result.is_asked (IsRunLine c.args.order.now c.args.network.now) c.args.path.now c.args.host.now
    c.make_file.new.host c.errors-errors.result.now c.traced_by_workers.new.errors c.asked_of-asked.ensures c.in_ok-file.ensures.host c.errors-errors.ensures.value
    c.traced_by_workers.ensures.heard c.in_ok-outcome.field-0.sink c.close.new.self c.close.ensures

pub returns-in-Err-clause-output : goal.returns-in-Err-clause-output
returns-in-Err-clause-output g c =
    let outside = g.H.Host.outside in
    let law = g.met.H.Host.lawful in
    let begun = c.make_file.new.host in
    let said = c.traced_by_workers.new.errors in
    ap outside.output c.close.ensures
    ∙ (law.output_at_closed (outside.with_errors begun said) c.args.path.now c.in_ok-outcome.field-0.sink ∙ (law.output_beside begun said ∙ c.make_file.ensures.output))

pub returns-in-Err-clause-fault : goal.returns-in-Err-clause-fault
returns-in-Err-clause-fault g c =
    let plan = c.args.network.now in
    let outside = g.H.Host.outside in
    let law = g.met.H.Host.lawful in
    let found = c.in_ok-outcome.field-0 in
    let rows = c.in_ok-outcome.ensures.text in
    let begun = c.make_file.new.host in
    let said = c.traced_by_workers.new.errors in
    let new = c.close.new.self in
    let heard = heard_host outside c.args.host.now c.args.is_asked (outside.errors new) in
    let written-out = c.in_ok-outcome.written-is in
    let refused = c.in-Err.is in
    let is : found.written ≡ Err c.in-Err.why = cc in
    inr (subst (λ fault. LacksTrace outside c.args.path.now plan heard new fault) (sym c.fault_of_trace.ensures)
    (lacks_trace outside law c.args.path (IsTraceText plan) heard (outside.with_errors begun said) new c.in_ok-file.file found.sink (trace_text plan rows.0)
    (begins_given outside law c.args.is_asked c.asked_of-asked.result.is_asked (IsRunLine c.args.order.now plan) c.args.path.now c.args.host.now begun c.errors-errors.result.now said
    c.asked_of-asked.ensures c.in_ok-file.ensures.host c.errors-errors.ensures.value c.traced_by_workers.ensures.heard found.sink new c.close.ensures)
    c.in_ok-file.ensures.empty c.in_ok-file.ensures.fresh (rows.0, rows.1, refl) c.close.ensures
    (makes_there outside law c.args.is_asked c.args.host.now c.args.path.now (outside.errors new) true c.in_ok-file.ensures.made)
    (c.in_ok-outcome.ensures.beginning rows.0 rows.1) c.in-Err.why
    (at_err _ found.written c.in-Err.why is c.in_ok-outcome.ensures.device)
    (at_err _ found.written c.in-Err.why is c.in_ok-outcome.ensures.kept)))

pub returns-in_err-file-clause-text : goal.returns-in_err-file-clause-text
returns-in_err-file-clause-text g c = no_value _ _ c.from_residual.result c.from_residual.ensures.1

pub returns-in_err-file-clause-journal : goal.returns-in_err-file-clause-journal
returns-in_err-file-clause-journal g c = no_value _ _ c.from_residual.result c.from_residual.ensures.1

pub returns-in_err-file-clause-trace : goal.returns-in_err-file-clause-trace
returns-in_err-file-clause-trace g c = no_value _ _ c.from_residual.result c.from_residual.ensures.1

pub returns-in_err-outcome-clause-text : goal.returns-in_err-outcome-clause-text
returns-in_err-outcome-clause-text g c = no_value _ _ c.from_residual-in_err-outcome.result c.from_residual-in_err-outcome.ensures.1

pub returns-in_err-outcome-clause-journal : goal.returns-in_err-outcome-clause-journal
returns-in_err-outcome-clause-journal g c = no_value _ _ c.from_residual-in_err-outcome.result c.from_residual-in_err-outcome.ensures.1

pub returns-in_err-outcome-clause-trace : goal.returns-in_err-outcome-clause-trace
returns-in_err-outcome-clause-trace g c = no_value _ _ c.from_residual-in_err-outcome.result c.from_residual-in_err-outcome.ensures.1

pub returns-in_err-file-clause-output : goal.returns-in_err-file-clause-output
returns-in_err-file-clause-output g c = c.make_file.ensures.output

pub returns-in_err-outcome-clause-output : goal.returns-in_err-outcome-clause-output
returns-in_err-outcome-clause-output g c =
    g.met.H.Host.lawful.output_beside c.make_file.new.host c.traced_by_workers.new.errors ∙ c.make_file.ensures.output
