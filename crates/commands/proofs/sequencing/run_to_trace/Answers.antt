use Rattle.std.proofs.Common.{◌≡◌, ◌∙◌, Some, List, ℕ, true, inl, inr, refl, sym, subst}
use Rattle.trace_segments.specs.Words.{trace_text}
use Rattle.seqsim.specs.Networks.{AreRowsOf}
use Rattle.commands.specs.Files.{LacksFile, LacksSeq, LeavesSeq}
use Rattle.commands.specs.Sequencing.{IsTraceText}
use Rattle.commands.specs.Progress.{IsProgressLine}
use Rattle.commands.specs.Streams.{IsHeard}
use Rattle.commands.proofs.Outcomes.{err_then, no_value, ok_then, same_err}
use Rattle.commands.proofs.Heard.{at_end}
use Rattle.commands.proofs.Lacking.{lacks_rows, no_output}
use Rattle.commands.proofs.Leaving.{of_text}
use Rattle.commands.proofs.sequencing.run_to_trace.Goals as goal

pub returns-in_err-finished-clause-fault : goal.returns-in_err-finished-clause-fault
returns-in_err-finished-clause-fault g c =
    same_err _ c.from_residual.result c.in_err-finished.field-0.0 c.from_residual.ensures.1 (inl (c.in_err-finished.ensures.fault, c.heard_run.ensures.host))

pub returns-in_err-keep-clause-fault : goal.returns-in_err-keep-clause-fault
returns-in_err-keep-clause-fault g c =
    let plan = c.args.network.now in
    let outside = g.H.Host.outside in
    let fault = c.in_err-keep.field-0.0 in
    let heard = c.heard_run.new.host in
    let new = c.keep.new.host in
    let rows = c.as_slice-rows.result.now in
    same_err _ c.from_residual-in_err-keep.result fault c.from_residual-in_err-keep.ensures.1
    (inr (inl (
      c.args.path.now,
      refl,
      at_end outside c.args.is_asked c.args.host.now heard new (λ host. LacksFile outside true c.args.path.now (IsTraceText plan) host new fault)
          c.heard_run.ensures.host c.keep.ensures.quiet
          (lacks_rows outside plan rows c.args.path.now heard new fault (subst (AreRowsOf plan) (sym c.as_slice-rows.ensures.value) c.in_ok-finished.ensures.rows)
          c.in_err-keep.ensures.fault),
    )))

pub returns-clause-fault : goal.returns-clause-fault
returns-clause-fault g c =
    let plan = c.args.network.now in
    let outside = g.H.Host.outside in
    let law = g.met.H.Host.lawful in
    let heard = c.heard_run.new.host in
    let traced = c.keep.new.host in
    let out = c.show_tables.new.output in
    let new = outside.with_output traced out in
    let rows = c.as_slice-rows.result.now in
    let are = subst (AreRowsOf plan) (sym c.as_slice-rows.ensures.value) c.in_ok-finished.ensures.rows in
    err_then c.show_tables.result c.show_tables.ensures.fault (λ fault met.
    at_end outside c.args.is_asked c.args.host.now heard new (λ host. LacksSeq outside (Some c.args.path.now) host new plan fault) c.heard_run.ensures.host
    (law.errors_beside traced out ∙ c.keep.ensures.quiet)
    (inr (inr (
      traced,
      of_text outside c.args.path.now (λ (text : List ℕ). text ≡ trace_text plan rows) (IsTraceText plan) heard traced c.in_ok-keep.ensures.file
          (λ text same. (rows, are, same)),
      no_output outside law true traced c.output.result.now out fault c.output.ensures.value met,
    ))))

pub returns-clause-left : goal.returns-clause-left
returns-clause-left g c =
    let plan = c.args.network.now in
    let outside = g.H.Host.outside in
    let heard = c.heard_run.new.host in
    let traced = c.keep.new.host in
    let out = c.show_tables.new.output in
    let new = outside.with_output traced out in
    let rows = c.as_slice-rows.result.now in
    let are = subst (AreRowsOf plan) (sym c.as_slice-rows.ensures.value) c.in_ok-finished.ensures.rows in
    ok_then c.show_tables.result c.show_tables.ensures.text (λ took.
    at_end outside c.args.is_asked c.args.host.now heard new (λ host. LeavesSeq outside (Some c.args.path.now) host new plan) c.heard_run.ensures.host
    (g.met.H.Host.lawful.errors_beside traced out ∙ c.keep.ensures.quiet) (
      traced,
      of_text outside c.args.path.now (λ (text : List ℕ). text ≡ trace_text plan rows) (IsTraceText plan) heard traced c.in_ok-keep.ensures.file
          (λ text same. (rows, are, same)),
      (out, refl),
    ))

pub returns-in_err-finished-clause-tables : goal.returns-in_err-finished-clause-tables
returns-in_err-finished-clause-tables g c = no_value _ _ c.from_residual.result c.from_residual.ensures.1

pub returns-in_err-finished-clause-left : goal.returns-in_err-finished-clause-left
returns-in_err-finished-clause-left g c = no_value _ _ c.from_residual.result c.from_residual.ensures.1

pub returns-in_err-finished-clause-kept : goal.returns-in_err-finished-clause-kept
returns-in_err-finished-clause-kept g c =
    same_err _ c.from_residual.result c.in_err-finished.field-0.0 c.from_residual.ensures.1 (λ other. c.heard_run.ensures.output)

pub returns-in_err-finished-clause-heard : goal.returns-in_err-finished-clause-heard
returns-in_err-finished-clause-heard g c = c.heard_run.ensures.heard

pub returns-in_err-keep-clause-tables : goal.returns-in_err-keep-clause-tables
returns-in_err-keep-clause-tables g c = no_value _ _ c.from_residual-in_err-keep.result c.from_residual-in_err-keep.ensures.1

pub returns-in_err-keep-clause-left : goal.returns-in_err-keep-clause-left
returns-in_err-keep-clause-left g c = no_value _ _ c.from_residual-in_err-keep.result c.from_residual-in_err-keep.ensures.1

pub returns-in_err-keep-clause-kept : goal.returns-in_err-keep-clause-kept
returns-in_err-keep-clause-kept g c =
    same_err _ c.from_residual-in_err-keep.result c.in_err-keep.field-0.0 c.from_residual-in_err-keep.ensures.1
    (λ other. c.keep.ensures.output ∙ c.heard_run.ensures.output)

pub returns-in_err-keep-clause-heard : goal.returns-in_err-keep-clause-heard
returns-in_err-keep-clause-heard g c = subst (IsHeard g.H.Host.outside c.args.host.now c.args.is_asked (IsProgressLine c.args.network.now.until)) (sym c.keep.ensures.quiet) c.heard_run.ensures.heard

pub returns-clause-kept : goal.returns-clause-kept
returns-clause-kept g c =
    err_then c.show_tables.result c.show_tables.ensures.kept (λ fault same other.
    g.met.H.Host.lawful.output_stays c.keep.new.host c.show_tables.new.output
    ∙ (same other ∙ (c.output.ensures.value ∙ (c.keep.ensures.output ∙ c.heard_run.ensures.output))))

pub returns-clause-heard : goal.returns-clause-heard
returns-clause-heard g c =
    subst (IsHeard g.H.Host.outside c.args.host.now c.args.is_asked (IsProgressLine c.args.network.now.until))
    (sym (g.met.H.Host.lawful.errors_beside c.keep.new.host c.show_tables.new.output ∙ c.keep.ensures.quiet)) c.heard_run.ensures.heard
