use Rattle.std.proofs.Common.{◌∙◌, inl, inr, refl, sym, subst, true, option_map, string_bytes, is_some}
use Rattle.worker_pool.specs.Runs.{IsJournalAsked}
use Rattle.afdxsim.specs.Files.{LacksRun, LeavesRun}
use Rattle.afdxsim.specs.Workers.{IsRunLine}
use Rattle.commands.specs.Streams.{IsHeard, heard_host}
use Rattle.commands.proofs.Lacking.{no_output}
use Rattle.commands.proofs.Outcomes.{err_then, no_value, ok_then, same_err}
use Rattle.afdxsim.proofs.Journals.{journal_written, lacks_steps}
use Rattle.afdxsim.proofs.run.run.Goals as goal

pub returns-in_err-found-clause-fault : goal.returns-in_err-found-clause-fault
returns-in_err-found-clause-fault g c =
    same_err _ c.from_residual.result c.in_err-found.field-0.0 c.from_residual.ensures.1
    (elim c.in_err-found.ensures.fault [ inl given_up ↦ inl given_up | inr lacks ↦ inr (inl lacks) ])

pub returns-in_err-keep_journal-clause-fault : goal.returns-in_err-keep_journal-clause-fault
returns-in_err-keep_journal-clause-fault g c =
    let outside = g.H.Host.outside in
    let order = c.args.order.now in
    let plan = c.args.network.now in
    let fault = c.in_err-keep_journal.field-0.0 in
    let traced = c.simulate.new.host in
    let new = c.keep_journal.new.host in
    let steps = c.as_slice.result.now in
    let lacks = c.in_err-keep_journal.ensures.fault in
    same_err _ c.from_residual-in_err-keep_journal.result fault c.from_residual-in_err-keep_journal.ensures.1
    (subst (λ heard. LacksRun outside (option_map string_bytes order.journal) (option_map string_bytes order.trace) order.workers
    (heard_host outside c.args.host.now order.progress heard) new plan fault) (sym c.keep_journal.ensures.quiet)
    (inr (inr (inl (
      lacks.0,
      lacks.1,
      (
        traced,
        c.in_ok-found.ensures.trace,
        lacks_steps outside string_bytes order.journal plan steps lacks.0 traced new fault
            (subst (IsJournalAsked plan (is_some order.journal)) (sym c.as_slice.ensures.value) c.in_ok-found.ensures.journal) lacks.1 lacks.2,
      ),
    )))))

pub returns-clause-fault : goal.returns-clause-fault
returns-clause-fault g c =
    let outside = g.H.Host.outside in
    let law = g.met.H.Host.lawful in
    let order = c.args.order.now in
    let plan = c.args.network.now in
    let kept = c.keep_journal.new.host in
    let out = c.show_tables.new.output in
    let new = outside.with_output kept out in
    let same = law.errors_beside kept out ∙ c.keep_journal.ensures.quiet in
    err_then c.show_tables.result c.show_tables.ensures.fault (λ fault met.
    subst (λ heard. LacksRun outside (option_map string_bytes order.journal) (option_map string_bytes order.trace) order.workers
    (heard_host outside c.args.host.now order.progress heard) new plan fault) (sym same)
    (inr (inr (inr (
      kept,
      (
        c.simulate.new.host,
        c.in_ok-found.ensures.trace,
        journal_written outside string_bytes plan order.journal c.as_slice.result.now c.simulate.new.host kept
            (subst (IsJournalAsked plan (is_some order.journal)) (sym c.as_slice.ensures.value) c.in_ok-found.ensures.journal)
            c.in_ok-keep_journal.ensures.file,
      ),
      no_output outside law true kept c.output.result.now out fault c.output.ensures.value met,
    )))))

pub returns-clause-left : goal.returns-clause-left
returns-clause-left g c =
    let outside = g.H.Host.outside in
    let order = c.args.order.now in
    let kept = c.keep_journal.new.host in
    let out = c.show_tables.new.output in
    let new = outside.with_output kept out in
    let same = g.met.H.Host.lawful.errors_beside kept out ∙ c.keep_journal.ensures.quiet in
    ok_then c.show_tables.result c.show_tables.ensures.text (λ took.
    subst (λ heard. LeavesRun outside (option_map string_bytes order.journal) (option_map string_bytes order.trace) (heard_host outside c.args.host.now order.progress heard) new c.args.network.now)
    (sym same) (
      kept,
      (
        c.simulate.new.host,
        c.in_ok-found.ensures.trace,
        journal_written outside string_bytes c.args.network.now order.journal c.as_slice.result.now c.simulate.new.host kept
            (subst (IsJournalAsked c.args.network.now (is_some order.journal)) (sym c.as_slice.ensures.value) c.in_ok-found.ensures.journal)
            c.in_ok-keep_journal.ensures.file,
      ),
      (out, refl),
    ))

pub returns-in_err-found-clause-tables : goal.returns-in_err-found-clause-tables
returns-in_err-found-clause-tables g c = no_value _ _ c.from_residual.result c.from_residual.ensures.1

pub returns-in_err-found-clause-left : goal.returns-in_err-found-clause-left
returns-in_err-found-clause-left g c = no_value _ _ c.from_residual.result c.from_residual.ensures.1

pub returns-in_err-found-clause-kept : goal.returns-in_err-found-clause-kept
returns-in_err-found-clause-kept g c =
    same_err _ c.from_residual.result c.in_err-found.field-0.0 c.from_residual.ensures.1 (λ other. c.simulate.ensures.output)

pub returns-in_err-found-clause-heard : goal.returns-in_err-found-clause-heard
returns-in_err-found-clause-heard g c = c.simulate.ensures.heard

pub returns-in_err-keep_journal-clause-tables : goal.returns-in_err-keep_journal-clause-tables
returns-in_err-keep_journal-clause-tables g c = no_value _ _ c.from_residual-in_err-keep_journal.result c.from_residual-in_err-keep_journal.ensures.1

pub returns-in_err-keep_journal-clause-left : goal.returns-in_err-keep_journal-clause-left
returns-in_err-keep_journal-clause-left g c = no_value _ _ c.from_residual-in_err-keep_journal.result c.from_residual-in_err-keep_journal.ensures.1

pub returns-in_err-keep_journal-clause-kept : goal.returns-in_err-keep_journal-clause-kept
returns-in_err-keep_journal-clause-kept g c =
    same_err _ c.from_residual-in_err-keep_journal.result c.in_err-keep_journal.field-0.0 c.from_residual-in_err-keep_journal.ensures.1
    (λ other. c.keep_journal.ensures.output ∙ c.simulate.ensures.output)

pub returns-in_err-keep_journal-clause-heard : goal.returns-in_err-keep_journal-clause-heard
returns-in_err-keep_journal-clause-heard g c = subst (IsHeard g.H.Host.outside c.args.host.now c.args.order.now.progress (IsRunLine c.args.order.now c.args.network.now)) (sym c.keep_journal.ensures.quiet) c.simulate.ensures.heard

pub returns-clause-kept : goal.returns-clause-kept
returns-clause-kept g c =
    err_then c.show_tables.result c.show_tables.ensures.kept (λ fault same other.
    g.met.H.Host.lawful.output_stays c.keep_journal.new.host c.show_tables.new.output
    ∙ (same other ∙ (c.output.ensures.value ∙ (c.keep_journal.ensures.output ∙ c.simulate.ensures.output))))

pub returns-clause-heard : goal.returns-clause-heard
returns-clause-heard g c =
    subst (IsHeard g.H.Host.outside c.args.host.now c.args.order.now.progress (IsRunLine c.args.order.now c.args.network.now))
    (sym (g.met.H.Host.lawful.errors_beside c.keep_journal.new.host c.show_tables.new.output ∙ c.keep_journal.ensures.quiet)) c.simulate.ensures.heard
