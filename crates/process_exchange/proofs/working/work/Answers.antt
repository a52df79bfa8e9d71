use Rattle.std.proofs.Common.{inr}
use Rattle.reverse.specs.Rules.{rules_of}
use Rattle.reverse.specs.Setting.{simulation_of}
use Rattle.process_exchange.specs.Effects.{WorksSome}
use Rattle.process_exchange.proofs.Outcomes.{if-err}
use Rattle.journal.proofs.Refused.{err-if-ok}
use Rattle.process_exchange.proofs.Worked.{ran-after, works}
use Rattle.process_exchange.proofs.working.work.Goals as goal

pub returns-in_err-arrive_all-clause-ok : goal.returns-in_err-arrive_all-clause-ok
returns-in_err-arrive_all-clause-ok g c = err-if-ok _ _ c.from_residual.result c.from_residual.ensures.1

pub returns-in_err-run_early-clause-ok : goal.returns-in_err-run_early-clause-ok
returns-in_err-run_early-clause-ok g c = err-if-ok _ _ c.from_residual-in_err-run_early.result c.from_residual-in_err-run_early.ensures.1

pub returns-in_err-commit_all-clause-ok : goal.returns-in_err-commit_all-clause-ok
returns-in_err-commit_all-clause-ok g c = err-if-ok _ _ c.from_residual-in_err-commit_all.result c.from_residual-in_err-commit_all.ensures.1

pub returns-in_err-commit_all-clause-some : goal.returns-in_err-commit_all-clause-some
returns-in_err-commit_all-clause-some g c =
    let f = simulation_of (rules_of g.R.Reversible.plain) g.J.ActorRun.setting in
    if-err (WorksSome f c.args.turn c.args.window c.args.held.now c.commit_all.new.self) c.in_err-commit_all.field-0.0 c.from_residual-in_err-commit_all.result c.from_residual-in_err-commit_all.ensures.1
    (inr (inr (
      c.run_early.new.self,
      ran-after f c.args.turn c.args.window c.args.held.now c.arrive_all.new.self c.run_early.new.self c.in_ok-arrive_all.ensures.arrived c.in_ok-run_early.ensures.ran,
      c.in_err-commit_all.ensures.some,
    )))

pub returns-clause-ok : goal.returns-clause-ok
returns-clause-ok g c =
    let f = simulation_of (rules_of g.R.Reversible.plain) g.J.ActorRun.setting in
    let ran = c.in_ok-run_early.ensures.ran in
    let committed = c.in_ok-commit_all.ensures.committed in
    works f c.args.turn c.args.window c.args.held.now c.arrive_all.new.self c.run_early.new.self c.commit_all.new.self ran.runs committed.0 c.in_ok-arrive_all.ensures.arrived ran.did committed.1
    ran.within ran.early ran.idle committed.2 c.pending-before.result c.pending.result c.pending-before.ensures c.pending.ensures

pub returns-clause-some : goal.returns-clause-some
returns-clause-some g c = tt

pub returns-clause-faults : goal.returns-clause-faults
returns-clause-faults g c = tt
