use Rattle.std.proofs.Common.{◌≡◌, ◌⊎◌, ◌+◌, ◌<◌, ap, is_some, subst}
use Rattle.virtual_time.specs.declared.moved.Move.TheVariants.{Ran}
use Rattle.reverse.specs.Rules.{rules_of}
use Rattle.reverse.specs.Setting.{simulation_of}
use Rattle.journal.specs.declared.fault.PoolFault.TheVariants.{OutOfMemory, Exhausted}
use Rattle.process_exchange.specs.Views.{HeldState}
use Rattle.process_exchange.specs.Effects.{StopsAtRun}
use Rattle.process_exchange.proofs.Moves.{moved-more, early-more}
use Rattle.process_exchange.proofs.Outcomes.{if-err}
use Rattle.journal.proofs.Refused.{err-on-ok}
use Rattle.process_exchange.proofs.Worked.{stops-run}
use Rattle.process_exchange.proofs.held.Held.run_early.Goals as goal

pub run_next-requires : goal.run_next-requires
run_next-requires g c = ap is_some (c.is_due.ensures.due c.if-not-is_due.false).1

pub loop-run-preserved : goal.loop-run-preserved
loop-run-preserved g c =
    let f = simulation_of (rules_of g.R.Reversible.plain) g.J.ActorRun.setting in
    let i = c.loop-run.invariant in
    let next = c.is_due.ensures.due c.if-not-is_due.false in
    let seen = ap (λ (z : HeldState g.row.R.Denot). z.mark.seen) i.did in
    record {
      did = moved-more f c.loop-run.run Ran c.args.self.now c.loop-run.self c.run_next.new.self i.did c.in_ok-run_next.ensures.ran;
      early = early-more f (c.args.self.now.mark.seen + c.args.window) c.loop-run.run c.args.self.now c.loop-run.self i.did i.early
          (next.0, next.1, subst (λ s. next.0.time < s + c.args.window) seen next.2);
    }

pub returns-in_err-run_next-clause-some : goal.returns-in_err-run_next-clause-some
returns-in_err-run_next-clause-some g c =
    let f = simulation_of (rules_of g.R.Reversible.plain) g.J.ActorRun.setting in
    let i = c.loop-run.invariant in
    let fault = c.in_err-run_next.field-0.0 in
    if-err (StopsAtRun f c.args.turn (c.args.self.now.mark.seen + c.args.window) c.args.self.now c.run_next.new.self) fault c.from_residual.result c.from_residual.ensures.1
    (stops-run f c.args.turn c.args.window c.loop-run.run c.args.self.now c.loop-run.self c.run_next.new.self fault i.did c.loop-run-test.true i.early
    (c.is_due.ensures.due c.if-not-is_due.false) c.in_err-run_next.ensures.unchanged c.in_err-run_next.ensures.numbers)

pub returns-in_err-run_next-clause-ran : goal.returns-in_err-run_next-clause-ran
returns-in_err-run_next-clause-ran g c = err-on-ok _ _ c.from_residual.result c.from_residual.ensures.1

pub returns-in_err-run_next-clause-faults : goal.returns-in_err-run_next-clause-faults
returns-in_err-run_next-clause-faults g c =
    if-err (λ fault. (fault ≡ OutOfMemory) ⊎ (fault ≡ Exhausted)) _ c.from_residual.result c.from_residual.ensures.1 c.in_err-run_next.ensures.faults
