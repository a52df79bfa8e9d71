use Rattle.std.proofs.Common.{inl, refl, ap, arith, rules}
use Rattle.virtual_time.specs.Law.{one_if}
use Rattle.journal.proofs.Refused.{err-if-ok, err-on-ok, not-ok, passed-short}
use Rattle.group_exchange.proofs.Going.{goes-both}
use Rattle.group_exchange.proofs.group.Group.run_turn.Goals as goal

pub loop-run-init : goal.loop-run-init
loop-run-init g c = (c.empty_tray.ensures.goes c.args.limit, c.in_ok-empty_tray.ensures.arrived, let a = c.empty_tray.ensures.counted in omega arith)

pub loop-run-preserved : goal.loop-run-preserved
loop-run-preserved g c = (
  goes-both _ _ _ _ _ _ (goes-both _ _ _ _ _ _ c.loop-run.invariant.0 c.run_one.ensures.goes) (c.empty_tray-in-loop-run.ensures.goes c.args.limit),
  c.in_ok-empty_tray-2.ensures.arrived,
  omega (arith, c.empty_tray-in-loop-run.ensures.counted, c.in_ok-run_one.ensures.counted, ap one_if c.if-not-branch.false, c.loop-run.invariant.2),
)

pub returns-in_err-run_one-clause-goes : goal.returns-in_err-run_one-clause-goes
returns-in_err-run_one-clause-goes g c = goes-both _ _ _ _ _ _ c.loop-run.invariant.0 c.run_one.ensures.goes

pub returns-then-not-branch-clause-goes : goal.returns-then-not-branch-clause-goes
returns-then-not-branch-clause-goes g c = goes-both _ _ _ _ _ _ c.loop-run.invariant.0 c.run_one.ensures.goes

pub returns-in_err-empty_tray-2-clause-goes : goal.returns-in_err-empty_tray-2-clause-goes
returns-in_err-empty_tray-2-clause-goes g c = goes-both _ _ _ _ _ _ (goes-both _ _ _ _ _ _ c.loop-run.invariant.0 c.run_one.ensures.goes) (c.empty_tray-in-loop-run.ensures.goes c.args.limit)

pub returns-in_err-empty_tray-clause-goes : goal.returns-in_err-empty_tray-clause-goes
returns-in_err-empty_tray-clause-goes g c = (c.empty_tray.ensures.goes c.args.limit)

pub returns-in_err-empty_tray-clause-short : goal.returns-in_err-empty_tray-clause-short
returns-in_err-empty_tray-clause-short g c = passed-short c.from_residual.result c.from_residual.ensures.1 c.in_err-empty_tray.ensures.memory

pub returns-clause-goes : goal.returns-clause-goes
returns-clause-goes g c = c.loop-run.invariant.0

pub returns-clause-arrived : goal.returns-clause-arrived
returns-clause-arrived g c = c.loop-run.invariant.1

pub returns-clause-faults : goal.returns-clause-faults
returns-clause-faults g c = tt

pub returns-then-not-branch-clause-faults : goal.returns-then-not-branch-clause-faults
returns-then-not-branch-clause-faults g c = tt

pub returns-in_err-empty_tray-clause-within : goal.returns-in_err-empty_tray-clause-within
returns-in_err-empty_tray-clause-within g c = err-if-ok _ _ c.from_residual.result c.from_residual.ensures.1

pub returns-in_err-empty_tray-clause-idle : goal.returns-in_err-empty_tray-clause-idle
returns-in_err-empty_tray-clause-idle g c = err-if-ok _ _ c.from_residual.result c.from_residual.ensures.1

pub returns-in_err-empty_tray-clause-arrived : goal.returns-in_err-empty_tray-clause-arrived
returns-in_err-empty_tray-clause-arrived g c = err-on-ok _ _ c.from_residual.result c.from_residual.ensures.1

pub returns-in_err-run_one-clause-within : goal.returns-in_err-run_one-clause-within
returns-in_err-run_one-clause-within g c = err-if-ok _ _ c.from_residual-in_err-run_one.result c.from_residual-in_err-run_one.ensures.1

pub returns-in_err-run_one-clause-idle : goal.returns-in_err-run_one-clause-idle
returns-in_err-run_one-clause-idle g c = err-if-ok _ _ c.from_residual-in_err-run_one.result c.from_residual-in_err-run_one.ensures.1

pub returns-in_err-run_one-clause-arrived : goal.returns-in_err-run_one-clause-arrived
returns-in_err-run_one-clause-arrived g c = err-on-ok _ _ c.from_residual-in_err-run_one.result c.from_residual-in_err-run_one.ensures.1

pub returns-in_err-empty_tray-2-clause-within : goal.returns-in_err-empty_tray-2-clause-within
returns-in_err-empty_tray-2-clause-within g c = err-if-ok _ _ c.from_residual-in_err-empty_tray-2.result c.from_residual-in_err-empty_tray-2.ensures.1

pub returns-in_err-empty_tray-2-clause-idle : goal.returns-in_err-empty_tray-2-clause-idle
returns-in_err-empty_tray-2-clause-idle g c = err-if-ok _ _ c.from_residual-in_err-empty_tray-2.result c.from_residual-in_err-empty_tray-2.ensures.1

pub returns-in_err-empty_tray-2-clause-arrived : goal.returns-in_err-empty_tray-2-clause-arrived
returns-in_err-empty_tray-2-clause-arrived g c = err-on-ok _ _ c.from_residual-in_err-empty_tray-2.result c.from_residual-in_err-empty_tray-2.ensures.1

pub returns-in_err-empty_tray-2-clause-short : goal.returns-in_err-empty_tray-2-clause-short
returns-in_err-empty_tray-2-clause-short g c = passed-short c.from_residual-in_err-empty_tray-2.result c.from_residual-in_err-empty_tray-2.ensures.1 c.in_err-empty_tray-2.ensures.memory

pub returns-then-not-branch-clause-short : goal.returns-then-not-branch-clause-short
returns-then-not-branch-clause-short g c = λ e. not-ok _ _ _ refl e

pub returns-clause-short : goal.returns-clause-short
returns-clause-short g c = λ e. not-ok _ _ _ refl e

pub returns-clause-idle : goal.returns-clause-idle
returns-clause-idle g c = inl (search rules)

pub run_one-requires : goal.run_one-requires
run_one-requires g c = record { arrived = c.loop-run.invariant.1 }

pub returns-clause-counted : goal.returns-clause-counted
returns-clause-counted g c = omega (arith, c.loop-run.invariant.2, c.from-2.ensures, c.loop-run-test.false, c.loop-run.auto.run-end)

pub returns-then-not-branch-clause-counted : goal.returns-then-not-branch-clause-counted
returns-then-not-branch-clause-counted g c =
    omega (arith, c.loop-run.invariant.2, c.in_ok-run_one.ensures.counted, ap one_if c.if-not-branch.true, c.from.ensures)

pub returns-in_err-empty_tray-clause-counted : goal.returns-in_err-empty_tray-clause-counted
returns-in_err-empty_tray-clause-counted g c = err-if-ok _ _ c.from_residual.result c.from_residual.ensures.1

pub returns-in_err-run_one-clause-counted : goal.returns-in_err-run_one-clause-counted
returns-in_err-run_one-clause-counted g c = err-if-ok _ _ c.from_residual-in_err-run_one.result c.from_residual-in_err-run_one.ensures.1

pub returns-in_err-empty_tray-2-clause-counted : goal.returns-in_err-empty_tray-2-clause-counted
returns-in_err-empty_tray-2-clause-counted g c = err-if-ok _ _ c.from_residual-in_err-empty_tray-2.result c.from_residual-in_err-empty_tray-2.ensures.1
