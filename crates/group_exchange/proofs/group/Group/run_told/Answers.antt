use Rattle.std.proofs.Common.{false, refl, ap, ◌∙◌, arith}
use Rattle.group_queues.specs.Block.{runs_in}
use Rattle.journal.proofs.Refused.{not-ok, passed-short}
use Rattle.group_exchange.proofs.Again.{counts-none}
use Rattle.group_exchange.proofs.Going.{goes-both, goes-same}
use Rattle.group_exchange.proofs.group.Group.run_told.Goals as goal

pub returns-in_err-count_done-clause-goes : goal.returns-in_err-count_done-clause-goes
returns-in_err-count_done-clause-goes g c = goes-same _ _ _ _ _ c.count_done.ensures.stood

pub returns-in_default-clause-goes : goal.returns-in_default-clause-goes
returns-in_default-clause-goes g c = goes-both _ _ _ _ _ _ (goes-same _ _ _ _ _ c.count_done.ensures.stood) (goes-same _ _ _ _ _ (counts-none c.count_done.new.self c.next_before.new.self c.next_before.ensures.stood))

pub returns-in_default-clause-faults : goal.returns-in_default-clause-faults
returns-in_default-clause-faults g c = tt

pub returns-clause-faults : goal.returns-clause-faults
returns-clause-faults g c = tt

pub returns-in_err-count_done-clause-short : goal.returns-in_err-count_done-clause-short
returns-in_err-count_done-clause-short g c = passed-short c.from_residual.result c.from_residual.ensures.1 c.in_err-count_done.ensures.memory

pub returns-in_default-clause-idle : goal.returns-in_default-clause-idle
returns-in_default-clause-idle g c = λ _. c.in_default.ensures.idle

pub returns-in_default-clause-tray : goal.returns-in_default-clause-tray
returns-in_default-clause-tray g c = λ _. ap (λ z. z.held.flow.tray) c.next_before.ensures.stood ∙ ap (λ z. z.held.flow.tray) c.count_done.ensures.stood

pub returns-in_default-clause-short : goal.returns-in_default-clause-short
returns-in_default-clause-short g c = λ e. not-ok false _ _ refl e

pub returns-in_err-has_run-clause-goes : goal.returns-in_err-has_run-clause-goes
returns-in_err-has_run-clause-goes g c =
    goes-both _ _ _ _ _ _ (goes-both _ _ _ _ _ _ (goes-same _ _ _ _ _ c.count_done.ensures.stood) (goes-same _ _ _ _ _ (counts-none c.count_done.new.self c.next_before.new.self c.next_before.ensures.stood))) c.run_first.ensures.goes

pub returns-in_default-clause-counted : goal.returns-in_default-clause-counted
returns-in_default-clause-counted g c =
    let a = ap (λ z. runs_in z.held.flow.words) c.next_before.ensures.stood in
    let b = ap (λ z. runs_in z.held.flow.words) c.count_done.ensures.stood in
    omega arith

pub run_first-requires : goal.run_first-requires
run_first-requires g c = record { arrived = ap (λ z. z.held.flow.tray) c.next_before.ensures.stood ∙ (ap (λ z. z.held.flow.tray) c.count_done.ensures.stood ∙ c.requires.arrived) }
