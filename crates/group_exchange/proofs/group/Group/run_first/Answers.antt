use Rattle.std.proofs.Common.{true, inl, inr, Ok, refl, ap, ◌∙◌, arith}
use Rattle.group_queues.specs.Block.{runs_in}
use Rattle.journal.proofs.Refused.{not-ok}
use Rattle.group_hand.proofs.Answering.{not-both}
use Rattle.group_exchange.proofs.Going.{goes-both}
use Rattle.group_exchange.proofs.group.Group.run_first.Goals as goal

pub returns-in-Late-clause-goes : goal.returns-in-Late-clause-goes
returns-in-Late-clause-goes g c = goes-both _ _ _ _ _ _ c.run_in_order.ensures.goes c.run_next.ensures.goes

pub returns-in-Ran-clause-goes : goal.returns-in-Ran-clause-goes
returns-in-Ran-clause-goes g c = c.run_in_order.ensures.goes

pub returns-in-Ran-clause-faults : goal.returns-in-Ran-clause-faults
returns-in-Ran-clause-faults g c = tt

pub returns-in-Idle-clause-goes : goal.returns-in-Idle-clause-goes
returns-in-Idle-clause-goes g c = c.run_in_order.ensures.goes

pub returns-in-Idle-clause-faults : goal.returns-in-Idle-clause-faults
returns-in-Idle-clause-faults g c = tt

pub returns-in-Late-clause-idle : goal.returns-in-Late-clause-idle
returns-in-Late-clause-idle g c = c.run_next.ensures.idle

pub returns-in-Late-clause-short : goal.returns-in-Late-clause-short
returns-in-Late-clause-short g c = c.run_next.ensures.short

pub returns-in-Late-clause-faults : goal.returns-in-Late-clause-faults
returns-in-Late-clause-faults g c = c.run_next.ensures.faults

pub returns-in-Late-clause-tray : goal.returns-in-Late-clause-tray
returns-in-Late-clause-tray g c = λ e. c.run_next.ensures.tray e ∙ c.in_ok-run_in_order.ensures.tray (inr (λ j. Ok (c.in-Late.is j)))

pub returns-in-Idle-clause-idle : goal.returns-in-Idle-clause-idle
returns-in-Idle-clause-idle g c = λ _. c.in_ok-run_in_order.ensures.idle (λ j. Ok (c.in-Idle.is j))

pub returns-in-Idle-clause-tray : goal.returns-in-Idle-clause-tray
returns-in-Idle-clause-tray g c = λ _. c.in_ok-run_in_order.ensures.tray (inl (λ j. Ok (c.in-Idle.is j)))

pub returns-in-Idle-clause-short : goal.returns-in-Idle-clause-short
returns-in-Idle-clause-short g c = λ e. not-ok _ _ _ refl e

pub returns-in-Ran-clause-idle : goal.returns-in-Ran-clause-idle
returns-in-Ran-clause-idle g c = λ e. not-both _ refl e

pub returns-in-Ran-clause-tray : goal.returns-in-Ran-clause-tray
returns-in-Ran-clause-tray g c = λ e. not-both _ refl e

pub returns-in-Ran-clause-short : goal.returns-in-Ran-clause-short
returns-in-Ran-clause-short g c = λ e. not-ok true _ _ refl e

pub returns-in_err-run_in_order-clause-goes : goal.returns-in_err-run_in_order-clause-goes
returns-in_err-run_in_order-clause-goes g c = c.run_in_order.ensures.goes

pub run_next-requires : goal.run_next-requires
run_next-requires g c = record { arrived = c.in_ok-run_in_order.ensures.tray (inr (λ j. Ok (c.in-Late.is j))) ∙ c.requires.arrived }

pub returns-in-Ran-clause-counted : goal.returns-in-Ran-clause-counted
returns-in-Ran-clause-counted g c = c.in_ok-run_in_order.ensures.counted (λ j. Ok (c.in-Ran.is j))

pub returns-in-Idle-clause-counted : goal.returns-in-Idle-clause-counted
returns-in-Idle-clause-counted g c = let a = ap runs_in (c.in_ok-run_in_order.ensures.words (inl (λ j. Ok (c.in-Idle.is j)))) in omega arith

pub returns-in-Late-clause-counted : goal.returns-in-Late-clause-counted
returns-in-Late-clause-counted g c = rw (ap runs_in (c.in_ok-run_in_order.ensures.words (inr (λ j. Ok (c.in-Late.is j))))) at c.run_next.ensures.counted
