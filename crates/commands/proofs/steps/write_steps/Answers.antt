use Rattle.std.proofs.Common.{◌≡◌}
use Rattle.journal_text.specs.Text.{step_line}
use Rattle.trace_segments.specs.declared.fault.OutFault.TheVariants.{Device}
use Rattle.commands.proofs.Holding.{piece-out}
use Rattle.commands.proofs.Outcomes.{no_value}
use Rattle.commands.proofs.steps.write_steps.Goals as goal

pub returns-in_err-write_all-clause-device : goal.returns-in_err-write_all-clause-device
returns-in_err-write_all-clause-device g c =
    piece-out (λ fault. fault ≡ Device) c.from_residual-in_err-write_all.result step_line c.args.steps.now c.loop-step.step-index
    (g.S.Sink.taken c.args.sink.now) (g.S.Sink.taken c.loop-step.sink) (g.S.Sink.taken c.write_all.new.sink) c.loop-step.held.items c.as_slice.result.now
    c.loop-step.invariant.held c.as_slice.ensures.value c.in_err-write_all.ensures.beginning

pub returns-in_err-write_all-2-clause-device : goal.returns-in_err-write_all-2-clause-device
returns-in_err-write_all-2-clause-device g c =
    piece-out (λ fault. fault ≡ Device) c.from_residual-in_err-write_all-2.result step_line c.args.steps.now c.loop-step.step-index
    (g.S.Sink.taken c.args.sink.now) (g.S.Sink.taken c.loop-step.sink) (g.S.Sink.taken c.write_all-2.new.sink) c.loop-step.held.items c.as_slice-2.result.now
    c.loop-step.invariant.held c.as_slice-2.ensures.value c.in_err-write_all-2.ensures.beginning

pub returns-in_err-held-clause-text : goal.returns-in_err-held-clause-text
returns-in_err-held-clause-text g c = no_value _ _ c.from_residual.result c.from_residual.ensures.1

pub returns-in_err-held-clause-went_well : goal.returns-in_err-held-clause-went_well
returns-in_err-held-clause-went_well g c = no_value _ _ c.from_residual.result c.from_residual.ensures.1

pub returns-in_err-write_all-clause-text : goal.returns-in_err-write_all-clause-text
returns-in_err-write_all-clause-text g c = no_value _ _ c.from_residual-in_err-write_all.result c.from_residual-in_err-write_all.ensures.1

pub returns-in_err-write_all-clause-went_well : goal.returns-in_err-write_all-clause-went_well
returns-in_err-write_all-clause-went_well g c = no_value _ _ c.from_residual-in_err-write_all.result c.from_residual-in_err-write_all.ensures.1

pub returns-in_err-push_step-clause-text : goal.returns-in_err-push_step-clause-text
returns-in_err-push_step-clause-text g c = no_value _ _ c.from_residual-in_err-push_step.result c.from_residual-in_err-push_step.ensures.1

pub returns-in_err-push_step-clause-went_well : goal.returns-in_err-push_step-clause-went_well
returns-in_err-push_step-clause-went_well g c = no_value _ _ c.from_residual-in_err-push_step.result c.from_residual-in_err-push_step.ensures.1

pub returns-in_err-write_all-2-clause-text : goal.returns-in_err-write_all-2-clause-text
returns-in_err-write_all-2-clause-text g c = no_value _ _ c.from_residual-in_err-write_all-2.result c.from_residual-in_err-write_all-2.ensures.1

pub returns-in_err-write_all-2-clause-went_well : goal.returns-in_err-write_all-2-clause-went_well
returns-in_err-write_all-2-clause-went_well g c = no_value _ _ c.from_residual-in_err-write_all-2.result c.from_residual-in_err-write_all-2.ensures.1
