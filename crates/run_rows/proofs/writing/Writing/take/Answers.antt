use mathlib.Core.Logic.{∥∥₁_elim, ∥∥₁_map₂, ∥∥₁_prop}
use Rattle.run_rows.proofs.WrittenRun.{batch-taken}
use Rattle.run_rows.proofs.Written.{batch-told}
use Rattle.run_rows.proofs.writing.Writing.take.Goals as goal

pub invariant_of-self-clause-of_run : goal.invariant_of-self-clause-of_run
invariant_of-self-clause-of_run g c =
    let old = c.args.self.now in
    let said = c.take-self.ensures in
    ∥∥₁_elim old.lawful ∥∥₁_prop (λ lawful. ∥∥₁_map₂ old.of_run c.args.batch.of_run (λ T B.
    batch-taken g.J.NetworkRun.plan g.K.TraceRun.taken g.K.TraceRun.failures lawful c.batches_in_order_law.ensures.beginning old.writer T c.take-self.new.self c.args.batch.batch c.take-self.result B
    said.refused said.unchanged said.written said.out said.device said.broken said.kept))

pub invariant_of-self-clause-known : goal.invariant_of-self-clause-known
invariant_of-self-clause-known g c = batch-told c.args.self.now.writer c.args.batch.batch c.take-self.result c.take-self.ensures.refused c.take-self.ensures.out
