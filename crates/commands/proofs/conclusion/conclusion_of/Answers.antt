use Rattle.std.proofs.Common.{subst, sym}
use Rattle.commands.specs.Replaying.{IsJournal}
use Rattle.commands.proofs.Conclusions.{steps_fault}
use Rattle.commands.proofs.Outcomes.{err_then, ok_if}
use Rattle.commands.proofs.conclusion.conclusion_of.Goals as goal

pub returns-in-Ok-clause-told : goal.returns-in-Ok-clause-told
returns-in-Ok-clause-told c =
    ok_if c.conclusion_by.result c.conclusion_by.ensures.told (λ conclusion tells. (
      c.deref.result.now,
      subst (IsJournal c.args.text.now) (sym c.deref.ensures.value) c.in-Ok.ensures.steps,
      tells,
    ))

pub returns-in-Ok-clause-fault : goal.returns-in-Ok-clause-fault
returns-in-Ok-clause-fault c =
    err_then c.conclusion_by.result c.conclusion_by.ensures.fault (λ fault is.
    steps_fault c.args.network c.args.text.now c.deref.result.now fault (subst (IsJournal c.args.text.now) (sym c.deref.ensures.value) c.in-Ok.ensures.steps) is)

pub returns-in-Err-clause-fault : goal.returns-in-Err-clause-fault
returns-in-Err-clause-fault c = c.in-Err.ensures.fault c.args.network
