use Rattle.commands.proofs.conclusion.conclusion_after.Goals as goal

pub returns-in-Ok-clause-told : goal.returns-in-Ok-clause-told
returns-in-Ok-clause-told c steps is =
    record {
      tables = c.in-Ok.ensures.committed steps is.after;
      whole = c.in-Ok.ensures.whole steps is.after;
      line = c.in-Ok.ensures.line steps is;
    }
