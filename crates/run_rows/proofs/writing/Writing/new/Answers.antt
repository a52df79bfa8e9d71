use Rattle.std.proofs.Common.{subst}
use Rattle.run_rows.specs.Traces.{HasLawfulRows}
use Rattle.run_rows.proofs.WrittenRun.{none-written}
use Rattle.run_rows.proofs.writing.Writing.new.Goals as goal

pub invariant_of-result-clause-of_run : goal.invariant_of-result-clause-of_run
invariant_of-result-clause-of_run g c =
    ∣ none-written g.J.NetworkRun.plan g.K.TraceRun.taken g.K.TraceRun.failures _ _ _ c.requires.network c.requires.taken c.requires.failures
    c.new.result c.new.ensures ∣₁

pub invariant_of-result-clause-lawful : goal.invariant_of-result-clause-lawful
invariant_of-result-clause-lawful g c = ∣ subst HasLawfulRows c.requires.network c.rows_law.ensures ∣₁

pub invariant_of-result-clause-known : goal.invariant_of-result-clause-known
invariant_of-result-clause-known g c = tt
