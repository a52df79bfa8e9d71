use Rattle.std.proofs.Common.{◌∷◌, subst, sym, IfNone}
use Rattle.journal_text.specs.Text.{Fits, step_line}
use Rattle.journal_text.specs.Fronts.{BeginsWithNone}
use Rattle.journal_text.proofs.StepLemmas.{no_place}
use Rattle.journal_text.proofs.line.read_take.Goals as goal

pub returns-in_err-place-clause-none : goal.returns-in_err-place-clause-none
returns-in_err-place-clause-none c =
    subst (λ o. IfNone o (BeginsWithNone Fits step_line (84 ∷ 32 ∷ c.args.text.now))) (sym c.from_residual-in_err-place.ensures)
    (no_place c.args.text.now c.in_ok-process.behind.now c.in_ok-process.process c.in_ok-process.ensures.found.0 c.in_ok-process.ensures.found.1 c.in_err-place.ensures.none)
