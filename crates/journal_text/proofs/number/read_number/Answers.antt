use Rattle.std.proofs.Common.{◌≡◌, ◌<◌, ◌^◌, ◌∙◌, true, false, sym, subst, arith, IfNone}
use Rattle.journal_text.specs.Text.{number_then}
use Rattle.journal_text.specs.Fronts.{BeginsWithNone}
use Rattle.journal_text.proofs.DigitLemmas.{no_digit_first, zero_is_cut, zero_is_read}
use Rattle.journal_text.proofs.number.read_number.Goals as goal

pub returns-in_err-behind-clause-none : goal.returns-in_err-behind-clause-none
returns-in_err-behind-clause-none c =
    subst (λ o. IfNone o (BeginsWithNone (λ n. n < 2 ^ 32) (number_then c.args.end) c.args.text.now)) (sym c.from_residual.ensures)
    (no_digit_first c.args.end c.args.text.now (λ leading. (let bad : true ≡ false = sym (c.is_leading.ensures.1 leading) ∙ c.if-is_leading.false in cc)) c.in_err-behind.ensures.none)

pub returns-in_err-rest-clause-none : goal.returns-in_err-rest-clause-none
returns-in_err-rest-clause-none c =
    subst (λ o. IfNone o (BeginsWithNone (λ n. n < 2 ^ 32) (number_then c.args.end) c.args.text.now)) (sym c.from_residual-in_err-rest.ensures)
    (zero_is_cut c.args.end c.args.text.now c.in_ok-behind.behind.now c.in_ok-behind.ensures.found c.in_err-rest.ensures.none)

pub returns-clause-found : goal.returns-clause-found
returns-clause-found c =
    (omega arith, zero_is_read c.args.end c.args.text.now c.in_ok-behind.behind.now c.in_ok-rest.rest.now c.in_ok-behind.ensures.found c.in_ok-rest.ensures.found)
