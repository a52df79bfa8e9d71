use Rattle.std.proofs.Common.{get_or, sym, ◌∙◌, arith}
use Rattle.std.proofs.lemmas.List.{take_rest}
use Rattle.journal_text.proofs.DigitLemmas.{ends_there, cut_there, great_there, more_there, nothing_there, not_digit}
use Rattle.journal_text.proofs.number.read_digits.Goals as goal

pub returns-then-byte-end-clause-found : goal.returns-then-byte-end-clause-found
returns-then-byte-end-clause-found c =
    let rest = c.loop-rest.rest.now in (
      c.loop-rest.invariant.small,
      rw (take_rest rest 1) (ends_there c.args.end c.args.text.now rest c.loop-rest.value c.requires.end c.loop-rest.invariant c.in-len1-up.len_at_least c.requires.leading c.if-byte-end.true),
    )

pub returns-then-not-is_ascii_digit-clause-none : goal.returns-then-not-is_ascii_digit-clause-none
returns-then-not-is_ascii_digit-clause-none c =
    cut_there c.args.end c.args.text.now c.loop-rest.rest.now c.loop-rest.value c.requires.end c.loop-rest.invariant c.in-len1-up.len_at_least c.if-byte-end.false
    (not_digit (get_or c.loop-rest.rest.now 0 0) (sym c.is_ascii_digit.ensures.value ∙ c.if-not-is_ascii_digit.true))

pub returns-then-value-from-clause-none : goal.returns-then-value-from-clause-none
returns-then-value-from-clause-none c =
    great_there c.args.end c.args.text.now c.loop-rest.rest.now c.loop-rest.value c.requires.end c.loop-rest.invariant c.in-len1-up.len_at_least c.if-not-is_ascii_digit.ensures.bound
    (omega (arith, c.if-value-from.true, c.from.ensures, c.from-in-len1-up.ensures))

pub loop-rest-preserved : goal.loop-rest-preserved
loop-rest-preserved c =
    let rest = c.loop-rest.rest.now in
    rw (take_rest rest 1, c.from.ensures)
    (more_there c.args.end c.args.text.now rest c.loop-rest.value c.requires.end c.loop-rest.invariant c.in-len1-up.len_at_least c.if-not-is_ascii_digit.ensures.bound
    (omega (arith, c.if-value-from.false, c.from.ensures, c.from-in-len1-up.ensures)))

pub returns-clause-none : goal.returns-clause-none
returns-clause-none c = nothing_there c.args.end c.args.text.now c.loop-rest.rest.now c.loop-rest.value c.requires.end c.loop-rest.invariant c.in_default.len_below
