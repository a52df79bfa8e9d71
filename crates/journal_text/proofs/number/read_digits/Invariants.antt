use Rattle.std.proofs.Common.{length}
use Rattle.journal_text.proofs.DigitLemmas.{IsReadTo}
use Rattle.journal_text.proofs.number.read_digits.Given as goal

abbrev pub invariant-loop-rest : goal.invariant-loop-rest
invariant-loop-rest l = IsReadTo l.text l.rest l.value

abbrev pub decreases-loop-rest : goal.decreases-loop-rest
decreases-loop-rest l = length l.rest
