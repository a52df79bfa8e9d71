use Rattle.std.proofs.Common.{arith}
use Rattle.journal_text.proofs.AnswerLemmas.{accepted, refused, bounded}
use Rattle.journal_text.proofs.TextLemmas.{length-lines}
use Rattle.journal_text.proofs.steps.read_steps.Goals as goal

pub returns-then-count-most-clause-accepts : goal.returns-then-count-most-clause-accepts
returns-then-count-most-clause-accepts c steps fits is low = absurd (omega (arith, length-lines steps c.args.text.now fits is))

pub returns-clause-within : goal.returns-clause-within
returns-clause-within c = bounded c.args.text.now c.args.most c.read_lines.result c.read_lines.ensures.steps c.read_lines.ensures.fits (omega arith)

pub returns-clause-accepts : goal.returns-clause-accepts
returns-clause-accepts c steps fits is low =
    accepted c.args.text.now c.count_lines-count.result c.read_lines.result c.read_lines.ensures.steps c.read_lines.ensures.fits c.read_lines.ensures.fault
    steps fits is (omega (arith, length-lines steps c.args.text.now fits is))

pub returns-clause-refuses : goal.returns-clause-refuses
returns-clause-refuses c n low first =
    refused c.args.text.now c.count_lines-count.result c.read_lines.result c.read_lines.ensures.steps c.read_lines.ensures.fits c.read_lines.ensures.fault
    n (omega arith) first
