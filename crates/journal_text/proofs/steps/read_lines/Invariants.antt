use Rattle.std.proofs.Common.{◌≡◌, ◌++◌, All, length}
use Rattle.journal_text.specs.Text.{Fits, steps_text}
use Rattle.journal_text.proofs.steps.read_lines.Given as goal

abbrev pub invariant-loop-rest : goal.invariant-loop-rest
invariant-loop-rest l = record {
  fits : All Fits l.steps.items;
  whole : steps_text l.steps.items ++ l.rest ≡ l.fn.text;
}

abbrev pub decreases-loop-rest : goal.decreases-loop-rest
decreases-loop-rest l = length l.rest
