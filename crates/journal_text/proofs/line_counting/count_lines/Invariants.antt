use Rattle.std.proofs.Common.{◌≡◌, ◌+◌, ◌≤◌, length, drop}
use Rattle.journal_text.specs.Lines.{lines}
use Rattle.journal_text.proofs.LineLemmas.{lines_begun}
use Rattle.journal_text.proofs.line_counting.count_lines.Given as goal

abbrev pub invariant-loop-byte : goal.invariant-loop-byte
invariant-loop-byte l = record {
  within : l.count ≤ l.byte-index;
  count_is : l.count + lines_begun l.begins (drop l.byte-index l.text) ≡ length (lines l.text);
}
