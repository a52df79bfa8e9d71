use Rattle.std.proofs.Common.{◌≡◌, ℕ, true, length}
use Rattle.actor_run.specs.RunningAhead.{is_marked}
use Rattle.seq_tables.specs.Lines.{IsOpenLine}
use Rattle.seq_tables.proofs.lines.lines_ahead.Given as goal

abbrev pub invariant-loop-process : goal.invariant-loop-process
invariant-loop-process l = record {
  count : length l.marks.items ≡ l.process;
  lines : (p : ℕ) → is_marked l.marks.items p ≡ true → IsOpenLine l.network p;
}
