use Rattle.std.proofs.Common.{sym, subst}
use Rattle.trace_segments.specs.Words.{AreFew}
use Rattle.trace_segments.proofs.WaitingLemmas.{few-none}
use Rattle.trace_segments.proofs.gather.Gather.new.Goals as goal

pub invariant_of-result : goal.invariant_of-result
invariant_of-result c = (c.requires, subst (AreFew 0) (sym c.in_ok-none_waiting.ensures) (few-none c.args.processes))
