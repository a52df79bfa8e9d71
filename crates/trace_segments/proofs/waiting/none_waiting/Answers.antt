use Rattle.std.proofs.Common.{refl, add-one}
use Rattle.trace_segments.proofs.WaitingLemmas.{repeat-more}
use Rattle.trace_segments.proofs.waiting.none_waiting.Goals as goal

pub loop-process-preserved : goal.loop-process-preserved
loop-process-preserved c =
    rw (c.in_ok-push.ensures.items, c.new.ensures, c.loop-process.invariant, repeat-more) (rw add-one refl)
